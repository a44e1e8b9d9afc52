-- Why an upgrade fails.
use Rattle.std.specs.Prelude.{◌≡◌, ◌⊎◌, List}
use Rattle.sqlite.specs.State as db
use Rattle.sqlite.specs.State.{Fails}
use Rattle.sqlite.specs.Held.{Held, state}
use Rattle.sqlite.specs.declared.error.Error.{Error}
use Rattle.sqlite_trees.specs.declared.store.Store.{Ghosts}
use Rattle.dep_types.specs.declared.store_fault.StoreFault.{StoreFault}
use Rattle.dep_tables.specs.Clauses.{CommitsNothing}
use Rattle.dep_tables.specs.Faults.{fault_for}
use Rattle.dep_tables.specs.declared.sha512s.FileSha512.{FileSha512}
use Rattle.dep_migrations.specs.Beside.{AreNewNamesFree}
use Rattle.dep_migrations.specs.Upgrading.{FailsToRewrite}
use Rattle.dep_transactions.specs.OpenTables.{begun}

module _ {S : Type 0} (g : Ghosts S) (old new : Held S) (values : List FileSha512) where
  -- why an upgrade fails: one of its statements does, and its transaction is given up; or the names were free, and the
  -- store failed to commit it
  abbrev pub FailsToUpgrade : StoreFault → Type 0
  FailsToUpgrade fault =
      ((last : Held S) × FailsToRewrite (state g) (begun old) last values fault
      × CommitsNothing (state g last) (state g new))
      ⊎ ((last : Held S) × (e : Error) × AreNewNamesFree (state g old).now.schema
      × CommitsNothing (state g old) (state g last) × Fails (state g last) (state g new) ⊥ e
      × (fault ≡ fault_for e))
