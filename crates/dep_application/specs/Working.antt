-- What work on a database in a file makes of it, and how it ends.
use Rattle.std.specs.Prelude.{Option, Some, None, IsTrue}
use Rattle.sqlite_disk.specs.declared.Disk as disk
use Rattle.sqlite_disk.specs.declared.Files.{Files}
use Rattle.sqlite_wal.specs.Reads.{AreClean}
use Rattle.sqlite_trees.specs.View.{IsClean}
use Rattle.sqlite_trees.specs.declared.store.Store.{Ghosts}
use Rattle.sqlite_store.specs.declared.store.FileStore.{FileStore}
use Rattle.sqlite_store.specs.FileStore.{view}
use Rattle.sqlite.specs.Closing.{IsCopied}
use Rattle.sqlite.specs.Files.{over_files, FailsToClose}
use Rattle.sqlite.specs.Held.{Held, IsNew}
use Rattle.sqlite.specs.Opening.{is_open_error}
use Rattle.sqlite.specs.declared.error.Error.{Error}
use Rattle.dep_program.specs.declared.outcome.Outcome.{Outcome}
use Rattle.dep_program.specs.declared.outcome.Outcome.TheVariants.{Done, StoreFault}

-- how work ends, by the database that it was given and the one that it hands back
abbrev pub DatabaseWork : Type 1
DatabaseWork = (S : Type 0) → Ghosts S → (given back : Held S) → Outcome → Type 0

-- where all was done, the database has to be closed too
abbrev pub outcome_unclosed : Outcome → Outcome
outcome_unclosed Done = StoreFault
outcome_unclosed outcome = outcome

module _ {D : Type 0} (g : disk.Ghosts D) (work : DatabaseWork) where
  -- It ended so on this database, and then that was closed: its last commit is in its file. Or it couldn't be.
  pub data EndsWork (given : Held (FileStore D g)) : Outcome → Type 0 where
    closed : {outcome : Outcome} (back : Held (FileStore D g)) (files : Files D)
        → work (FileStore D g) over_files given back outcome
        → (AreClean g files.log files.db → IsCopied back files) → EndsWork given outcome
    not_closed : {outcome : Outcome} (back : Held (FileStore D g)) (last : FileStore D g) (e : Error)
        → work (FileStore D g) over_files given back outcome
        → (IsClean (view last) → FailsToClose back last e)
        → EndsWork given (outcome_unclosed outcome)

  -- so it did on a database that was opened; none was, for a reason
  pub data EndsWorkOnFile : Option Outcome → Type 0 where
    opened : {outcome : Outcome} (given : Held (FileStore D g)) → IsNew given
        → EndsWork given outcome → EndsWorkOnFile (Some outcome)
    not_opened : (e : Error) → IsTrue (is_open_error e) → EndsWorkOnFile None
