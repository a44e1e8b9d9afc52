-- Why a database is opened, and why it is not.
use Rattle.std.specs.Prelude.{◌≡◌, ◌⊎◌, List, IsTrue, Result, IfErr, OnOk}
use Rattle.sqlite.specs.State.{HasCleanDisk, IsUnchanged}
use Rattle.sqlite.specs.Held.{Held, state}
use Rattle.sqlite_trees.specs.declared.store.Store.{Ghosts}
use Rattle.dep_types.specs.declared.store_fault.StoreFault.{StoreFault}
use Rattle.dep_tables.specs.Tables.{tables_of, IsKnown}
use Rattle.dep_tables.specs.Versions.{our_version, older_version}
use Rattle.dep_tables.specs.declared.sha512s.FileSha512.{FileSha512}
use Rattle.dep_migrations.specs.Beside.{AreNewNamesFree}
use Rattle.dep_schema.specs.OpenFaults.{open_fault_for, FailsToOpen, ShowsOrMakes, ReportsVersion}
use Rattle.dep_transactions.specs.OpenTables.{begun}
use Rattle.dep_schema.specs.Openable.{SeesTheSame}
use Rattle.dep_transactions.specs.Upgrading.{FailsToUpgrade}
use Rattle.dep_schema.specs.declared.opening.OpenFault.{OpenFault}
use Rattle.dep_schema.specs.Causes.{FailsToHashFiles}
use Rattle.dep_schema.specs.Sha512s.{AreValuesOf}

module _ {S : Type 0} (g : Ghosts S) (old : Held S) where
  -- The names that version 2 has beside version 1 were free once the values were computed. To compute them changes nothing
  -- in tables of ours.
  abbrev pub HadFreeNames : Type 0
  HadFreeNames = (hashed : Held S)
      × (IsKnown (state g old) → (state g hashed).now ≡ (state g old).now)
      × AreNewNamesFree (state g hashed).now.schema

  -- why there are tables of version 2: it is shown, or there is no `format` and they are made; or version 1 is shown, and
  -- the names were free
  abbrev pub FindsOrUpgrades : Type 0
  FindsOrUpgrades =
      ShowsOrMakes g (begun old) our_version
      ⊎ (ReportsVersion (state g old) older_version × HadFreeNames)

module _ {S : Type 0} (g : Ghosts S) (old new : Held S) where
  -- why tables of version 1 don't become those of version 2: a value was not computed; or all were, and a statement of the
  -- upgrade failed, or its commit
  abbrev pub FailsToMigrate : StoreFault → Type 0
  FailsToMigrate fault =
      FailsToHashFiles (state g) (state g old) (state g new) fault
      ⊎ ((hashed : Held S) × IsUnchanged (state g old) (state g hashed)
      × (values : List FileSha512) × AreValuesOf (tables_of (state g old)) values
      × FailsToUpgrade g hashed new values fault)

module _ {S : Type 0} (g : Ghosts S) (old new : Held S) where
  -- why an open fails: no tables are found or made; or version 1 is shown, and tables of ours were not migrated
  abbrev pub FailsToOpenTables : OpenFault → Type 0
  FailsToOpenTables fault =
      FailsToOpen g old new fault
      ⊎ (ReportsVersion (state g old) older_version
      × (opened : Held S) × SeesTheSame (state g old) (state g opened)
      × (reported : StoreFault) × (fault ≡ open_fault_for reported)
      × (IsKnown (state g old) → FailsToMigrate g opened new reported))

module _ {S : Type 0} (g : Ghosts S) (old : Held S) where
  -- an open that was done has a cause
  abbrev pub OpensFor : Held S → Type 0
  OpensFor opened = HasCleanDisk (state g opened) → FindsOrUpgrades g old

  -- and so has one that failed, with the connection that it hands back
  abbrev pub RefusesFor : OpenFault × Held S → Type 0
  RefusesFor refused = HasCleanDisk (state g refused.1) → FailsToOpenTables g old refused.1 refused.0

module _ {S A : Type 0} (g : Ghosts S) (old new : Held S) (result : Result A StoreFault) where
  -- only where the names were free, tables of version 1 become those of version 2
  abbrev pub MigratesToFree : Type 0
  MigratesToFree = HasCleanDisk (state g new) → IsTrue (state g old).is_open → OnOk result (HadFreeNames g old)

  -- over tables of ours a migration that failed has a cause
  abbrev pub FailsMigrating : Type 0
  FailsMigrating = HasCleanDisk (state g new) → IsTrue (state g old).is_open → IsKnown (state g old)
      → IfErr result (FailsToMigrate g old new)
