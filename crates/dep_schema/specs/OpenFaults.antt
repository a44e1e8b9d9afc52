-- Why a database is not opened: by what the query for its version shows, or by a statement that fails.
use Rattle.std.specs.Prelude.{◌≡◌, ◌≢◌, ◌⊎◌, ℕ, ℤ, pos, List, [], ◌∷◌, Option, None, Some, Result, Ok, Err, IsSome, MatchResult}
use Rattle.sqlite.specs.Order.{Row, column}
use Rattle.sqlite.specs.declared.types.Value.TheVariants.{Int}
use Rattle.sqlite.specs.declared.error.Error.{Error}
use Rattle.sqlite.specs.declared.error.Error.TheVariants.{SqlInputError}
use Rattle.sqlite.specs.State.{State, Shown, FailsToQuery, IsTooLate, Fails, HasCause, store_error}
use Rattle.sqlite.specs.Held.{Held, state}
use Rattle.sqlite_trees.specs.declared.store.Store.{Ghosts}
use Rattle.sqlite_trees.specs.declared.error.StoreError.{StoreError}
use Rattle.sqlite_resolve.specs.declared.error.CompileError.{CompileError}
use Rattle.sqlite_resolve.specs.declared.error.CompileError.TheVariants.{NoSuchTable}
use Rattle.dep_types.specs.declared.store_fault.StoreFault.{StoreFault}
use Rattle.dep_types.specs.declared.store_fault.StoreFault.TheVariants as store
use Rattle.dep_tables.specs.Clauses.{CommitsNothing}
use Rattle.dep_tables.specs.Faults.{fault_for}
use Rattle.dep_tables.specs.Tables.{tables_of}
use Rattle.dep_tables.specs.Versions.{our_version, IsKnownVersion}
use Rattle.dep_migrations.specs.Beside.{AreFree, LacksFormat}
use Rattle.dep_migrations.specs.Faults.{FailsToMake}
use Rattle.dep_transactions.specs.OpenTables.{begun}
use Rattle.dep_schema.specs.Openable.{HasKnownVersion}
use Rattle.dep_schema.specs.Texts.{find_format_text}
use Rattle.dep_schema.specs.declared.opening.OpenFault.{OpenFault}
use Rattle.dep_schema.specs.declared.opening.OpenFault.TheVariants as open_fault

abbrev pub open_fault_for : StoreFault → OpenFault
open_fault_for store.Store = open_fault.Store
open_fault_for store.Memory = open_fault.Memory

-- the number of each fault, 1 to 3
abbrev pub open_fault_number : OpenFault → ℕ
open_fault_number open_fault.UnknownVersion = 1
open_fault_number open_fault.Store = 2
open_fault_number open_fault.Memory = 3

-- the fault is the one for this error of SQLite
abbrev pub ReportsError : Error → OpenFault → Type 0
ReportsError e fault = fault ≡ open_fault_for (fault_for e)

-- what an error of the query for the version means: there is no `format`, or it has no such columns;
-- and else SQLite failed
abbrev pub version_reported_by : Error → Result (Option ℕ) OpenFault
version_reported_by (SqlInputError NoSuchTable) = Ok None
version_reported_by (SqlInputError _) = Err open_fault.UnknownVersion
version_reported_by e = Err (open_fault_for (fault_for e))

-- what the query for the version shows of a version: just one row, of id 1 and this version
abbrev pub AreVersion : ℤ → List Row → Type 0
AreVersion version rows = (found : Row) × (rows ≡ found ∷ [])
    × (column found 0 ≡ Int (pos 1)) × (column found 1 ≡ Int version)

-- the version is one that is known
abbrev pub AreKnownVersion : List Row → Type 0
AreKnownVersion rows = (version : ℕ) × IsKnownVersion version × AreVersion (pos version) rows

-- what is returned of the version by what the query for it shows
abbrev pub FindsVersion : List Row → Result (Option ℕ) OpenFault → Type 0
FindsVersion rows result = MatchResult result
    (λ found. (version : ℕ) × (found ≡ Some version) × IsKnownVersion version
    × AreVersion (pos version) rows)
    (λ fault. (fault ≡ open_fault.UnknownVersion) × (AreKnownVersion rows → ⊥))

module _ (old new : State) where
  -- the query for the version shows this one
  abbrev pub ShowsVersion : ℕ → Type 0
  ShowsVersion version =
      (rows : List Row) × Shown find_format_text [] old new rows × AreVersion (pos version) rows

  -- it fails with this error
  abbrev pub FailsToFindFormat : Error → Type 0
  FailsToFindFormat e = FailsToQuery find_format_text [] old new e ⊎ IsTooLate find_format_text [] old new e

  -- there is no `format`
  abbrev pub ShowsNone : Type 0
  ShowsNone = FailsToFindFormat (SqlInputError NoSuchTable)

  -- it shows something else, or can't be asked of the `format` that is there
  abbrev pub ShowsOther : Type 0
  ShowsOther =
      ((rows : List Row) × Shown find_format_text [] old new rows × (AreKnownVersion rows → ⊥))
      ⊎ ((why : CompileError) × FailsToFindFormat (SqlInputError why) × (why ≢ NoSuchTable))

  -- it fails otherwise than by its text
  abbrev pub FailsOtherwise : OpenFault → Type 0
  FailsOtherwise fault = (e : Error) × FailsToFindFormat e
      × ((why : CompileError) → e ≢ SqlInputError why) × ReportsError e fault

  -- why the query for the version opens nothing
  abbrev pub FailsToFind : OpenFault → Type 0
  FailsToFind fault = ((fault ≡ open_fault.UnknownVersion) × ShowsOther) ⊎ FailsOtherwise fault

  -- SQLite gave out: memory was refused, a fault of the disk was counted, or the store was shut; or the
  -- query for the version was stopped at its limit of steps
  abbrev pub GivesOut : OpenFault → Type 0
  GivesOut fault =
      ((cause : StoreError) × HasCause old new ⊥ cause × ReportsError (store_error cause) fault)
      ⊎ ((fault ≡ open_fault.Store) × IsSome old.step_limit)

  -- why a database with the schema of one of our versions is not opened: its version is none that is known,
  -- and else SQLite gave out
  abbrev pub RefusesKnown : OpenFault → Type 0
  RefusesKnown fault =
      ((fault ≡ open_fault.UnknownVersion) × (HasKnownVersion (tables_of old) → ⊥))
      ⊎ GivesOut fault

-- the query for the version would show this one
abbrev pub ReportsVersion : State → ℕ → Type 0
ReportsVersion s = ShowsVersion s s

-- ---- over a connection, from the beginning of the transaction on

module _ {S : Type 0} (g : Ghosts S) (old new : Held S) where
  -- why no tables are found or made
  abbrev pub FailsToFindOrMake : OpenFault → Type 0
  FailsToFindOrMake fault =
      FailsToFind (state g old) (state g new) fault
      ⊎ ((asked : Held S) × (reported : StoreFault) × ShowsNone (state g old) (state g asked)
      × CommitsNothing (state g old) (state g asked) × FailsToMake (state g) asked new reported
      × (fault ≡ open_fault_for reported))

module _ {S : Type 0} (g : Ghosts S) (old new : Held S) where
  -- why an open fails: no tables are found or made, and its transaction is given up; or the store
  -- failed to commit it, where our names were free if there was no `format`
  abbrev pub FailsToOpen : OpenFault → Type 0
  FailsToOpen fault =
      ((last : Held S) × FailsToFindOrMake g (begun old) last fault
      × CommitsNothing (state g last) (state g new))
      ⊎ ((last : Held S) × (e : Error)
      × (LacksFormat (state g old).now.schema → AreFree (state g old).now.schema)
      × CommitsNothing (state g old) (state g last)
      × Fails (state g last) (state g new) ⊥ e × ReportsError e fault)

module _ {S : Type 0} (g : Ghosts S) (old : Held S) (version : ℕ) where
  -- why there are tables of this version: it is shown, or there is no `format` and it is ours
  abbrev pub ShowsOrMakes : Type 0
  ShowsOrMakes = (asked : Held S)
      × (ShowsVersion (state g old) (state g asked) version
      ⊎ (ShowsNone (state g old) (state g asked) × (version ≡ our_version)))
