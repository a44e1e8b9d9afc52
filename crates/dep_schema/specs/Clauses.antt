-- What the clauses of a call say that reads the tables over a connection.
use Rattle.std.specs.Prelude.{◌≡◌, ◌⊎◌, ⊤, ℕ, List, false, IsTrue, Option, None, Result, Ok, Err, IfOk, IfErr, OnOk}
use Rattle.std.specs.Global.{Vec}
use Rattle.std.specs.Io.KnownBytes.{Appends}
use Rattle.sqlite_trees.specs.declared.store.Store.{Ghosts}
use Rattle.sqlite.specs.Order.{Row}
use Rattle.sqlite.specs.State.{State, HasCleanDisk, IsUnchanged, Shown, Survives}
use Rattle.sqlite.specs.Held.{Held, state}
use Rattle.sqlite.specs.Listing.{understood}
use Rattle.sqlite.specs.Schema.{Schema}
use Rattle.sqlite_resolve.specs.declared.compiled.Compiled.{Compiled}
use Rattle.sqlite_resolve.specs.declared.error.CompileError.{CompileError}
use Rattle.dep_types.specs.declared.store_fault.StoreFault.{StoreFault}
use Rattle.dep_tables.specs.Clauses.{IsPlainIn}
use Rattle.dep_tables.specs.Tables.{Tables, tables_of}
use Rattle.dep_schema.specs.Reading.{StaysOrRollsBack}

-- the text is a query that only shows, by the schema that is seen
abbrev pub OnlyShows : List ℕ → State → Type 0
OnlyShows sql s = IsPlainIn s sql

-- a statement that is understood shows no rows of a write
abbrev pub ShowsNoWrite : Result Compiled CompileError → Type 0
ShowsNoWrite (Ok c) = c.returning ≡ None
ShowsNoWrite (Err e) = ⊤

-- the same of a text by any schema, whether it is understood or not
abbrev pub OnlyReads : List ℕ → Type 0
OnlyReads sql = (schema : Schema) → ShowsNoWrite (understood schema sql)

module _ {S : Type 0} (g : Ghosts S) (old new : Held S) where
  -- what every call keeps that only reads, whatever the tables are, and whatever it returns
  pub record StaysOver : Type 0 where
    -- no fault of the disk is forgotten
    pub honest : HasCleanDisk (state g new) → HasCleanDisk (state g old)
    -- it opens no store that was shut, and begins no transaction
    pub was_open : HasCleanDisk (state g new) → IsTrue (state g new).is_open
        → IsTrue (state g old).is_open
    pub mode : (state g old).in_transaction ≡ false → (state g new).in_transaction ≡ false
    -- Nothing is changed, but that a failure may end a transaction as it began; and a crash leaves nothing that it did
    -- not leave before.
    pub kept : HasCleanDisk (state g new) → StaysOrRollsBack (state g old) (state g new)
    pub survives : Survives (state g old) (state g new) (λ _. ⊥)

module _ {S A E : Type 0} (g : Ghosts S) (old new : Held S) (result : Result A E) where
  -- and an Ok changes nothing at all
  pub record ReadsOverTables : Type 0 where
    pub stays : StaysOver g old new
    pub same : HasCleanDisk (state g new) → OnOk result (IsUnchanged (state g old) (state g new))

  -- the same of a call that may ask nothing
  pub record LeavesOver : Type 0 where
    pub stays : StaysOver g old new
    pub same : HasCleanDisk (state g new)
        → OnOk result ((new ≡ old) ⊎ IsUnchanged (state g old) (state g new))

module _ {S A E : Type 0} (are_ours : State → Type 0) (g : Ghosts S) (old new : Held S)
    (result : Result A E) where
  -- where the tables are ours, an Ok says this of what the connection sees
  abbrev pub ReportsSeen : (State → A → Type 0) → Type 0
  ReportsSeen reported = HasCleanDisk (state g new) → are_ours (state g old)
      → IfOk result (reported (state g old))

  -- the same of the tables
  abbrev pub ReportsOver : (Tables → A → Type 0) → Type 0
  ReportsOver reported = ReportsSeen (λ s. reported (tables_of s))

  -- there a failure has this cause
  abbrev pub FailsOver : (State → State → E → Type 0) → Type 0
  FailsOver why = HasCleanDisk (state g new) → are_ours (state g old)
      → IfErr result (why (state g old) (state g new))

-- all that a call says which asks a query that only shows, whatever the tables are
pub record ShowsOver {S : Type 0} (g : Ghosts S) (old new : Held S) (sql : List ℕ) (params : Row)
    (result : Result (Vec Row) StoreFault) (why : State → State → StoreFault → Type 0)
    : Type 0 where
  pub shows : HasCleanDisk (state g new)
      → IfOk result (λ rows. Shown sql params (state g old) (state g new) rows.items)
  pub cause : HasCleanDisk (state g new) → IfErr result (why (state g old) (state g new))
  pub reads : ReadsOverTables g old new result

-- all that a call says which looks something up: what is found, why it was not, and what is kept
pub record FindsOver {S A E : Type 0} (are_ours : State → Type 0) (g : Ghosts S) (old new : Held S)
    (result : Result A E) (found : Tables → A → Type 0) (why : State → State → E → Type 0)
    : Type 0 where
  pub ok : ReportsOver are_ours g old new result found
  pub cause : FailsOver are_ours g old new result why
  pub reads : ReadsOverTables g old new result

-- bytes were written to the outlet, and where the tables are ours this holds of them
abbrev pub GivesOver : {S : Type 0} → (State → Type 0) → (g : Ghosts S) (old new : Held S)
    (taken taken_after : Option (List ℕ)) → (State → List ℕ → Type 0) → Type 0
GivesOver are_ours g old new taken taken_after reported =
    (sent : List ℕ) × Appends taken taken_after sent
    × (HasCleanDisk (state g new) → are_ours (state g old) → reported (state g old) sent)
