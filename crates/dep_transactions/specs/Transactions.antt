-- What a call that is one transaction makes of whatever tables the store has.
use Rattle.std.specs.Prelude.{◌≡◌, ◌⊎◌, false, IsTrue, Result, IfOk, OnOk, OnErr}
use Rattle.sqlite.specs.State as db
use Rattle.sqlite.specs.State.{HasCleanDisk, Survives}
use Rattle.sqlite.specs.Steps.{FailsToCommit}
use Rattle.sqlite.specs.declared.error.Error.{Error}
use Rattle.sqlite.specs.Tree.{Trees}
use Rattle.dep_types.specs.State.{State}
use Rattle.dep_types.specs.declared.store_fault.StoreFault.{StoreFault}
use Rattle.dep_tables.specs.Faults.{fault_for}
use Rattle.dep_tables.specs.Tables.{Tables}
use Rattle.sqlite.specs.Schema.{Schema}
use Rattle.dep_tables.specs.Schema.{our_schema}
use Rattle.dep_transactions.specs.OpenTables.{HoldsOf, IsOpenWithOf}
use Rattle.dep_transactions.specs.States.{TablesRepresent}

-- this is returned of the tables, which stay
abbrev pub OnlyReports : {A : Type 0} → (Tables → A → Type 0) → Tables → A → Tables → Type 0
OnlyReports reported before answer after = reported before answer × (after ≡ before)

-- for each state that the tables represented this is returned, and they represent the next one
abbrev pub OverStates : {A : Type 0} → (State → A → Type 0) → (State → State)
    → Tables → A → Tables → Type 0
OverStates reported next before answer after =
    (s : State) → TablesRepresent before s → reported s answer × TablesRepresent after (next s)

-- the same for each of them of which this holds
abbrev pub OverStatesWhere : {A : Type 0} → (State → Type 0) → (State → A → Type 0)
    → (State → State) → Tables → A → Tables → Type 0
OverStatesWhere holds reported next before answer after =
    (s : State) → TablesRepresent before s → holds s → reported s answer × TablesRepresent after (next s)

-- An Ok has committed what it makes of the tables of one schema, which are of the other then; else they are as they
-- were; a crash leaves one or the other.
pub record TransactsTo (one two : Schema) {A E : Type 0} (old new : db.State) (result : Result A E)
    (Makes : Tables → A → Tables → Type 0) : Type 0 where
  pub ok : HasCleanDisk new → (t : Tables) → IsOpenWithOf one old t
      → IfOk result (λ answer. (after : Tables) × IsOpenWithOf two new after × Makes t answer after)
  pub err : IsTrue new.is_open → (t : Tables) → IsOpenWithOf one old t → OnErr result (IsOpenWithOf one new t)
  pub honest : HasCleanDisk new → HasCleanDisk old
  pub was_open : IsTrue new.is_open → IsTrue old.is_open
  pub stop : HasCleanDisk new → (t : Tables) → IsOpenWithOf one old t → (trees : Trees)
      → new.may_leave trees → HoldsOf one trees t
      ⊎ ((answer : A) × (after : Tables) × HoldsOf two trees after × Makes t answer after)

-- the same of our schema, which stays
abbrev pub Transacts : {A E : Type 0} → (old new : db.State) → Result A E
    → (Tables → A → Tables → Type 0) → Type 0
Transacts old new result Makes = TransactsTo our_schema our_schema old new result Makes

-- while it is open, all is as it was, between transactions
abbrev pub IsBackAt : (old new : db.State) → Type 0
IsBackAt old new = IsTrue new.is_open
    → IsTrue old.is_open × (new.now ≡ old.now) × (new.committed ≡ old.committed)
    × (new.in_transaction ≡ false)

-- it was given back: the store is open, all is as it was, and nothing was committed
pub record IsGivenBack (old new : db.State) : Type 0 where
  pub opened : HasCleanDisk new → IsTrue new.is_open
  pub back : IsBackAt old new
  pub survives : Survives old new (λ _. ⊥)

-- nothing was committed, no transaction is under way, and while the store is open all is as it was
pub record IsRestored (old new : db.State) : Type 0 where
  pub back : IsBackAt old new
  pub mode : new.in_transaction ≡ false
  pub survives : Survives old new (λ _. ⊥)

-- so it is whatever is returned, and an Ok says that the store is open
pub record FindsOpen {A E : Type 0} (old new : db.State) (result : Result A E) : Type 0 where
  pub opened : HasCleanDisk new → OnOk result (IsTrue new.is_open)
  pub restored : IsRestored old new

-- its commit failed, by an error of SQLite for which this fault is returned
abbrev pub FailsToEnd : (inside new : db.State) → StoreFault → Type 0
FailsToEnd inside new fault = (e : Error) × FailsToCommit inside new e × (fault ≡ fault_for e)
