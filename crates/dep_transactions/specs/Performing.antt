-- What is made of a request over the tables.
use Rattle.std.specs.Prelude.{◌≡◌, ◌↔◌, false, IsTrue, Result, IfOk, OnOk}
use Rattle.sqlite.specs.State as db
use Rattle.dep_types.specs.State.{State}
use Rattle.dep_types.specs.declared.config.Config.{Config}
use Rattle.dep_types.specs.declared.store_fault.StoreFault.{StoreFault}
use Rattle.dep_fields.specs.Fit.{AreFit}
use Rattle.dep_decisions.specs.declared.operation.Operation.{Operation}
use Rattle.dep_tables.specs.Tables.{Tables}
use Rattle.dep_views.specs.Ahead.{IsAhead}
use Rattle.dep_views.specs.declared.ahead.WorkAhead.{WorkAhead}
use Rattle.dep_requests.specs.Performing.{ChangesNothing, IsDone}
use Rattle.dep_requests.specs.declared.performing.Done.{Done}
use Rattle.dep_answers.specs.Steps.{operation_step}
use Rattle.dep_answers.specs.Performing.{IsReady}
use Rattle.dep_transactions.specs.States.{StoreRepresents}
use Rattle.dep_transactions.specs.Transactions.{OverStates, OverStatesWhere, IsGivenBack}

-- the reply of the step is ready
abbrev pub HasReplyReady : Config → Operation → State → Done → Type 0
HasReplyReady config op s done = IsReady (operation_step config s op) done.performed

-- what a request makes of the tables: those of the step's state, for each state that they represented and of which what was
-- hashed ahead is true
abbrev pub StepsOver : Config → Operation → WorkAhead → Tables → Done → Tables → Type 0
StepsOver config op ahead before done after = AreFit op.fields
    → OverStatesWhere (λ s. IsAhead s ahead) (HasReplyReady config op)
    (λ s. (operation_step config s op).state) before done after

-- so it is where nothing needs to have been hashed ahead
abbrev pub StepsAlone : Config → Operation → Tables → Done → Tables → Type 0
StepsAlone config op before done after = AreFit op.fields
    → OverStates (HasReplyReady config op) (λ s. (operation_step config s op).state) before done after

-- and where nothing was
abbrev pub IsDoneAlone : (old new : db.State) → Config → Operation → Done → Type 0
IsDoneAlone old new config op done = (none : WorkAhead) × ((s : State) → IsAhead s none)
    × IsDone old new config op none done

module _ (old new : db.State) (result : Result Done StoreFault) where
  -- it returns that nothing was changed just where it is refused, or only asks to be shown
  abbrev pub ReportsChanges : Config → Operation → WorkAhead → Type 0
  ReportsChanges config op ahead = db.HasCleanDisk new → (s : State) → StoreRepresents old s
      → IsAhead s ahead
      → IfOk result (λ done. done.has_changes ≡ false ↔ ChangesNothing config s op)

  -- where nothing was changed the transaction was given back
  abbrev pub IsBackUnchanged : Type 0
  IsBackUnchanged = IfOk result (λ done. done.has_changes ≡ false → IsGivenBack old new)

-- What was hashed of uploads is what was received of them, as it was before, in each state for which
-- it stood, while it is open.
abbrev pub KeepsWorkAhead : (old new : db.State) → (before ahead : WorkAhead) → Type 0
KeepsWorkAhead old new before ahead = IsTrue new.is_open
    → (s : State) → StoreRepresents old s → IsAhead s before → IsAhead s ahead

-- what is refused, and what only shows, commits nothing and leaves the database as it was
abbrev pub IsKeptUnchanged : {A : Type 0} → (old new : db.State) → Result A StoreFault
    → Config → Operation → WorkAhead → Type 0
IsKeptUnchanged old new result config op ahead = db.HasCleanDisk new → (s : State)
    → StoreRepresents old s → IsAhead s ahead → ChangesNothing config s op
    → OnOk result (IsGivenBack old new)
