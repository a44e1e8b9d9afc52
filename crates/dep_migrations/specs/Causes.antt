-- Why a call of several statements fails: one of its statements does.
use Rattle.sqlite.specs.State as db
use Rattle.sqlite.specs.State.{Survives}
use Rattle.dep_types.specs.declared.store_fault.StoreFault.{StoreFault}

-- a statement fails so, after others that committed nothing and forgot no fault
pub record FailsSince {T : Type 0} (state : T → db.State)
    (fails : db.State → db.State → StoreFault → Type 0)
    (old new : T) (fault : StoreFault) : Type 0 where
  pub at : T
  pub since : Survives (state old) (state at) (λ _. ⊥)
  pub by : fails (state at) (state new) fault
