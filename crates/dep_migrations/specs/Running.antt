-- What a call of several statements does inside a transaction.
use Rattle.std.specs.Prelude.{IsTrue, Result, OnOk, IfErr}
use Rattle.dep_tables.specs.Clauses.{StaysWithin}
use Rattle.dep_types.specs.declared.store_fault.StoreFault.{StoreFault}
use Rattle.sqlite.specs.Effect.{Database}
use Rattle.sqlite.specs.State.{State, HasCleanDisk}

-- inside a transaction, an Ok does this to the database that the connection sees
abbrev pub TurnsDatabase : {A E : Type 0} → State → State → Result A E → (Database → Database → Type 0) → Type 0
TurnsDatabase old new result does = HasCleanDisk new → IsTrue old.in_transaction
    → OnOk result (does old.now new.now)

-- there an Err has a cause of these, and whatever is answered, what every call on a transaction keeps
pub record WorksWithin {T L A : Type 0} (lenders : T → L) (state : T → State) (old new : T)
    (result : Result A StoreFault) (Fails : StoreFault → Type 0) : Type 0 where
  pub cause : HasCleanDisk (state new) → IsTrue (state old).in_transaction → IfErr result Fails
  pub stays : StaysWithin lenders state old new result
