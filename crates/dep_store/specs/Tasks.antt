-- What is done in a transaction, whatever runs the statements.
use Rattle.std.specs.Prelude.{IsTrue, Result, IfOk, OnOk}
use Rattle.sqlite.specs.State as db
use Rattle.sqlite.specs.State.{HasCleanDisk}
use Rattle.dep_tables.specs.Clauses.{StaysWithin}
use Rattle.dep_tables.specs.Tables.{Tables, tables_of, IsOurs}
use Rattle.dep_transactions.specs.Transactions.{Transacts}

-- inside a transaction over our tables an Ok makes this of them, and they are ours still
pub record MakesTables {T L A E : Type 0} (lenders : T → L) (state : T → db.State) (old new : T)
    (result : Result A E) (this : Tables → A → Tables → Type 0) : Type 0 where
  pub made : HasCleanDisk (state new) → IsTrue (state old).in_transaction → IsOurs (state old)
      → IfOk result (λ answer. IsOurs (state new)
      × this (tables_of (state old)) answer (tables_of (state new)))
  pub stays : StaysWithin lenders state old new result

-- an Ok has committed this, and found the store open
pub record TransactsIfOpen {A E : Type 0} (old new : db.State) (result : Result A E)
    (this : Tables → A → Tables → Type 0) : Type 0 where
  pub transacts : Transacts old new result this
  pub opened : HasCleanDisk new → OnOk result (IsTrue old.is_open)
