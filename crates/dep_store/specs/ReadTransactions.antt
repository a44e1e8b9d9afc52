-- What is read in a transaction that is given back.
use Rattle.std.specs.Prelude.{◌≡◌, false, IsTrue, Result, Ok, IfOk}
use Rattle.sqlite.specs.State as db
use Rattle.sqlite.specs.State.{HasCleanDisk}
use Rattle.dep_types.specs.State.{State}
use Rattle.dep_types.specs.Sound.{IsSound}
use Rattle.dep_row_maps.specs.Clauses.{FromMaps}
use Rattle.dep_exchange.specs.Archives.{KeepsAll}
use Rattle.dep_transactions.specs.States.{StoreRepresents}
use Rattle.dep_transactions.specs.Transactions.{FindsOpen, IsRestored}
use Rattle.dep_store.specs.Archive.{shown_by}
use Rattle.dep_store.specs.Staying.{LeavesOnly}

-- in a transaction, while the store is open, this is told of each state that the tables represent
abbrev pub ReportsFrom : (old new : db.State) → (State → Type 0) → Type 0
ReportsFrom old new reported = IsTrue old.is_open → FromMaps old new (λ s. IsSound s → reported s)

-- So it is of each state that the store represented, and nothing that is kept changes. All was given back, unless a
-- transaction was under way.
pub record GivesBack (old new : db.State) (reported : State → Type 0) : Type 0 where
  pub reports : IsTrue new.is_open → (s : State) → StoreRepresents old s → reported s
  pub restored : old.in_transaction ≡ false → IsRestored old new
  pub rests : KeepsAll (shown_by old) (shown_by new)
  pub left : LeavesOnly old new

-- so an Ok is told, over a store that is open then
pub record ReadsOpen {A E : Type 0} (old new : db.State) (reported : Result A E → State → Type 0)
    (result : Result A E) : Type 0 where
  pub reports : IfOk result (λ answer. HasCleanDisk new → (s : State) → StoreRepresents old s
      → reported (Ok answer) s)
  pub finds : FindsOpen old new result
