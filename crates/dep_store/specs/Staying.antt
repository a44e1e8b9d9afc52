-- What stays of a store over a call that reads.
use Rattle.std.specs.Prelude.{◌≡◌, IsTrue, Result, IfOk}
use Rattle.sqlite.specs.State as db
use Rattle.sqlite.specs.Tree.{Trees}
use Rattle.dep_types.specs.State.{State}
use Rattle.dep_tables.specs.Tables.{Tables}
use Rattle.dep_exchange.specs.Archives.{KeepsAll}
use Rattle.dep_views.specs.declared.ahead.WorkAhead.{WorkAhead}
use Rattle.dep_transactions.specs.OpenTables.{Holds, StaysFile}
use Rattle.dep_transactions.specs.Performing.{KeepsWorkAhead}
use Rattle.dep_transactions.specs.States.{StoreRepresents, DatabaseLeaves}
use Rattle.dep_store.specs.Archive.{shown_by}

-- whatever its tables are, they stay, while it is open
abbrev pub TablesStay : (old new : db.State) → Type 0
TablesStay old new = IsTrue new.is_open → (t : Tables) → StaysFile old t → StaysFile new t

-- a crash leaves nothing that it might not have left before
abbrev pub LeavesOnly : (old new : db.State) → Type 0
LeavesOnly old new = db.HasCleanDisk new → (trees : Trees) → new.may_leave trees
    → old.may_leave trees

-- what was hashed of uploads is what was received of them still, and nothing that is kept changes
pub record HashesOn (old new : db.State) (before after : WorkAhead) : Type 0 where
  pub ahead : KeepsWorkAhead old new before after
  pub rests : KeepsAll (shown_by old) (shown_by new)
  pub left : LeavesOnly old new

-- an Ok says this of its tables, which stay, whether they represent a state or not
pub record ReportsTables {A E : Type 0} (old new : db.State) (reported : Tables → A → Type 0)
    (result : Result A E) : Type 0 where
  pub ok : db.HasCleanDisk new → (t : Tables) → StaysFile old t
      → IfOk result (λ answer. reported t answer × StaysFile new t)
  pub still : TablesStay old new
  pub honest : db.HasCleanDisk new → db.HasCleanDisk old
  pub was_open : IsTrue new.is_open → IsTrue old.is_open
  pub stop : db.HasCleanDisk new → (t : Tables) → StaysFile old t → (trees : Trees)
      → new.may_leave trees → Holds trees t

-- the tables stay, and a crash leaves the state for which they stood, if they represented one
pub record KeepsTables (old new : db.State) : Type 0 where
  pub still : TablesStay old new
  pub honest : db.HasCleanDisk new → db.HasCleanDisk old
  pub was_open : IsTrue new.is_open → IsTrue old.is_open
  pub stop : db.HasCleanDisk new → (s : State) → StoreRepresents old s → DatabaseLeaves new (λ left. left ≡ s)
