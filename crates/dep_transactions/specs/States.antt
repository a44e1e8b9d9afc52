-- What the database of a store represents, and what a crash leaves of it.
use Rattle.std.specs.Prelude.{◌⊎◌}
use Rattle.sqlite.specs.State as db
use Rattle.sqlite.specs.Tree.{Trees}
use Rattle.dep_types.specs.State.{State}
use Rattle.dep_types.specs.Sound.{IsSound}
use Rattle.dep_tables.specs.Tables.{Tables}
use Rattle.dep_row_maps.specs.TablesAre.{TablesAre, OlderTablesAre}
use Rattle.dep_transactions.specs.OpenTables.{Holds, HoldsOlder, StaysFile, IsOpenWithOlder}

-- the rows are those of a sound state
pub record TablesRepresent (tables : Tables) (s : State) : Type 0 where
  pub are : TablesAre tables s
  pub sound : IsSound s

-- the store is open, between transactions, and its tables represent the state
pub record StoreRepresents (d : db.State) (s : State) : Type 0 where
  pub tables : Tables
  pub represents : StaysFile d tables
  pub means : TablesRepresent tables s

-- the rows of version 1 are those of a sound state
pub record OlderTablesRepresent (tables : Tables) (s : State) : Type 0 where
  pub are : OlderTablesAre tables s
  pub sound : IsSound s

-- the same of a store, whose tables are of version 1 still
pub record OlderRepresents (d : db.State) (s : State) : Type 0 where
  pub tables : Tables
  pub represents : IsOpenWithOlder d tables
  pub means : OlderTablesRepresent tables s

-- what a crash left represents the state, in version 2 or in version 1
abbrev pub IsLeftAs : Trees → State → Type 0
IsLeftAs trees s =
    ((t : Tables) × Holds trees t × TablesRepresent t s)
    ⊎ ((t : Tables) × HoldsOlder trees t × OlderTablesRepresent t s)

-- whatever a crash leaves now represents one of these states
abbrev pub DatabaseLeaves : db.State → (State → Type 0) → Type 0
DatabaseLeaves d allowed = (trees : Trees) → d.may_leave trees
    → (left : State) × IsLeftAs trees left × allowed left

-- for each state that it represented, it represents one that is so related to it
abbrev pub Carries : (old new : db.State) → (State → State → Type 0) → Type 0
Carries old new related = (s : State) → StoreRepresents old s
    → (left : State) × StoreRepresents new left × related s left
