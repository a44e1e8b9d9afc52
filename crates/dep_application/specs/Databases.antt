-- What is made of the database of a store that is opened and served, and what a stop then leaves of it.
use Rattle.std.specs.Prelude.{◌≡◌, ℕ, List, [], ◌∷◌, ◌++◌, All, IsTrue}
use Rattle.sqlite.specs.State as db
use Rattle.sqlite.specs.Held.{Held, state}
use Rattle.sqlite_trees.specs.declared.store.Store.{Ghosts}
use Rattle.dep_types.specs.State.{State, empty_state}
use Rattle.dep_types.specs.Config.{IsChecked}
use Rattle.dep_types.specs.declared.config.Config.{Config}
use Rattle.dep_schema.specs.Openable.{HoldsNone}
use Rattle.dep_transactions.specs.States.{StoreRepresents, IsLeftAs, DatabaseLeaves}
use Rattle.dep_store.specs.Migrating.{KeepsDatabase, OpenLeaves}
use Rattle.dep_exchange.specs.Records.{World, Record, Run, first_world, stopped}
use Rattle.dep_connection.specs.Turns.{ArePieces}
use Rattle.dep_commands.specs.Serves.{Conversation, all_records_of, AreServed}
use Rattle.dep_program.specs.declared.outcome.Outcome.{Outcome}
use Rattle.dep_program.specs.declared.outcome.Outcome.TheVariants.{Usage, StoreFault, TransferFault}

-- It was opened as a store: an empty database represents the initial state, and one that a store left for the state
-- for which it was left. That is what a stop leaves of it.
pub record IsKeptAsStore (old new : db.State) : Type 0 where
  pub fresh : IsTrue new.is_open → HoldsNone old.now.trees → StoreRepresents new empty_state
  pub found : IsTrue new.is_open → (s : State) → IsLeftAs old.now.trees s → StoreRepresents new s
  pub stop : OpenLeaves old new

-- It was not opened as a store: it keeps what an open that failed keeps. What a stop leaves is that of an open.
pub record IsNotOpened (old new : db.State) : Type 0 where
  pub kept : IsTrue new.is_open → KeepsDatabase old new
  pub stop : OpenLeaves old new

-- these records led from the first state to the one for which it stands; with a stop they lead to what a stop leaves
pub record LedTo (config : Config) (d : db.State) (first : State) (records : List Record) : Type 0 where
  pub world : World
  pub run : Run config first records world
  pub represents : StoreRepresents d world.state
  pub stop : DatabaseLeaves d (λ left. Run config first (records ++ stopped ∷ []) (first_world left))

-- The machine went on with these records: from the initial state over an empty database, and over one that a store
-- left from all records that may have led to what was left.
pub record ServiceGoesOn (config : Config) (old new : db.State) (more : List Record) : Type 0 where
  pub fresh : IsTrue new.is_open → HoldsNone old.now.trees → LedTo config new empty_state more
  pub again : IsTrue new.is_open → (found : State) → IsLeftAs old.now.trees found
      → (first : State) (records : List Record) → Run config first records (first_world found)
      → LedTo config new first (records ++ more)

-- How serving so many connections ends, and what it does. The configuration is checked before the database is opened.
pub data ServesDatabase {S : Type 0} (g : Ghosts S) (config : Config) (count : ℕ) (given back : Held S)
    : Outcome → Type 0 where
  serves : (talks : List Conversation) (outcome : Outcome) → IsChecked config
      → AreServed talks count outcome → All (λ t. ArePieces t.turns) talks
      → ServiceGoesOn config (state g given) (state g back) (all_records_of talks)
      → ServesDatabase g config count given back outcome
  -- the port could not be had
  not_bound : IsChecked config → IsKeptAsStore (state g given) (state g back)
      → ServesDatabase g config count given back TransferFault
  -- the configuration is refused, and the database left alone
  unchecked : ¬ IsChecked config → back ≡ given → ServesDatabase g config count given back Usage
  -- there was no memory to check it, and the database was left alone
  left_alone : back ≡ given → ServesDatabase g config count given back StoreFault
  -- there was no memory to serve it
  not_begun : IsChecked config → IsKeptAsStore (state g given) (state g back)
      → ServesDatabase g config count given back StoreFault
  not_opened : IsChecked config → IsNotOpened (state g given) (state g back)
      → ServesDatabase g config count given back StoreFault
