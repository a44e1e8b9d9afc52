-- What a stop leaves of a database that is opened for a hub, and how a run ends where no hub is made.
use Rattle.std.specs.Prelude.{◌≡◌, ◌⊎◌, List, [], ◌∷◌, ◌++◌, IsTrue}
use Rattle.sqlite.specs.State as db
use Rattle.sqlite.specs.State.{HasCleanDisk}
use Rattle.sqlite.specs.Held.{Held, state}
use Rattle.sqlite.specs.Tree.{Trees}
use Rattle.dep_types.specs.State.{State, empty_state}
use Rattle.dep_types.specs.Conditions.{Condition}
use Rattle.dep_types.specs.Config.{IsChecked}
use Rattle.dep_types.specs.declared.config.Config.{Config}
use Rattle.dep_schema.specs.Openable.{HoldsNone}
use Rattle.sqlite_trees.specs.declared.store.Store.{Ghosts}
use Rattle.dep_transactions.specs.States.{IsLeftAs, StoreRepresents, DatabaseLeaves}
use Rattle.dep_exchange.specs.Records.{Record, Run, first_world, stopped}
use Rattle.dep_hub.specs.Representing.{RepresentsAfter, IsHonest}
use Rattle.dep_hub.specs.declared.hub.Hub.{Hub}
use Rattle.dep_hub.specs.declared.faults.HubFault.TheVariants as refused
use Rattle.dep_program.specs.declared.outcome.Outcome.{Outcome}
use Rattle.dep_program.specs.declared.outcome.Outcome.TheVariants.{Usage, StoreFault}
use Rattle.dep_application.specs.declared.starting.StartFault.{StartFault}
use Rattle.dep_application.specs.declared.starting.StartFault.TheVariants as fault

-- A database with no table is left so, or as a new store. One that a stop left for some state is
-- left for that state and no other; so whatever records led there, they lead there with one more
-- stop.
pub record OpeningLeaves (config : Config) (old new : db.State) : Type 0 where
  pub fresh : HasCleanDisk new → IsTrue old.is_open → HoldsNone old.now.trees
      → (trees : Trees) → new.may_leave trees → HoldsNone trees ⊎ IsLeftAs trees empty_state
  pub again : HasCleanDisk new → IsTrue old.is_open
      → (found : State) → IsLeftAs old.now.trees found
      → (first : State) (records : List Record) → Run config first records (first_world found)
      → DatabaseLeaves new (λ left. (left ≡ found)
      × Run config first (records ++ stopped ∷ []) (first_world left))

-- over what a stop left of this database for some state, the hub goes on from the records that led there
abbrev pub GoesOnFromStop : {A : Type 0} → (condition : A → Condition) → Config → (old : db.State)
    → Hub A → Type 0
GoesOnFromStop condition config old hub = IsHonest condition hub
    → (found : State) → IsLeftAs old.now.trees found
    → (first : State) (records : List Record) → Run config first records (first_world found)
    → RepresentsAfter condition hub first records

-- the hub is configured so, which was checked, and goes on from what this database was given as, also where a fault shuts it
-- later
pub record IsOpened {A : Type 0} (condition : A → Condition) (config : Config) (old : db.State)
    (hub : Hub A) : Type 0 where
  pub configured : hub.config ≡ config
  pub checked : IsChecked config
  pub fresh : IsHonest condition hub → HoldsNone old.now.trees
      → RepresentsAfter condition hub empty_state []
  pub again : GoesOnFromStop condition config old hub

-- The configuration breaks a rule, which was found before the database was opened.
abbrev pub RefusesConfig : {S : Type 0} → Config → (given : Held S) → StartFault × Held S → Type 0
RefusesConfig config given e =
    e.0 ≡ fault.Hub refused.Config → (¬ IsChecked config) × (e.1 ≡ given)

-- the database is one of a store: a new one where it had no table, and else of what a stop left
abbrev pub IsStore : (old new : db.State) → Type 0
IsStore old new = HasCleanDisk new → (HoldsNone old.now.trees → StoreRepresents new empty_state)
    × ((found : State) → IsLeftAs old.now.trees found → StoreRepresents new found)

-- There was no memory for a hub. The database is as it was given, or, where the configuration was checked, one of a store.
abbrev pub IsGivenOrStore : {S : Type 0} → (g : Ghosts S) → Config → (given back : Held S) → Type 0
IsGivenOrStore g config given back =
    (back ≡ given) ⊎ (IsChecked config × IsStore (state g given) (state g back))

-- how a run ends where no hub is made
abbrev pub outcome_of_start : StartFault → Outcome
outcome_of_start (fault.Hub refused.Config) = Usage
outcome_of_start (fault.Hub refused.Memory) = StoreFault
outcome_of_start (fault.Open its) = StoreFault
