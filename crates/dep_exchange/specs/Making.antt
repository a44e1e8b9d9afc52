-- The step of an item, before anything is sent for it.
use Rattle.std.specs.Prelude.{◌≡◌, ◌⊎◌, ℕ, Result, Ok, Err, IsTrue}
use Rattle.dep_types.specs.State.{State}
use Rattle.dep_types.specs.declared.config.Config.{Config}
use Rattle.dep_types.specs.declared.store_fault.StoreFault.{StoreFault}
use Rattle.dep_types.specs.Conditions.{Condition, Represents, HasCleanDisk, Leaves}
use Rattle.dep_message.specs.Stream.{Item, Fault, Continue, Request}
use Rattle.dep_answers.specs.declared.performed.Performed.{Performed}
use Rattle.dep_exchange.specs.Machine.{step, starting_state}
use Rattle.dep_exchange.specs.Performing.{Performs}
use Rattle.dep_exchange.specs.Shut.{LeavesNoMore, IfShut}

-- what a step that failed may leave
pub record GivesUp (config : Config) (s : State) (item : Item) (moment : ℕ) (new : Condition) : Type 0 where
  pub left : State
  pub is_left : (left ≡ s) ⊎ (left ≡ starting_state config s item moment)
  pub represents : IsTrue new.is_open → Represents new left
  pub stop : Leaves new (λ found. (found ≡ s) ⊎ ((found ≡ starting_state config s item moment)
      ⊎ (found ≡ (step config s item moment).state)))

-- the step was made, and its reply is ready; or it failed
abbrev pub IsMade : Config → State → Item → ℕ → Condition → Result Performed StoreFault → Type 0
IsMade config s item moment new (Ok p) = Performs (step config s item moment) new p
IsMade config s item moment new (Err fault) = GivesUp config s item moment new

-- over an archive that was shut it failed
abbrev pub FailsShut : (old new : Condition) → Result Performed StoreFault → Type 0
FailsShut old new (Ok p) = ⊥
FailsShut old new (Err fault) = LeavesNoMore old new

-- the archive is asked for it: only where a client is told to go on it isn't
abbrev pub NeedsStep : Item → Type 0
NeedsStep (Fault r head_only) = Unit {0}
NeedsStep Continue = ⊥
NeedsStep (Request m) = Unit {0}

-- The step of an item is made, from whatever state the archive represented.
pub record MakesItem (config : Config) (item : Item) (moment : ℕ) (old new : Condition)
    (result : Result Performed StoreFault) : Type 0 where
  pub stepped : NeedsStep item
  pub makes : HasCleanDisk new → (s : State) → Represents old s → IsMade config s item moment new result
  pub honest : HasCleanDisk new → HasCleanDisk old
  pub was_open : IsTrue new.is_open → IsTrue old.is_open
  pub shut : IfShut old new (FailsShut old new result)
