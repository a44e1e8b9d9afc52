-- What a stop may leave at the end of an arrival.
use Rattle.std.specs.Prelude.{◌≡◌, ◌⊎◌, ℕ, List}
use Rattle.dep_types.specs.State.{State}
use Rattle.dep_types.specs.declared.config.Config.{Config}
use Rattle.dep_message.specs.Places.{Place}
use Rattle.dep_message.specs.Stream.{Item}
use Rattle.dep_exchange.specs.Machine.{step, starting_state, Fails, given_up, cut_short, Serves, serves_all, step_fails, gives_up}
use Rattle.dep_exchange.specs.declared.arrived.Arrived.{Arrived}

-- after a fixed reply: the state of before, the one with which the step begins, or the step's;
-- after a part of its own reply: the step's
abbrev pub LeftByFailure : {config : Config} {s : State} {item : Item} {moment : ℕ} {sent : List ℕ}
    {left : State} {answer : Arrived}
    → Fails config s item moment sent left answer → State → Type 0
LeftByFailure {config = config} {s = s} {item = item} {moment = moment}
    (given_up fixed sends leaves) found =
    (found ≡ s)
    ⊎ ((found ≡ starting_state config s item moment)
    ⊎ (found ≡ (step config s item moment).state))
LeftByFailure {left = left} (cut_short part leaves) found = found ≡ left

abbrev pub LeftByServing : {config : Config} {reads : List Item → Place → Type 0}
    {s : State} {moment : ℕ}
    {sent : List ℕ} {left : State} {at : Place} {answer : Arrived}
    → Serves config reads s moment sent left at answer → State → Type 0
LeftByServing {left = left} (serves_all items reads waits) found = found ≡ left
LeftByServing (step_fails items item at reads fails) found = LeftByFailure fails found
LeftByServing {left = left} (gives_up items at reads some sends) found = found ≡ left

-- A fixed reply was sent in place of the item's own. Only then may a fault have shut the store with the
-- item's step kept or not; everywhere else a stop leaves what the arrival left.
abbrev pub IsGivenUp : {config : Config} {s : State} {item : Item} {moment : ℕ} {sent : List ℕ}
    {left : State} {answer : Arrived}
    → Fails config s item moment sent left answer → Type 0
IsGivenUp (given_up fixed sends leaves) = Unit {0}
IsGivenUp (cut_short part leaves) = ⊥

abbrev pub EndsGivenUp : {config : Config} {reads : List Item → Place → Type 0}
    {s : State} {moment : ℕ}
    {sent : List ℕ} {left : State} {at : Place} {answer : Arrived}
    → Serves config reads s moment sent left at answer → Type 0
EndsGivenUp (serves_all items reads waits) = ⊥
EndsGivenUp (step_fails items item at reads fails) = IsGivenUp fails
EndsGivenUp (gives_up items at reads some sends) = ⊥
