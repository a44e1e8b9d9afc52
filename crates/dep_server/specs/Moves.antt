-- What the machine does in a run, move by move, also within an arrival that a stop breaks.
use mathlib.Core.Logic.{inl, inr}
use Rattle.std.specs.Prelude.{ℕ, List, [], ◌∷◌, ◌++◌, map}
use Rattle.dep_types.specs.State.{State}
use Rattle.dep_types.specs.declared.config.Config.{Config}
use Rattle.dep_message.specs.Places.{Place}
use Rattle.dep_message.specs.Stream.{Item}
use Rattle.dep_exchange.specs.Machine.{step, starting_state, Fails, given_up, cut_short, Serves, serves_all, step_fails, gives_up}
use Rattle.dep_exchange.specs.Stops.{LeftByFailure, LeftByServing}
use Rattle.dep_exchange.specs.Records.{ServerEvent, Record, Line, World, Arrives, at_live, at_shut_line, LeftByArrival, Happens, connects, closes, arrives, unknown, Run, begins, goes_on, stops, breaks}
use Rattle.dep_exchange.specs.declared.arrived.Arrived.{Arrived}

-- the step of an item is made; or it is only begun, and given up
pub data Move : Type 0 where
  Made : (item : Item) (moment : ℕ) → Move
  Begun : (item : Item) (moment : ℕ) → Move

-- the state after a move
abbrev pub moved : Config → State → Move → State
moved config s (Made item moment) = (step config s item moment).state
moved config s (Begun item moment) = starting_state config s item moment

-- the state after these
abbrev pub state_by : Config → State → List Move → State
state_by config s [] = s
state_by config s (move ∷ moves) = state_by config (moved config s move) moves

-- each of these items is stepped: the moves that their own replies are sent for
abbrev pub steps_made : List Item → (moment : ℕ) → List Move
steps_made items moment = map (λ item. Made item moment) items

-- ---- the moves of what happens

abbrev pub moves_by_failure : {config : Config} {s left : State} {item : Item} {moment : ℕ}
    {sent : List ℕ} {answer : Arrived}
    → Fails config s item moment sent left answer → List Move
moves_by_failure (given_up fixed sends (inl as_before)) = []
moves_by_failure {item = item} {moment = moment} (given_up fixed sends (inr as_begun)) =
    Begun item moment ∷ []
moves_by_failure {item = item} {moment = moment} (cut_short part leaves) = Made item moment ∷ []

abbrev pub moves_by_serving : {config : Config} {reads : List Item → Place → Type 0}
    {s left : State}
    {moment : ℕ} {sent : List ℕ} {at : Place} {answer : Arrived}
    → Serves config reads s moment sent left at answer → List Move
moves_by_serving {moment = moment} (serves_all items reads waits) = steps_made items moment
moves_by_serving {moment = moment} (step_fails items item at reads fails) =
    steps_made items moment ++ moves_by_failure fails
moves_by_serving {moment = moment} (gives_up items at reads some sends) = steps_made items moment

abbrev pub moves_by_arrival : {config : Config} {piece : List ℕ} {moment : ℕ} {line after : Line}
    {s left : State} {sent : List ℕ} {answer : Arrived}
    → Arrives config piece moment line s sent left after answer → List Move
moves_by_arrival (at_live serves) = moves_by_serving serves
moves_by_arrival at_shut_line = []

abbrev pub moves_by_event : {config : Config} {w w' : World} {event : ServerEvent} {sent : List ℕ}
    → Happens config w event sent w' → List Move
moves_by_event connects = []
moves_by_event closes = []
moves_by_event (arrives arrival) = moves_by_arrival arrival
moves_by_event (unknown absent) = []

-- ---- the moves of an arrival that a stop breaks, by what is found

abbrev pub moves_found_after_failure : {config : Config} {s left : State} {item : Item} {moment : ℕ}
    {sent : List ℕ} {answer : Arrived} (fails : Fails config s item moment sent left answer)
    (found : State) → LeftByFailure fails found → List Move
moves_found_after_failure (given_up fixed sends leaves) found (inl as_before) = []
moves_found_after_failure {item = item} {moment = moment} (given_up fixed sends leaves) found
    (inr (inl as_begun)) = Begun item moment ∷ []
moves_found_after_failure {item = item} {moment = moment} (given_up fixed sends leaves) found
    (inr (inr as_made)) = Made item moment ∷ []
moves_found_after_failure {item = item} {moment = moment} (cut_short part leaves) found same =
    Made item moment ∷ []

abbrev pub moves_found_after_serving : {config : Config} {reads : List Item → Place → Type 0}
    {s left : State} {moment : ℕ} {sent : List ℕ} {at : Place} {answer : Arrived}
    (serves : Serves config reads s moment sent left at answer)
    (found : State) → LeftByServing serves found → List Move
moves_found_after_serving {moment = moment} (serves_all items reads waits) found leaves =
    steps_made items moment
moves_found_after_serving {moment = moment} (step_fails items item at reads fails) found leaves =
    steps_made items moment ++ moves_found_after_failure fails found leaves
moves_found_after_serving {moment = moment} (gives_up items at reads some sends) found leaves =
    steps_made items moment

abbrev pub moves_found_after_arrival : {config : Config} {piece : List ℕ} {moment : ℕ}
    {line after : Line} {s left : State} {sent : List ℕ} {answer : Arrived}
    (arrival : Arrives config piece moment line s sent left after answer)
    (found : State) → LeftByArrival arrival found → List Move
moves_found_after_arrival (at_live serves) found leaves =
    moves_found_after_serving serves found leaves
moves_found_after_arrival at_shut_line found leaves = []

-- ---- of a run

-- all that the machine did, in its order
abbrev pub moves_of : {config : Config} {first : State} {records : List Record} {w : World}
    → Run config first records w → List Move
moves_of begins = []
moves_of (goes_on run happens) = moves_of run ++ moves_by_event happens
moves_of (stops run) = moves_of run
moves_of (breaks found run arrival shut leaves) =
    moves_of run ++ moves_found_after_arrival arrival found leaves
