-- The moves of a run lead from its first state to its last.
use Rattle.std.proofs.Common.{◌≡◌, inl, inr, ℕ, List, [], ◌∷◌, ◌++◌, refl, sym, ap, ◌∙◌}
use Rattle.dep_types.specs.State.{State}
use Rattle.dep_types.specs.declared.config.Config.{Config}
use Rattle.dep_message.specs.Places.{Place}
use Rattle.dep_message.specs.Stream.{Item}
use Rattle.dep_exchange.specs.Machine.{step, state_after, Serves, serves_all, step_fails, gives_up, Fails, given_up, cut_short}
use Rattle.dep_exchange.specs.Stops.{LeftByFailure, LeftByServing}
use Rattle.dep_exchange.specs.Records.{ServerEvent, Record, Line, World, Arrives, at_live, at_shut_line, LeftByArrival, Happens, connects, closes, arrives, unknown, Run, begins, goes_on, stops, breaks}
use Rattle.dep_server.specs.Moves.{Move, moved, state_by, steps_made, moves_by_failure, moves_by_serving, moves_by_arrival, moves_by_event, moves_found_after_failure, moves_found_after_serving, moves_found_after_arrival, moves_of}
use Rattle.dep_exchange.specs.declared.arrived.Arrived.{Arrived}

module _ (config : Config) where
  steps_lead : (s : State) (items : List Item) (moment : ℕ) → state_after config s items moment ≡ state_by config s (steps_made items moment)
  steps_lead s [] moment = refl
  steps_lead s (item ∷ items) moment = steps_lead (step config s item moment).state items moment

  pub over_both : (s : State) (front behind : List Move) → state_by config s (front ++ behind) ≡ state_by config (state_by config s front) behind
  over_both s [] behind = refl
  over_both s (move ∷ front) behind = over_both (moved config s move) front behind

  -- after these steps, what else
  steps_and : (s : State) (items : List Item) (moment : ℕ) (more : List Move)
      → state_by config (state_after config s items moment) more ≡ state_by config s (steps_made items moment ++ more)
  steps_and s items moment more = ap (λ (t : State). state_by config t more) (steps_lead s items moment) ∙ sym (over_both s (steps_made items moment) more)

  failure_leads : {s left : State} {item : Item} {moment : ℕ} {sent : List ℕ} {answer : Arrived} (fails : Fails config s item moment sent left answer)
      → left ≡ state_by config s (moves_by_failure fails)
  failure_leads (given_up fixed sends (inl e)) = e
  failure_leads (given_up fixed sends (inr e)) = e
  failure_leads (cut_short part e) = e

  serving_leads : {reads : List Item → Place → Type 0} {s left : State} {moment : ℕ} {sent : List ℕ} {at : Place} {answer : Arrived}
      (serves : Serves config reads s moment sent left at answer) → left ≡ state_by config s (moves_by_serving serves)
  serving_leads {s = s} {moment = moment} (serves_all items r w) = steps_lead s items moment
  serving_leads {s = s} {moment = moment} (step_fails items item at r fails) = failure_leads fails ∙ steps_and s items moment (moves_by_failure fails)
  serving_leads {s = s} {moment = moment} (gives_up items at r b sends) = steps_lead s items moment

  arrival_leads : {piece : List ℕ} {moment : ℕ} {line after : Line} {s left : State} {sent : List ℕ} {answer : Arrived}
      (arrival : Arrives config piece moment line s sent left after answer) → left ≡ state_by config s (moves_by_arrival arrival)
  arrival_leads (at_live serves) = serving_leads serves
  arrival_leads at_shut_line = refl

  event_leads : {w w' : World} {event : ServerEvent} {sent : List ℕ} (happens : Happens config w event sent w') → w'.state ≡ state_by config w.state (moves_by_event happens)
  event_leads connects = refl
  event_leads closes = refl
  event_leads (arrives arrival) = arrival_leads arrival
  event_leads (unknown absent) = refl

  -- ---- what is found after a stop

  failure_found : {s left : State} {item : Item} {moment : ℕ} {sent : List ℕ} {answer : Arrived} (fails : Fails config s item moment sent left answer) (found : State)
      (leaves : LeftByFailure fails found) → found ≡ state_by config s (moves_found_after_failure fails found leaves)
  failure_found (given_up fixed sends leaves) found (inl e) = e
  failure_found (given_up fixed sends leaves) found (inr (inl e)) = e
  failure_found (given_up fixed sends leaves) found (inr (inr e)) = e
  failure_found (cut_short part is) found e = e ∙ is

  serving_found : {reads : List Item → Place → Type 0} {s left : State} {moment : ℕ} {sent : List ℕ} {at : Place} {answer : Arrived}
      (serves : Serves config reads s moment sent left at answer) (found : State) (leaves : LeftByServing serves found)
      → found ≡ state_by config s (moves_found_after_serving serves found leaves)
  serving_found {s = s} {moment = moment} (serves_all items r w) found e = e ∙ steps_lead s items moment
  serving_found {s = s} {moment = moment} (step_fails items item at r fails) found leaves =
      failure_found fails found leaves ∙ steps_and s items moment (moves_found_after_failure fails found leaves)
  serving_found {s = s} {moment = moment} (gives_up items at r b sends) found e = e ∙ steps_lead s items moment

  arrival_found : {piece : List ℕ} {moment : ℕ} {line after : Line} {s left : State} {sent : List ℕ} {answer : Arrived}
      (arrival : Arrives config piece moment line s sent left after answer) (found : State) (leaves : LeftByArrival arrival found)
      → found ≡ state_by config s (moves_found_after_arrival arrival found leaves)
  arrival_found (at_live serves) found leaves = serving_found serves found leaves
  arrival_found at_shut_line found e = e

  -- ---- runs

  -- from where the run was
  further : (first : State) (moves more : List Move) (mid last : State) → mid ≡ state_by config first moves → last ≡ state_by config mid more
      → last ≡ state_by config first (moves ++ more)
  further first moves more mid last was is = is ∙ ap (λ (t : State). state_by config t more) was ∙ sym (over_both first moves more)

  pub run_leads : {first : State} {records : List Record} {w : World} (r : Run config first records w) → w.state ≡ state_by config first (moves_of r)
  run_leads begins = refl
  run_leads (goes_on r happens) = further _ (moves_of r) (moves_by_event happens) _ _ (run_leads r) (event_leads happens)
  run_leads (stops r) = run_leads r
  run_leads (breaks found r arrival shut leaves) =
      further _ (moves_of r) (moves_found_after_arrival arrival found leaves) _ found (run_leads r) (arrival_found arrival found leaves)

  -- from a place in a run on
  pub leads_on : {first : State} {records : List Record} {w : World} (r : Run config first records w) (before behind : List Move) → moves_of r ≡ before ++ behind
      → w.state ≡ state_by config (state_by config first before) behind
  leads_on {first} r before behind split = run_leads r ∙ ap (λ (moves : List Move). state_by config first moves) split ∙ over_both first before behind
