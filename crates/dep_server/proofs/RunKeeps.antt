-- What each tick and each step keep, a run keeps, also where a step fails or the server stops.
use Rattle.std.proofs.Common.{◌≡◌, ℕ, ◌⊎◌, inl, inr, List, [], ◌∷◌, ◌++◌, sym, subst}
use Rattle.dep_types.specs.State.{State, tick}
use Rattle.dep_types.specs.declared.config.Config.{Config}
use Rattle.dep_message.specs.Places.{Place}
use Rattle.dep_message.specs.Stream.{Item}
use Rattle.dep_exchange.specs.Machine.{starting_state, step, state_after, Serves, serves_all, step_fails, gives_up, Fails, given_up, cut_short}
use Rattle.dep_exchange.specs.Stops.{LeftByFailure, LeftByServing}
use Rattle.dep_exchange.specs.Records.{ServerEvent, Record, Line, World, Arrives, at_live, at_shut_line, LeftByArrival, ReadsBeyond, Happens, connects, closes, arrives, unknown, Run, begins, goes_on, stops, breaks}
use Rattle.dep_server.specs.Acknowledged.{IsAfterSome, ServesThrough, ArrivesThrough, HappensThrough, RunsThrough}
use Rattle.dep_exchange.specs.declared.arrived.Arrived.{Arrived}
use Rattle.dep_server.proofs.StepsKeep.{at_start}

module _ (config : Config) (P : State → Type 0)
    (ticks : (s : State) (moment : ℕ) → P s → P (tick config s moment))
    (steps : (s : State) (item : Item) (moment : ℕ) → P s → P (step config s item moment).state) where
  after_items : (s : State) (items : List Item) (moment : ℕ) → P s → P (state_after config s items moment)
  after_items s [] moment p = p
  after_items s (item ∷ items) moment p = after_items (step config s item moment).state items moment (steps s item moment p)

  -- the state of before, or that with which the step begins
  at_one : (s left : State) (item : Item) (moment : ℕ) → (left ≡ s) ⊎ (left ≡ starting_state config s item moment) → P s → P left
  at_one s left item moment (inl e) p = subst P (sym e) p
  at_one s left item moment (inr e) p = subst P (sym e) (at_start config P ticks s item moment p)

  after_failure : {s left : State} {item : Item} {moment : ℕ} {sent : List ℕ} {answer : Arrived} → Fails config s item moment sent left answer → P s → P left
  after_failure {s} {left} {item} {moment} (given_up fixed sends leaves) p = at_one s left item moment leaves p
  after_failure {s} {item = item} {moment = moment} (cut_short part e) p = subst P (sym e) (steps s item moment p)

  after_serving : {s left : State} {moment : ℕ} {sent : List ℕ} {at : Place} {answer : Arrived} (reads : List Item → Place → Type 0)
      → Serves config reads s moment sent left at answer → P s → P left
  after_serving {s} {moment = moment} reads (serves_all items r w) p = after_items s items moment p
  after_serving {s} {moment = moment} reads (step_fails items item at r x) p = after_failure x (after_items s items moment p)
  after_serving {s} {moment = moment} reads (gives_up items at r b x) p = after_items s items moment p

  after_arrival : {piece : List ℕ} {moment : ℕ} {line becomes : Line} {s left : State} {sent : List ℕ} {answer : Arrived}
      → Arrives config piece moment line s sent left becomes answer → P s → P left
  after_arrival {piece} (at_live {stream} v) p = after_serving (ReadsBeyond config.max_upload stream piece) v p
  after_arrival at_shut_line p = p

  after_event : {w w' : World} {event : ServerEvent} {sent : List ℕ} → Happens config w event sent w' → P w.state → P w'.state
  after_event connects p = p
  after_event closes p = p
  after_event (arrives a) p = after_arrival a p
  after_event (unknown e) p = p

  -- what a stop may leave of an arrival
  failure_stopped : {s left : State} {item : Item} {moment : ℕ} {sent : List ℕ} {answer : Arrived} (f : Fails config s item moment sent left answer) (found : State)
      → LeftByFailure f found → P s → P found
  failure_stopped (given_up fixed sends leaves) found (inl e) p = subst P (sym e) p
  failure_stopped {s} {item = item} {moment = moment} (given_up fixed sends leaves) found (inr (inl e)) p = subst P (sym e) (at_start config P ticks s item moment p)
  failure_stopped {s} {item = item} {moment = moment} (given_up fixed sends leaves) found (inr (inr e)) p = subst P (sym e) (steps s item moment p)
  failure_stopped (cut_short part leaves) found e p = subst P (sym e) (after_failure (cut_short part leaves) p)

  serving_stopped : {s left : State} {moment : ℕ} {sent : List ℕ} {at : Place} {answer : Arrived} (reads : List Item → Place → Type 0)
      (v : Serves config reads s moment sent left at answer) (found : State) → LeftByServing v found → P s → P found
  serving_stopped reads (serves_all items r w) found e p = subst P (sym e) (after_serving reads (serves_all items r w) p)
  serving_stopped {s} {moment = moment} reads (step_fails items item at r x) found l p = failure_stopped x found l (after_items s items moment p)
  serving_stopped reads (gives_up items at r b x) found e p = subst P (sym e) (after_serving reads (gives_up items at r b x) p)

  arrival_stopped : {piece : List ℕ} {moment : ℕ} {line becomes : Line} {s left : State} {sent : List ℕ} {answer : Arrived}
      (a : Arrives config piece moment line s sent left becomes answer) (found : State) → LeftByArrival a found → P s → P found
  arrival_stopped {piece} (at_live {stream} v) found l p = serving_stopped (ReadsBeyond config.max_upload stream piece) v found l p
  arrival_stopped at_shut_line found e p = subst P (sym e) p

  pub after_run : {first : State} {records : List Record} {w : World} → Run config first records w → P first → P w.state
  after_run begins p = p
  after_run (goes_on r h) p = after_event h (after_run r p)
  after_run (stops r) p = after_run r p
  after_run (breaks found r a shut l) p = arrival_stopped a found l (after_run r p)

  -- ---- at a state that a run goes through

  through_items : {s through : State} {items : List Item} {moment : ℕ} → IsAfterSome config s items moment through → P s → P through
  through_items {s} {moment = moment} t p = subst P (sym t.is) (after_items s t.front moment p)

  through_serving : {s left : State} {moment : ℕ} {sent : List ℕ} {at : Place} {answer : Arrived} (reads : List Item → Place → Type 0)
      (v : Serves config reads s moment sent left at answer) (through : State) → ServesThrough v through → P s → P through
  through_serving reads (serves_all items r w) through t p = through_items t p
  through_serving reads (step_fails items item at r x) through t p = through_items t p
  through_serving reads (gives_up items at r b x) through t p = through_items t p

  through_arrival : {piece : List ℕ} {moment : ℕ} {line becomes : Line} {s left : State} {sent : List ℕ} {answer : Arrived}
      (a : Arrives config piece moment line s sent left becomes answer) (through : State) → ArrivesThrough a through → P s → P through
  through_arrival {piece} (at_live {stream} v) through t p = through_serving (ReadsBeyond config.max_upload stream piece) v through t p
  through_arrival at_shut_line through t p = absurd t

  through_event : {w w' : World} {event : ServerEvent} {sent : List ℕ} (h : Happens config w event sent w') (through : State) → HappensThrough h through → P w.state → P through
  through_event connects through t p = absurd t
  through_event closes through t p = absurd t
  through_event (arrives a) through t p = through_arrival a through t p
  through_event (unknown e) through t p = absurd t

  pub through_run : {first : State} {records : List Record} {w : World} (r : Run config first records w) (through : State) → RunsThrough r through → P first → P through
  through_run begins through e p = subst P (sym e) p
  through_run (goes_on r h) through (inl t) p = through_run r through t p
  through_run (goes_on r h) through (inr (inl t)) p = through_event h through t (after_run r p)
  through_run (goes_on r h) through (inr (inr e)) p = subst P (sym e) (after_event h (after_run r p))
  through_run (stops r) through t p = through_run r through t p
  through_run (breaks found r a shut l) through (inl t) p = through_run r through t p
  through_run (breaks found r a shut l) through (inr (inl t)) p = through_arrival a through t (after_run r p)
  through_run (breaks found r a shut l) through (inr (inr e)) p = subst P (sym e) (arrival_stopped a found l (after_run r p))

  -- ---- from there on

  rest_of_items : (s : State) (front behind : List Item) (moment : ℕ) → P (state_after config s front moment) → P (state_after config s (front ++ behind) moment)
  rest_of_items s [] behind moment p = after_items s behind moment p
  rest_of_items s (item ∷ front) behind moment p = rest_of_items (step config s item moment).state front behind moment p

  from_items : {s through : State} {items : List Item} {moment : ℕ} → IsAfterSome config s items moment through → P through → P (state_after config s items moment)
  from_items {s} {through} {items} {moment} t p =
      subst (λ l. P (state_after config s l moment)) (sym t.joined) (rest_of_items s t.front t.behind moment (subst P t.is p))

  from_serving : {s left : State} {moment : ℕ} {sent : List ℕ} {at : Place} {answer : Arrived} (reads : List Item → Place → Type 0)
      (v : Serves config reads s moment sent left at answer) (through : State) → ServesThrough v through → P through → P left
  from_serving reads (serves_all items r w) through t p = from_items t p
  from_serving reads (step_fails items item at r x) through t p = after_failure x (from_items t p)
  from_serving reads (gives_up items at r b x) through t p = from_items t p

  from_arrival : {piece : List ℕ} {moment : ℕ} {line becomes : Line} {s left : State} {sent : List ℕ} {answer : Arrived}
      (a : Arrives config piece moment line s sent left becomes answer) (through : State) → ArrivesThrough a through → P through → P left
  from_arrival {piece} (at_live {stream} v) through t p = from_serving (ReadsBeyond config.max_upload stream piece) v through t p
  from_arrival at_shut_line through t p = absurd t

  from_event : {w w' : World} {event : ServerEvent} {sent : List ℕ} (h : Happens config w event sent w') (through : State) → HappensThrough h through → P through → P w'.state
  from_event connects through t p = absurd t
  from_event closes through t p = absurd t
  from_event (arrives a) through t p = from_arrival a through t p
  from_event (unknown e) through t p = absurd t

  serving_broken : {s left : State} {moment : ℕ} {sent : List ℕ} {at : Place} {answer : Arrived} (reads : List Item → Place → Type 0)
      (v : Serves config reads s moment sent left at answer) (found through : State) → LeftByServing v found → ServesThrough v through → P through → P found
  serving_broken reads (serves_all items r w) found through e t p = subst P (sym e) (from_items t p)
  serving_broken reads (step_fails items item at r x) found through l t p = failure_stopped x found l (from_items t p)
  serving_broken reads (gives_up items at r b x) found through e t p = subst P (sym e) (from_items t p)

  arrival_broken : {piece : List ℕ} {moment : ℕ} {line becomes : Line} {s left : State} {sent : List ℕ} {answer : Arrived}
      (a : Arrives config piece moment line s sent left becomes answer) (found through : State) → LeftByArrival a found → ArrivesThrough a through → P through → P found
  arrival_broken {piece} (at_live {stream} v) found through l t p = serving_broken (ReadsBeyond config.max_upload stream piece) v found through l t p
  arrival_broken at_shut_line found through l t p = absurd t

  pub from_run : {first : State} {records : List Record} {w : World} (r : Run config first records w) (through : State) → RunsThrough r through → P through → P w.state
  from_run begins through e p = subst P e p
  from_run (goes_on r h) through (inl t) p = after_event h (from_run r through t p)
  from_run (goes_on r h) through (inr (inl t)) p = from_event h through t p
  from_run (goes_on r h) through (inr (inr e)) p = subst P e p
  from_run (stops r) through t p = from_run r through t p
  from_run (breaks found r a shut l) through (inl t) p = arrival_stopped a found l (from_run r through t p)
  from_run (breaks found r a shut l) through (inr (inl t)) p = arrival_broken a found through l t p
  from_run (breaks found r a shut l) through (inr (inr e)) p = subst P e p
