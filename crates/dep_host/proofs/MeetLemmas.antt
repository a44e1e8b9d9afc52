-- What a host makes of what comes to it.
use Rattle.std.proofs.Common.{◌≡◌, ◌⊎◌, inl, inr, ◌<◌, ◌+◌, ℕ, Bool, true, false, List, [], ◌∷◌, ◌++◌, Option, None, Some, is_some, refl, sym, ap, subst, ◌∙◌, length, set, IfSome, arith}
use Rattle.std.specs.Prelude.{IsErrOf, IsNone}
use Rattle.std.specs.Option.{option_map}
use Rattle.std.specs.declared.result.Result.{Result}
use Rattle.std.specs.declared.result.Result.TheVariants.{Ok, Err}
use Rattle.std.specs.List.{AllByRecursion}
use Rattle.std.proofs.lemmas.Bool.{cases_eq, cases_lt}
use Rattle.std.proofs.lemmas.List.Elements.{Contains-append_right, Contains-push}
use Rattle.std.proofs.lemmas.List.{append-nil, length-append, set-get_or, get_or_past, get_or-set_same, get_or-set_other}
use Rattle.std.proofs.lemmas.Grind.{flat_map-append}
use Rattle.dep_types.specs.Conditions.{Condition}
use Rattle.dep_exchange.specs.ArchiveCalls.{CallLog}
use Rattle.dep_slot.specs.declared.slot.Slot.{Slot}
use Rattle.dep_host.specs.declared.host.Host.{Host}
use Rattle.dep_host.specs.declared.ending.Cause.{Cause}
use Rattle.dep_host.specs.declared.ending.Cause.TheVariants as cause
use Rattle.dep_host.specs.declared.ending.Shut.{Shut}
use Rattle.dep_slot.specs.declared.log.Rejection.{Rejection}
use Rattle.dep_slot.specs.declared.client.Client.{Client}
use Rattle.dep_host.specs.declared.events.Event.{Event}
use Rattle.dep_host.specs.declared.events.Event.TheVariants as came
use Rattle.dep_host.specs.declared.serving.Ended.{Ended}
use Rattle.dep_host.specs.declared.serving.Ended.TheVariants as ended
use Rattle.dep_host.specs.Coming.{PollCall, seconds_of, seconds_in}
use Rattle.dep_slot.specs.ConnectionStates.{is_past}
use Rattle.dep_slot.specs.Causes.{Causes}
use Rattle.dep_slot.specs.Slots.{woken_slot}
use Rattle.dep_hub.specs.declared.hub.Hub.{Hub}
use Rattle.dep_hub.specs.Representing.{IsClean, IsHonest}
use Rattle.dep_hub.specs.Holding.{RepresentsHolding}
use Rattle.dep_hub.specs.RepresentsOwing.{behind_at}
use Rattle.dep_host.specs.Actions.{HostAction, IsEmpty, Position, position, slot_at}
use Rattle.dep_host.specs.Hosting.{Steps, refused, comes, HubStandsStill}
use Rattle.dep_hub.specs.declared.faults.ConnectFault.{ConnectFault}
use Rattle.dep_hub.specs.declared.faults.ConnectFault.TheVariants as fault
use Rattle.dep_host.specs.Meeting.{IsOffer, MayCall, IsShutBy, MayEnd, Stops, Wakes, MayRefuse, IsFull, TurnsAway, Admits, Meets, refusal_for, refusal_of, rejection_for, shut_by, wakes, lets_in, turns_away, makes_round, stops, IsMet, begins, goes_on, all_given, Met}
use Rattle.dep_slot.specs.Notes.{Note, GrowsWhereShown}
use Rattle.dep_host.specs.Rounds.{IsReported, EndsInTime, is_overdue}
use Rattle.dep_slot.proofs.PhaseLemmas.{still_same}
use Rattle.dep_host.proofs.HostLemmas.{grows_none, grows_on, asked, untouched, woken, alone, represents_still, steps_join}
use Rattle.dep_host.proofs.RoundLemmas.{rounds_begin, rounds_go_on, one_second}

-- where nobody is nobody is changed
pub changes_none : {X : Type 0} (f : X → X) (slots : List (Option X)) (at : ℕ) → slot_at at slots ≡ None → slots ≡ set slots at (option_map f (slot_at at slots))
changes_none {X = X} f slots at e =
    sym (ap (λ (o : Option X). set slots at (option_map f o)) e ∙ (ap (λ (o : Option X). set slots at o) (sym e) ∙ set-get_or slots at None))

-- one was changed, or there was nobody
pub changes_one : {X : Type 0} (f : X → X) (slots : List (Option X)) (at : ℕ) (before after : X) → slot_at at slots ≡ Some before → after ≡ f before
    → set slots at (Some after) ≡ set slots at (option_map f (slot_at at slots))
changes_one {X = X} f slots at before after e h = ap (λ (o : Option X). set slots at o) (ap Some h ∙ ap (λ (o : Option X). option_map f o) (sym e))

pub changes_nobody : {X : Type 0} (f : X → X) (slots : List (Option X)) (at : ℕ) (x : Option X) → slot_at at slots ≡ x → x ≡ None
    → set slots at x ≡ set slots at (option_map f (slot_at at slots))
changes_nobody {X = X} f slots at x e none = ap (λ (o : Option X). set slots at o) (none ∙ ap (λ (o : Option X). option_map f o) (sym (e ∙ none)))

not_none : {X : Type 0} (o : Option X) (x : X) → o ≡ Some x → o ≡ None → ⊥
not_none o x e f = let bad : Some x ≡ None = sym e ∙ f in cc

-- who is somewhere is at a place
pub sits_within : {X : Type 0} (slots : List (Option X)) (at : ℕ) (x : X) → slot_at at slots ≡ Some x → at < length slots
sits_within slots at x e = elim (cases_lt at (length slots)) [
  | inl lt ↦ lt
  | inr ge ↦ absurd (not_none (slot_at at slots) x e (get_or_past slots at None ge))
]

-- nobody is where nobody sat, once one was changed, nor the other way
free_on : {X : Type 0} (f : X → X) (slots : List (Option X)) (at place : ℕ) → slot_at place slots ≡ None → slot_at place (set slots at (option_map f (slot_at at slots))) ≡ None
free_on {X = X} f slots at place free = elim (cases_eq place at) [
  | inl e ↦ ap (λ (l : List (Option X)). slot_at place l) (sym (changes_none f slots at (ap (λ (n : ℕ). slot_at n slots) (sym e) ∙ free))) ∙ free
  | inr ne ↦ get_or-set_other slots at place _ None ne ∙ free
]

free_there : {X : Type 0} (f : X → X) (slots : List (Option X)) (at : ℕ) (o : Option X) → slot_at at slots ≡ o → slot_at at (set slots at (option_map f o)) ≡ None → slot_at at slots ≡ None
free_there f slots at None e free = e
free_there f slots at (Some x) e free = absurd (not_none _ (f x) (get_or-set_same slots at (Some (f x)) None (sits_within slots at x e)) free)

free_back : {X : Type 0} (f : X → X) (slots : List (Option X)) (at place : ℕ) → slot_at place (set slots at (option_map f (slot_at at slots))) ≡ None → slot_at place slots ≡ None
free_back {X = X} f slots at place free = elim (cases_eq place at) [
  | inl e ↦ ap (λ (n : ℕ). slot_at n slots) e ∙ free_there f slots at (slot_at at slots) refl (subst (λ (n : ℕ). slot_at n (set slots at (option_map f (slot_at at slots))) ≡ None) e free)
  | inr ne ↦ sym (get_or-set_other slots at place _ None ne) ∙ free
]

-- what was offered is offered still
pub offer_kept : {A R K S : Type 0} (p q : Host A R K S) (at : ℕ) (r w : Bool) (o : Option ℕ) → IsOffer p o → Wakes p q at r w → IsOffer q o
offer_kept {R = R} {K = K} {S = S} p q at r w None none h = λ place v.
    none place (
      subst (λ (n : ℕ). place < n) h.stays.places v.0,
      free_back (λ (s : Slot R K S). woken_slot s r w) p.slots.items at place (subst (λ (l : List (Option (Slot R K S))). slot_at place l ≡ None) h.slots v.1),
      subst (λ (s : Option Shut). is_some s ≡ false) h.stays.shut v.2,
    )
offer_kept {R = R} {K = K} {S = S} p q at r w (Some place) v h = (
  subst (λ (n : ℕ). place < n) (sym h.stays.places) v.0,
  subst (λ (l : List (Option (Slot R K S))). slot_at place l ≡ None) (sym h.slots) (free_on (λ (s : Slot R K S). woken_slot s r w) p.slots.items at place v.1),
  subst (λ (s : Option Shut). is_some s ≡ false) (sym h.stays.shut) v.2,
)

pub none_offered : {A R K S : Type 0} (p : Host A R K S) (o : Option ℕ) → o ≡ None → IsOffer p o → IsOffer p None
none_offered p o none h = subst (λ (v : Option ℕ). IsOffer p v) none h

-- why a client is rejected where no place was offered
refuses_for : {A R K S : Type 0} (p : Host A R K S) (client : Client R K S) (why : Cause) → IsShutBy p.shut why → MayRefuse p client (refusal_for why)
refuses_for p client cause.Store shut = shut
refuses_for p client cause.Stop shut = shut

shut_by_its_cause : (o : Option Shut) (shut : Shut) → o ≡ Some shut → IsShutBy o shut.cause
shut_by_its_cause o shut e = subst (λ (s : Option Shut). IsShutBy s shut.cause) (sym e) refl

refuses_by : {A R K S : Type 0} (p : Host A R K S) (client : Client R K S) (o : Option Shut) → p.shut ≡ o → IsOffer p None → MayRefuse p client (refusal_of o)
refuses_by p client None e none = (ap is_some e, inl none)
refuses_by p client (Some shut) e none = refuses_for p client shut.cause (shut_by_its_cause p.shut shut e)

pub may_refuse : {A R K S : Type 0} (p : Host A R K S) (client : Client R K S) (why : Rejection) → why ≡ refusal_of p.shut → IsOffer p None → MayRefuse p client why
may_refuse p client why is none = subst (λ (r : Rejection). MayRefuse p client r) (sym is) (refuses_by p client p.shut refl none)

-- it was told so at that second, or was shut before
reported_by : (o : Option Shut) (second : ℕ) → IsReported o (shut_by o second) (second ∷ [])
reported_by None second = inr (refl, Contains-push [] second)
reported_by (Some shut) second = inl refl

pub stops_reported : {A R K S : Type 0} (p q : Host A R K S) (second : ℕ) → Stops p q second → IsReported p.shut q.shut (second ∷ [])
stops_reported p q second h = subst (λ (o : Option Shut). IsReported p.shut o (second ∷ [])) (sym h.shut) (reported_by p.shut second)

-- why it ends that is shut
pub ends_for : {A R K S : Type 0} (host : Host A R K S) (shut : Shut) (second : ℕ) → host.shut ≡ Some shut → IsEmpty (position host) ⊎ (is_past shut.second second host.limits ≡ true) → MayEnd host shut.cause (second ∷ [])
ends_for host shut second e (inl empty) = (shut_by_its_cause host.shut shut e, inl empty)
ends_for host shut second e (inr late) = (shut_by_its_cause host.shut shut e, inr (second, Contains-push [] second, ap (λ (o : Option Shut). is_overdue o second host.limits) e ∙ late))

may_end_on : {A R K S : Type 0} (host : Host A R K S) (why : Cause) (xs ys : List ℕ) → MayEnd host why ys → MayEnd host why (xs ++ ys)
may_end_on host why xs ys (shut, inl empty) = (shut, inl empty)
may_end_on host why xs ys (shut, inr late) = (shut, inr (late.0, Contains-append_right xs ys late.0 late.1, late.2))

given_more : {R K S : Type 0} (old new : Option (List (PollCall R K S))) (last : PollCall R K S) (calls : List (PollCall R K S)) (end : Ended) → (end ≡ ended.Events → ⊥) → GrowsWhereShown old new calls → GrowsWhereShown old new (all_given end last calls)
given_more old new last calls ended.Events more g = absurd (more refl)
given_more old new last calls (ended.Shut why) more g = g
given_more old new last calls ended.Spent more g = g

seconds_more : {R K S : Type 0} (calls : List (PollCall R K S)) (call : PollCall R K S) → seconds_in (calls ++ call ∷ []) ≡ seconds_in calls ++ seconds_of call.event
seconds_more {R = R} {K = K} {S = S} calls call =
    flat_map-append (λ (c : PollCall R K S). seconds_of c.event) calls (call ∷ []) ∙ ap (λ (l : List ℕ). seconds_in calls ++ l) (append-nil (seconds_of call.event))

-- a client may be rejected for whom the hub opens no connection
pub hub_refuses : {T A R K S : Type 0} (p : Host A R K S) (client : Client R K S) (f : ConnectFault) → IsNone p.shut → (IsErrOf {T = T} (Err f) fault.Full → IsFull p.hub) → MayRefuse p client (rejection_for f)
hub_refuses p client fault.Full none full = (none, inr (full refl))
hub_refuses p client fault.Memory none full = none

module _ {A R K S : Type 0} (condition : A → Condition) (unread : R → Option (List ℕ)) (taken : K → Option (List ℕ)) (held : S → Option (List ℕ)) where
  wakes_there : (p q : Host A R K S) (at : ℕ) (r w : Bool) (o : Option (Slot R K S)) → slot_at at p.slots.items ≡ o → Wakes p q at r w → Steps condition unread taken held (position p) [] (position q)
  wakes_there p q at r w None e h = alone condition unread taken held (position p) (position q) []
      (refused (untouched condition unread taken held (position p) (position q) h.same_hub h.stays.limits h.stays.shut
      (h.slots ∙ sym (changes_none (λ (s : Slot R K S). woken_slot s r w) p.slots.items at e))))
  wakes_there p q at r w (Some before) e h =
      woken condition unread taken held (position p) (position q) at before (woken_slot before r w) (sits_within p.slots.items at before e) e
      (h.slots ∙ ap (λ (o : Option (Slot R K S)). set p.slots.items at (option_map (λ (s : Slot R K S). woken_slot s r w) o)) e)
      h.same_hub h.stays.limits h.stays.shut (record { connection = refl; address = refl }) refl refl (λ h. h) (still_same before.state.phase) (λ h. h) refl

  same_hub_represents : (old new : Hub A) → new ≡ old → HubStandsStill condition old new
  same_hub_represents old new same = λ is_clean w kept at. subst (λ (h : Hub A). RepresentsHolding condition h w kept) (sym same) at

  -- what is told to stop isn't told of its store
  reported_of_a_stop : (hub : Hub A) (o : Option Shut) (second : ℕ) → (shut_by o second ≡ o) ⊎ ((is_some o ≡ false) × IfSome (shut_by o second) (λ shut. shut.cause ≡ cause.Store → IsClean condition hub → ⊥))
  reported_of_a_stop hub None second = inr (refl, λ is. absurd (let bad : cause.Stop ≡ cause.Store = is in cc))
  reported_of_a_stop hub (Some shut) second = inl refl

  -- it was told to stop
  pub stops_there : (p q : Host A R K S) (second : ℕ) → Stops p q second → Steps condition unread taken held (position p) [] (position q)
  stops_there p q second h = asked condition unread taken held (position p) (position q) (record {
    sits = h.same_slots;
    hub = record {
      next = ap (λ (k : Hub A). k.next) h.same_hub;
      same_config = ap (λ (k : Hub A). k.config) h.same_hub;
      clean = λ is. subst (λ (k : Hub A). IsClean condition k) h.same_hub is;
      honest = λ is. subst (λ (k : Hub A). IsHonest condition k) h.same_hub is;
    };
    behind = inl (λ number. ap (λ (k : Hub A). behind_at k.connections.items number) h.same_hub);
    represents = same_hub_represents p.hub q.hub h.same_hub;
    same_limits = h.limits;
    reported = subst (λ (o : Option Shut). (o ≡ p.shut) ⊎ ((is_some p.shut ≡ false) × IfSome o (λ shut. shut.cause ≡ cause.Store → IsClean condition q.hub → ⊥))) (sym h.shut) (reported_of_a_stop q.hub p.shut second);
  })

  -- behind what was done nothing more is
  still_on : (p q r : Position A R K S) (actions : List HostAction) → Steps condition unread taken held p actions q → Steps condition unread taken held q [] r → Steps condition unread taken held p actions r
  still_on p q r actions s t = subst (λ (l : List HostAction). Steps condition unread taken held p l r) (append-nil actions) (steps_join condition unread taken held s t)

  module _ {L : Type 0} (notes : L → Option (List Note)) where
    -- it was rejected for what was answered
    pub turned : (p q : Host A R K S) (l m : L) (at : ℕ) (client : Client R K S) (why reported : Rejection) → reported ≡ why → TurnsAway condition unread taken held notes p q l m client why
        → Admits condition unread taken held notes p q l m at client (Err reported)
    turned p q l m at client why reported same h = subst (λ (r : Rejection). TurnsAway condition unread taken held notes p q l m client r) (sym same) h

  module _ {L : Type 0} (call_log : A → CallLog) (size : S → ℕ) (causes : Causes R K S) (notes : L → Option (List Note)) where
    -- it was met by some actions
    abbrev IsMetBySome : (p q : Host A R K S) (l m : L) (offer : Option ℕ) (event : Event R K S) → Type 0
    IsMetBySome p q l m offer event = (actions : List HostAction) × Meets condition call_log unread taken held size causes notes p q l m offer event actions

    pub admitted : (p q : Host A R K S) (l m : L) (offer : Option ℕ) (at : ℕ) (client : Client R K S) (result : Result (Unit {0}) Rejection) → offer ≡ Some at → Admits condition unread taken held notes p q l m at client result
        → IsMetBySome p q l m offer (came.Client client)
    admitted p q l m offer at client (Ok x) is h = subst (λ (o : Option ℕ). IsMetBySome p q l m o (came.Client client)) (sym is) (_, lets_in h)
    admitted p q l m offer at client (Err why) is h = ([], turns_away h)

    pub meets_as : (p q : Host A R K S) (l m : L) (offer : Option ℕ) (event other : Event R K S) → event ≡ other → IsMetBySome p q l m offer other → IsMetBySome p q l m offer event
    meets_as p q l m offer event other is h = subst (λ (e : Event R K S). IsMetBySome p q l m offer e) (sym is) h

    pub round_met : {T : Type 0} (p q : Host A R K S) (l m : L) (offer : Option ℕ) (event : Event R K S) (result : Result T Ended) → (result ≡ Err ended.Events → ⊥) → (result ≡ Err ended.Spent → ⊥)
        → IsMetBySome p q l m offer event → IsMet condition call_log unread taken held size causes notes p q l m offer event result
    round_met p q l m offer event (Ok now) more few h = h
    round_met p q l m offer event (Err ended.Events) more few h = absurd (more refl)
    round_met p q l m offer event (Err (ended.Shut why)) more few h = h
    round_met p q l m offer event (Err ended.Spent) more few h = absurd (few refl)

    -- what comes of an event
    meets_go : {p q : Host A R K S} {l m : L} {offer : Option ℕ} {event : Event R K S} {actions : List HostAction} → Meets condition call_log unread taken held size causes notes p q l m offer event actions
        → Steps condition unread taken held (position p) actions (position q)
    meets_go {p = p} {q = q} (wakes {at = at} {r = r} {w = w} h same) = wakes_there p q at r w (slot_at at p.slots.items) refl h
    meets_go {p = p} {q = q} (lets_in h) = alone condition unread taken held (position p) (position q) _ (comes h.comes)
    meets_go {p = p} {q = q} (turns_away h) = alone condition unread taken held (position p) (position q) [] (refused h.keeps)
    meets_go {p = p} {q = q} (makes_round h) =
        still_on (position p) (position h.asks.mid) (position q) h.goes.actions
        (still_on (position p) (position h.mid) (position h.asks.mid) h.goes.actions h.goes.steps h.asks.asks.steps) h.asks.works
    meets_go {p = p} {q = q} (stops {second = second} h same) = stops_there p q second h

    pub meets_limits : {p q : Host A R K S} {l m : L} {offer : Option ℕ} {event : Event R K S} {actions : List HostAction} → Meets condition call_log unread taken held size causes notes p q l m offer event actions → q.limits ≡ p.limits
    meets_limits (wakes h same) = h.stays.limits
    meets_limits (lets_in h) = h.stays.limits
    meets_limits (turns_away h) = h.stays.limits
    meets_limits (makes_round h) = h.asks.stays.limits ∙ (h.asks.asks.limits ∙ h.stays.limits)
    meets_limits (stops h same) = h.limits

    pub meets_reported : {p q : Host A R K S} {l m : L} {offer : Option ℕ} {event : Event R K S} {actions : List HostAction} → Meets condition call_log unread taken held size causes notes p q l m offer event actions → IsReported p.shut q.shut (seconds_of event)
    meets_reported (wakes h same) = inl h.stays.shut
    meets_reported (lets_in h) = inl h.stays.shut
    meets_reported (turns_away h) = inl h.stays.shut
    meets_reported {p = p} {q = q} (makes_round {time = time} h) =
        subst (λ (o : Option Shut). IsReported o q.shut (time.second ∷ [])) h.stays.shut
        (subst (λ (o : Option Shut). IsReported h.mid.shut o (time.second ∷ [])) (sym h.asks.stays.shut) h.asks.asks.reported)
    meets_reported {p = p} {q = q} (stops {second = second} h same) = stops_reported p q second h

    pub met_none : (reported : Option (List (PollCall R K S))) (p : Host A R K S) (l : L) → Met condition call_log unread taken held size causes notes reported reported p p l l [] 0 ended.Spent
    met_none reported p l = record {
      calls = [];
      last = record { offer = None; is_busy = true; event = came.End };
      given = grows_none reported;
      each = begins;
      steps = represents_still condition unread taken held (position p);
      ends = λ e. let bad : ended.Spent ≡ ended.Events = e in cc;
      in_time = rounds_begin p.shut p.limits;
      may_end = λ why e. let bad : ended.Spent ≡ ended.Shut why = e in cc;
      spent = λ e. refl;
    }

    pub met_on : (old mid new : Option (List (PollCall R K S))) (p q r : Host A R K S) (l m n : L) (call : PollCall R K S) (actions more : List HostAction) (count most : ℕ) (end : Ended)
        → Met condition call_log unread taken held size causes notes old mid p q l m actions count ended.Spent → GrowsWhereShown mid new (call ∷ []) → MayCall size q call
        → Meets condition call_log unread taken held size causes notes q r m n call.offer call.event more
        → (end ≡ ended.Events → ⊥) → (((why : Cause) → end ≡ ended.Shut why → ⊥) → AllByRecursion (λ second. is_overdue r.shut second r.limits ≡ false) (seconds_of call.event))
        → ((why : Cause) → end ≡ ended.Shut why → MayEnd r why (seconds_of call.event)) → (end ≡ ended.Spent → most ≡ count + 1)
        → Met condition call_log unread taken held size causes notes old new p r l n (actions ++ more) most end
    met_on old mid new p q r l m n call actions more count most end s g offered h events now may next =
        record {
          calls = s.calls ++ call ∷ [];
          last = call;
          given = given_more old new call (s.calls ++ call ∷ []) end events (grows_on old mid new s.calls (call ∷ []) s.given g);
          each = goes_on {call = call} s.each offered h;
          steps = steps_join condition unread taken held s.steps (meets_go h);
          ends = λ e. absurd (events e);
          in_time = subst (λ (l : List ℕ). EndsInTime l p.shut r.shut r.limits end) (sym (seconds_more s.calls call))
              (rounds_go_on (seconds_in s.calls) (seconds_of call.event) p.shut q.shut r.shut q.limits r.limits end s.in_time (meets_reported h) (one_second call.event) (meets_limits h) now);
          may_end = λ why e. subst (λ (l : List ℕ). MayEnd r why l) (sym (seconds_more s.calls call)) (may_end_on r why (seconds_in s.calls) (seconds_of call.event) (may why e));
          spent = λ e.
              let long : length (s.calls ++ call ∷ []) ≡ length s.calls + 1 = length-append s.calls (call ∷ []) in
              let so_far = s.spent refl in
              let on = next e in
              omega (arith, long, so_far, on);
        }

    -- the last event, behind which nothing more is asked for
    ended_by : (T : Type 0) (old mid new : Option (List (PollCall R K S))) (p q r : Host A R K S) (l m n : L) (call : PollCall R K S) (actions : List HostAction) (count most : ℕ) (end : Ended)
        → Met condition call_log unread taken held size causes notes old mid p q l m actions count ended.Spent → GrowsWhereShown mid new (call ∷ []) → MayCall size q call
        → IsMet condition call_log unread taken held size causes notes {T = T} q r m n call.offer call.event (Err end)
        → ((why : Cause) → end ≡ ended.Shut why → MayEnd r why (seconds_of call.event)) → (all : List HostAction) × Met condition call_log unread taken held size causes notes old new p r l n all most end
    ended_by T old mid new p q r l m n call actions count most ended.Events s g offered h may =
        let now : Met condition call_log unread taken held size causes notes old new p q l m actions most ended.Events = record {
          calls = s.calls;
          last = call;
          given = grows_on old mid new s.calls (call ∷ []) s.given g;
          each = s.each;
          steps = s.steps;
          ends = λ e. (offered, h.0);
          in_time = record { is_reported = s.in_time.is_reported; in_time = s.in_time.in_time };
          may_end = λ why e. let bad : ended.Events ≡ ended.Shut why = e in cc;
          spent = λ e. let bad : ended.Events ≡ ended.Spent = e in cc;
        } in (
          actions,
          subst (λ (k : L). Met condition call_log unread taken held size causes notes old new p r l k actions most ended.Events) (sym h.2)
              (subst (λ (k : Host A R K S). Met condition call_log unread taken held size causes notes old new p k l m actions most ended.Events) (sym h.1) now),
        )
    ended_by T old mid new p q r l m n call actions count most (ended.Shut why) s g offered h may = (
      actions ++ h.0,
      met_on old mid new p q r l m n call actions h.0 count most (ended.Shut why) s g offered h.1 (λ e. let bad : ended.Shut why ≡ ended.Events = e in cc) (λ more. absurd (more why refl)) may
          (λ e. let bad : ended.Shut why ≡ ended.Spent = e in cc),
    )
    ended_by T old mid new p q r l m n call actions count most ended.Spent s g offered h may = absurd h

    pub met_last : {T : Type 0} (old mid new : Option (List (PollCall R K S))) (p q r : Host A R K S) (l m n : L) (call : PollCall R K S) (actions : List HostAction) (count most : ℕ) (end : Ended) (result : Result T Ended)
        → result ≡ Err end → Met condition call_log unread taken held size causes notes old mid p q l m actions count ended.Spent → GrowsWhereShown mid new (call ∷ []) → MayCall size q call
        → IsMet condition call_log unread taken held size causes notes q r m n call.offer call.event result
        → ((why : Cause) → result ≡ Err (ended.Shut why) → MayEnd r why (seconds_of call.event)) → (all : List HostAction) × Met condition call_log unread taken held size causes notes old new p r l n all most end
    met_last {T = T} old mid new p q r l m n call actions count most end result is s g offered h may =
        ended_by T old mid new p q r l m n call actions count most end s g offered (subst (λ (k : Result T Ended). IsMet condition call_log unread taken held size causes notes q r m n call.offer call.event k) is h) (λ why e. may why (is ∙ ap Err e))

    pub met_next : (old mid new : Option (List (PollCall R K S))) (p q r : Host A R K S) (l m n : L) (call : PollCall R K S) (count most : ℕ)
        → (actions : List HostAction) × Met condition call_log unread taken held size causes notes old mid p q l m actions count ended.Spent → GrowsWhereShown mid new (call ∷ []) → MayCall size q call
        → IsMetBySome q r m n call.offer call.event → AllByRecursion (λ second. is_overdue r.shut second r.limits ≡ false) (seconds_of call.event) → most ≡ count + 1
        → (actions : List HostAction) × Met condition call_log unread taken held size causes notes old new p r l n actions most ended.Spent
    met_next old mid new p q r l m n call count most s g offered h now next = (
      s.0 ++ h.0,
      met_on old mid new p q r l m n call s.0 h.0 count most ended.Spent s.1 g offered h.1 (λ e. let bad : ended.Spent ≡ ended.Events = e in cc) (λ more. now)
          (λ why e. let bad : ended.Spent ≡ ended.Shut why = e in cc) (λ e. next),
    )

    -- as many came as may
    pub met_all : (old new : Option (List (PollCall R K S))) (p q : Host A R K S) (l m : L) (count most : ℕ) → count ≡ most
        → (actions : List HostAction) × Met condition call_log unread taken held size causes notes old new p q l m actions count ended.Spent
        → (actions : List HostAction) × Met condition call_log unread taken held size causes notes old new p q l m actions most ended.Spent
    met_all old new p q l m count most e h = subst (λ (n : ℕ). (actions : List HostAction) × Met condition call_log unread taken held size causes notes old new p q l m actions n ended.Spent) e h

    pub is_the_end : {T : Type 0} (p q : Host A R K S) (l m : L) (offer : Option ℕ) (event : Event R K S) (result : Result T Ended) → result ≡ Err ended.Events → IsMet condition call_log unread taken held size causes notes p q l m offer event result → event ≡ came.End
    is_the_end {T = T} p q l m offer event result is h = let at_end = subst (λ (k : Result T Ended). IsMet condition call_log unread taken held size causes notes p q l m offer event k) is h in at_end.0
