-- Rounds all through which a request waits that takes files: in each turn of a content of these some of it is sent.
use Rattle.std.proofs.Common.{◌≡◌, inl, inr, ◌<◌, ◌≤◌, ◌+◌, ◌*◌, ℕ, suc, Bool, true, false, if◌then◌else◌, List, [], ◌∷◌, ◌++◌, Option, None, Some, refl, sym, ap, subst, ◌∙◌, length, nat_lt, is_some, IsTrue, arith}
use Rattle.std.proofs.lemmas.Bool.{cases_lt}
use Rattle.std.proofs.lemmas.List.{get_or_past}
use Rattle.dep_types.specs.Conditions.{Condition, HasCleanDisk}
use Rattle.dep_exchange.specs.Records.{World}
use Rattle.dep_hub.specs.Claims.{has_to_wait, sends_of}
use Rattle.dep_hub.specs.Holding.{RepresentsHolding}
use Rattle.dep_hub.specs.Representing.{IsClean}
use Rattle.dep_hub.specs.RepresentsOwing.{behind_at}
use Rattle.dep_hub.specs.declared.claim.Claim.TheVariants.{Takes}
use Rattle.dep_hub.specs.declared.claim.Files.{Files}
use Rattle.dep_hub.proofs.PendingLemmas.{found_at, sends_content}
use Rattle.dep_hub.proofs.SourceLemmas.{unawaited_unsent}
use Rattle.dep_outbox.specs.Wires.{owed_count}
use Rattle.dep_slot.specs.Causes.{Causes}
use Rattle.dep_slot.specs.ConnectionStates.{closing_of, has_been_silent, is_sending, is_slow}
use Rattle.dep_slot.specs.declared.connection_state.NextAction.{NextAction}
use Rattle.dep_slot.specs.declared.connection_state.Phase.{Phase}
use Rattle.dep_slot.specs.declared.connection_state.Phase.TheVariants.{Over}
use Rattle.dep_slot.specs.declared.limits.Limits.{Limits}
use Rattle.dep_slot.specs.declared.log.Closing.TheVariants as ends
use Rattle.dep_slot.specs.declared.slot.Slot.{Slot}
use Rattle.dep_slot.proofs.PhaseLemmas.{sending_action, sent_unless}
use Rattle.dep_host.specs.Actions.{Position, slot_at, HostAction, answers_at, pieces_at, sendings_at, sendings_in, unfinished_in}
use Rattle.dep_host.specs.Hosting.{HasTime, IsServed, IsServedAt, Steps, begins, goes_on}
use Rattle.dep_host.specs.Laws.{StepsAwaiting, waits_first, waits_on}
use Rattle.dep_host.specs.Runs.{OwesNone, parts_of, reply_count}
use Rattle.dep_host.specs.Sharing.{AreNexts, IsNextPlace, is_turn, most_sent}
use Rattle.dep_host.specs.Waiting.{BecomesFree, RoundAwaiting, RoundsAwaiting, no_round, round_more, WaitsInTurn}
use Rattle.dep_host.proofs.AwaitLemmas.{as_steps, steps_begin_none}
use Rattle.dep_host.proofs.CloseLemmas.{clean_before}
use Rattle.dep_host.proofs.HostLemmas.{steps_join}
use Rattle.dep_host.proofs.OweLemmas.{parts_join, replies_join}
use Rattle.dep_host.proofs.ReportLemmas.{no_some, some_same}
use Rattle.dep_host.proofs.SendLemmas.{steps_agree}
use Rattle.dep_host.proofs.TurnLemmas.{turns_in, turns_come_often}
use Rattle.dep_host.proofs.WholeRounds.{one_step}
use Rattle.dep_host.proofs.WaitLemmas.{IsSparedByAll, spared_before, spared_join, step_spares, keep_sending, same_places, StaysThere, stays_there, steps_seat}

not_true : (b : Bool) → (b ≡ true → ⊥) → b ≡ false
not_true true never = absurd (never refl)
not_true false never = refl

-- who is somewhere is at one of the places
seat_within : {X : Type 0} (slots : List (Option X)) (place : ℕ) (slot : X) → slot_at place slots ≡ Some slot → place < length slots
seat_within slots place slot sat = elim (cases_lt place (length slots)) [
  | inl lt ↦ lt
  | inr ge ↦ absurd (no_some slot (sym (get_or_past slots place None ge) ∙ sat))
]

-- who has time left is not over
left_not_over : {R K S : Type 0} (second : ℕ) (limits : Limits) (who : Option (Slot R K S)) (slot : Slot R K S) → who ≡ Some slot → HasTime second limits who → slot.state.phase ≡ Over → ⊥
left_not_over {R = R} {K = K} {S = S} second limits who slot is left over =
    let time : HasTime second limits (Some slot) = subst (λ (x : Option (Slot R K S)). HasTime second limits x) is left in
    no_some ends.Over (sym time ∙ ap (λ (p : Phase). closing_of p (has_been_silent slot.state second limits) (is_slow slot.state second limits)) over)

module _ {A R K S : Type 0} (condition : A → Condition) (unread : R → Option (List ℕ)) (taken : K → Option (List ℕ)) (held : S → Option (List ℕ)) (size : S → ℕ) (causes : Causes R K S)
    (honest : (a : A) → IsTrue (condition a).is_open → HasCleanDisk (condition a)) (waiting : ℕ) (files : Files) where
  waiting_steps : {m q : Position A R K S} {late : List HostAction} → StepsAwaiting condition unread taken held waiting files m late q → Steps condition unread taken held m late q
  waiting_steps s = as_steps condition unread taken held honest s

  -- what a host does in all of these rounds
  pub rounds_steps : {m q : Position A R K S} {first rounds : ℕ} {late : List HostAction} → RoundsAwaiting condition unread taken held size causes waiting files m first rounds late q → Steps condition unread taken held m late q
  rounds_steps (no_round s) = waiting_steps s
  rounds_steps (round_more e round more) = steps_join condition unread taken held (waiting_steps e) (steps_join condition unread taken held (waiting_steps round.steps) (rounds_steps more))

  clean_first : {m q : Position A R K S} {late : List HostAction} → Steps condition unread taken held m late q → IsClean condition q.hub → IsClean condition m.hub
  clean_first begins clean = clean
  clean_first (goes_on s t) clean = clean_first s (clean_before condition unread taken held t clean)

  -- the hub represents a world behind all steps from here
  abbrev pub IsRepresented : Position A R K S → Type 0
  IsRepresented m = (r : Position A R K S) (actions : List HostAction) → Steps condition unread taken held m actions r → IsClean condition r.hub → (w : World) × (holds : ℕ → List ℕ) × RepresentsHolding condition r.hub w holds

  later_too : {m s : Position A R K S} {actions : List HostAction} → IsRepresented m → Steps condition unread taken held m actions s → IsRepresented s
  later_too h came = λ r more steps clean. h r _ (steps_join condition unread taken held came steps) clean

  -- a content of these files is being sent to the connection of a number
  abbrev pub IsSent : Position A R K S → (number : ℕ) → Type 0
  IsSent p number = sends_of files (behind_at p.hub.connections.items number) ≡ true

  sent_first : {m q : Position A R K S} {late : List HostAction} (number : ℕ) → IsRepresented m → StepsAwaiting condition unread taken held waiting files m late q → IsClean condition q.hub → IsSent q number
      → IsSent m number × (reply_count number late ≡ 0)
  sent_first number h s clean is_sent = steps_begin_none condition unread taken held honest waiting files h s clean number is_sent

  -- no step ended a content that is still sent
  all_spare : {m q : Position A R K S} {late : List HostAction} (number : ℕ) → IsRepresented m → StepsAwaiting condition unread taken held waiting files m late q → IsClean condition q.hub → IsSent q number → IsSparedByAll number late
  all_spare number h waits_first clean is_sent = tt
  all_spare number h (waits_on {actions = actions} {more = more} s t waits) clean is_sent =
      let was = sent_first number (later_too h (waiting_steps s)) (waits_on waits_first t waits) clean is_sent in
      spared_join number actions more (all_spare number h s (clean_before condition unread taken held t clean) was.0) (step_spares condition unread taken held files number t is_sent)

  -- a content of these files that is sent at the end was sent at first, and no item of its connection was answered
  pub rounds_begin_none : {m q : Position A R K S} {first rounds : ℕ} {late : List HostAction} (number : ℕ) → IsRepresented m → RoundsAwaiting condition unread taken held size causes waiting files m first rounds late q → IsClean condition q.hub
      → IsSent q number → IsSent m number × (reply_count number late ≡ 0)
  rounds_begin_none number h (no_round s) clean is_sent = sent_first number h s clean is_sent
  rounds_begin_none number h (round_more {early = early} {late = late} e round more) clean is_sent =
      let to_round = later_too h (waiting_steps e) in
      let behind = rounds_begin_none number (later_too to_round (waiting_steps round.steps)) more clean is_sent in
      let clean_behind = clean_first (rounds_steps more) clean in
      let in_round = sent_first number to_round round.steps clean_behind behind.0 in
      let before = sent_first number h e (clean_first (waiting_steps round.steps) clean_behind) in_round.0 in
      let a = replies_join number early (round.goes.actions ++ late) in
      let b = replies_join number round.goes.actions late in
      let x = before.1 in let y = in_round.1 in let z = behind.1 in
      (before.0, omega (arith, a, b, x, y, z))

  -- in its turn a content is sent on for which a request waits
  sent_in_turn : (p q : Position A R K S) (is_full may_send : Bool) (actions : List HostAction) (place : ℕ) (who : Option (Slot R K S)) (slot : Slot R K S) → who ≡ Some slot
      → (t : IsServedAt condition unread taken held size causes p q is_full may_send actions place who) → WaitsInTurn condition unread taken held size causes waiting files p q is_full may_send actions place who t
      → is_sending slot.state.phase ≡ true → may_send ≡ true → IsSent p slot.connection → IsSparedByAll slot.connection actions → length (sendings_at place actions) ≡ 1
  sent_in_turn p q is_full may_send actions place None slot is t waits sending may is_sent spared = absurd (no_some slot is)
  sent_in_turn p q is_full may_send actions place (Some who) slot is t waits sending may is_sent spared =
      let same : who ≡ slot = some_same who slot is in
      let goes : is_sending who.state.phase ≡ true = ap (λ (s : Slot R K S). is_sending s.state.phase) same ∙ sending in
      let all : IsSparedByAll who.connection (t.asked.earlier ++ t.asked.later) =
      subst (λ (l : List HostAction). IsSparedByAll who.connection l) t.asked.all (subst (λ (s : Slot R K S). IsSparedByAll s.connection actions) (sym same) spared) in
      let there = keep_sending condition unread taken held files who.connection t.asked.came (spared_before who.connection t.asked.earlier t.asked.later all) (subst (λ (s : Slot R K S). IsSent p s.connection) (sym same) is_sent) in
      elim (sent_unless t.is_awaited (nat_lt 0 (owed_count size who.wire)) who.state.is_writable) [
        | inl send ↦ one_step condition unread taken held size causes p q actions is_full may_send who t.after (answers_at place actions) (pieces_at place actions) (sendings_at place actions) may
            (subst (λ (d : NextAction). IsServed condition unread taken held size causes p q actions is_full may_send who t.after (answers_at place actions) (pieces_at place actions) (sendings_at place actions) d)
            (sending_action who.state.phase (is_some p.shut) t.is_awaited (nat_lt 0 (owed_count size who.wire)) who.state.is_readable who.state.is_writable goes ∙ send) t.served)
        | inr none ↦ absurd (unawaited_unsent t.asked.mid.hub.connections.items (behind_at t.asked.mid.hub.connections.items who.connection) waiting files (t.asked.is ∙ none.0) waits there)
      ]

  -- a turn of the place, if it was that, sent a part
  part_in_turn : (turn : Bool) (parts sent : ℕ) → sent ≤ parts → (turn ≡ true → sent ≡ 1) → (if turn then 1 else 0) ≤ parts
  part_in_turn true parts sent few one = let e = one refl in let some : 1 ≤ parts = omega (arith, few, e) in some
  part_in_turn false parts sent few one = let none : 0 ≤ parts = omega arith in none

  -- the rounds go on by these places, and whenever it was the turn of a place a part was sent to the connection there
  record Counts (places place number first rounds : ℕ) (late : List HostAction) : Type 0 where
    nexts : List ℕ
    long : length nexts ≡ rounds
    go_by : AreNexts places first nexts
    few : turns_in first nexts place ≤ parts_of number late

  count_more : (places place number first next rounds sent : ℕ) (early here late : List HostAction) → IsNextPlace places first next sent → (if is_turn first next place then 1 else 0) ≤ parts_of number here
      → Counts places place number next rounds late → Counts places place number first (suc rounds) (early ++ (here ++ late))
  count_more places place number first next rounds sent early here late by one rest =
      let n = rest.long in
      let t = rest.few in
      let x = parts_join number early (here ++ late) in
      let y = parts_join number here late in
      record {
        nexts = next ∷ rest.nexts;
        long = omega (arith, n);
        go_by = ((sent, by), rest.go_by);
        few = omega (arith, one, t, x, y);
      }

  -- in a round through which a content of these files is sent to who is at a place a part of it is sent, if it is its turn
  round_sends : {p r s : Position A R K S} {done : List HostAction} {first next : ℕ} (place : ℕ) (slot : Slot R K S) → ((at : ℕ) → slot_at at p.slots ≡ None) → Steps condition unread taken held p done r
      → slot_at place r.slots ≡ Some slot → (round : RoundAwaiting condition unread taken held size causes waiting files r s first next) → IsSent r slot.connection → IsSparedByAll slot.connection round.goes.actions
      → StaysThere condition unread taken held place slot s round.goes.actions → (if is_turn first next place then 1 else 0) ≤ parts_of slot.connection round.goes.actions
  round_sends {r = r} {s = s} {first = first} {next = next} place slot empty came sat round is_sent spared stays =
      let sending : is_sending slot.state.phase ≡ true = elim (steps_agree condition unread taken held empty came place slot sat).content [
        | inl content ↦ content ∙ sends_content files (behind_at r.hub.connections.items slot.connection) is_sent
        | inr over ↦ absurd (left_not_over round.time.second s.limits (slot_at place s.slots) stays.later stays.sits (round.left place) (stays.over over))
      ] in
      part_in_turn (is_turn first next place) (parts_of slot.connection round.goes.actions) (length (sendings_at place round.goes.actions)) stays.sent
      (λ turn. sent_in_turn r s (nat_lt r.limits.unfinished_bytes (unfinished_in r.slots)) (is_turn first next place) round.goes.actions place (slot_at place r.slots) slot sat
      (round.goes.served place) (round.asked place) sending turn is_sent spared)

  -- from where the round begins, and then on
  count_one : {p r s : Position A R K S} {done : List HostAction} {first next rounds : ℕ} (early late : List HostAction) (places number place : ℕ) (slot : Slot R K S) → ((at : ℕ) → slot_at at p.slots ≡ None) → Steps condition unread taken held p done r
      → slot_at place r.slots ≡ Some slot → slot.connection ≡ number → length r.slots ≡ places → (round : RoundAwaiting condition unread taken held size causes waiting files r s first next)
      → IsSent r number → IsSparedByAll number round.goes.actions
      → ((later : Slot R K S) → slot_at place s.slots ≡ Some later → later.connection ≡ number → length s.slots ≡ places → Counts places place number next rounds late)
      → Counts places place number first (suc rounds) (early ++ (round.goes.actions ++ late))
  count_one {r = r} {s = s} {first = first} {next = next} {rounds = rounds} early late places number place slot empty came sat same as_many round is_sent spared behind =
      let through = waiting_steps round.steps in
      let spared_there = subst (λ (n : ℕ). IsSparedByAll n round.goes.actions) (sym same) spared in
      let stays = stays_there condition unread taken held place slot through sat spared_there in
      let one = subst (λ (n : ℕ). (if is_turn first next place then 1 else 0) ≤ parts_of n round.goes.actions) same
      (round_sends place slot empty came sat round (subst (λ (n : ℕ). IsSent r n) (sym same) is_sent) spared_there stays) in
      count_more places place number first next rounds (sendings_in round.goes.actions) early round.goes.actions late
      (subst (λ (k : ℕ). IsNextPlace k first next (sendings_in round.goes.actions)) as_many round.goes.goes_by) one
      (behind stays.later stays.sits (stays.same ∙ same) (same_places condition unread taken held through ∙ as_many))

  count_rounds : {p m q : Position A R K S} {done late : List HostAction} {first rounds : ℕ} (places number place : ℕ) (slot : Slot R K S) → ((at : ℕ) → slot_at at p.slots ≡ None) → Steps condition unread taken held p done m → IsRepresented m
      → slot_at place m.slots ≡ Some slot → slot.connection ≡ number → length m.slots ≡ places → RoundsAwaiting condition unread taken held size causes waiting files m first rounds late q → IsClean condition q.hub → IsSent q number
      → Counts places place number first rounds late
  count_rounds places number place slot empty came h sat same as_many (no_round s) clean is_sent = record {
    nexts = [];
    long = refl;
    go_by = tt;
    few = omega arith;
  }
  count_rounds places number place slot empty came h sat same as_many (round_more {early = early} {late = late} e round more) clean is_sent =
      let through = waiting_steps round.steps in
      let came_round = steps_join condition unread taken held came (waiting_steps e) in
      let h_round = later_too h (waiting_steps e) in
      let clean_behind = clean_first (rounds_steps more) clean in
      let behind = rounds_begin_none number (later_too h_round through) more clean is_sent in
      let in_round = sent_first number h_round round.steps clean_behind behind.0 in
      let early_spared = all_spare number h e (clean_first through clean_behind) in_round.0 in
      let stays = stays_there condition unread taken held place slot (waiting_steps e) sat (subst (λ (n : ℕ). IsSparedByAll n early) (sym same) early_spared) in
      count_one early late places number place stays.later empty came_round stays.sits (stays.same ∙ same) (same_places condition unread taken held (waiting_steps e) ∙ as_many) round
      in_round.0 (all_spare number h_round round.steps clean_behind behind.0)
      (λ later sits there enough. count_rounds places number place later empty (steps_join condition unread taken held came_round through) (later_too h_round through) sits there enough more clean is_sent)

  -- a content of these files is sent no longer than so many rounds
  sent_within : {p m q : Position A R K S} {early late : List HostAction} {first rounds : ℕ} (number k : ℕ) (was now : ℕ → List ℕ) → ((at : ℕ) → slot_at at p.slots ≡ None) → OwesNone p.hub → Steps condition unread taken held p early m
      → IsRepresented m → first ≤ length m.slots → RoundsAwaiting condition unread taken held size causes waiting files m first rounds late q → IsClean condition q.hub
      → (reply_count number late ≡ 0 → parts_of number late + length (now number) ≤ length (was number))
      → length m.slots + most_sent ≤ most_sent * k → IsSent q number → rounds < k * (length (was number) + 1)
  sent_within {m = m} {first = first} {rounds = rounds} number k was now empty unowed came h within goes clean pays enough is_sent = elim (cases_lt rounds (k * (length (was number) + 1))) [
    | inl lt ↦ lt
    | inr many ↦ absurd (
        let begun = rounds_begin_none number h goes clean is_sent in
        let seat = steps_seat condition unread taken held unowed came number (sends_content files (behind_at m.hub.connections.items number) begun.0) in
        let counts = count_rounds (length m.slots) number seat.0 seat.1 empty came h seat.2 seat.3 refl goes clean is_sent in
        let often = turns_come_often (length m.slots) seat.0 k (seat_within m.slots seat.0 seat.1 seat.2) enough (length (was number) + 1) first counts.nexts within counts.go_by
        (subst (λ (n : ℕ). k * (length (was number) + 1) ≤ n) (sym counts.long) many) in
        let few = counts.few in
        let paid = pays begun.1 in
        let no : ⊥ = omega (arith, often, few, paid) in no)
  ]

  -- so the request becomes free
  pub becomes_free : {p m q : Position A R K S} {early late : List HostAction} {first rounds : ℕ} (was now : ℕ → List ℕ) → ((at : ℕ) → slot_at at p.slots ≡ None) → OwesNone p.hub → Steps condition unread taken held p early m
      → IsRepresented m → first ≤ length m.slots → RoundsAwaiting condition unread taken held size causes waiting files m first rounds late q → IsClean condition q.hub
      → ((number : ℕ) → reply_count number late ≡ 0 → parts_of number late + length (now number) ≤ length (was number))
      → (k : ℕ) → length m.slots + most_sent ≤ most_sent * k → BecomesFree m.hub q.hub files was rounds k
  becomes_free {m = m} {q = q} was now empty unowed came h within goes clean pays k enough = record {
    each = λ number is_sent. sent_within number k was now empty unowed came h within goes clean (pays number) enough is_sent;
    free = λ all. not_true (has_to_wait q.hub.connections.items (Takes files)) (λ held_back.
        let in_the_way = found_at (sends_of files) 0 q.hub.next q.hub.connections.items q.hub.ascends held_back in
        let few = sent_within in_the_way.0 k was now empty unowed came h within goes clean (pays in_the_way.0) enough in_the_way.2 in
        let many = all in_the_way.0 (rounds_begin_none in_the_way.0 h goes clean in_the_way.2).0 in
        let no : ⊥ = omega (arith, few, many) in no);
  }
