-- A segment that was accepted once is accepted again, unless other bytes are received as this segment.
use Rattle.std.proofs.Common.{◌≡◌, ◌⊎◌, inl, inr, ℕ, ◌∷◌, ◌++◌, true, not, List, Option, Some, None, is_some, refl, sym, ap, subst, ◌∙◌}
use Rattle.std.specs.FinMap as map
use Rattle.dep_types.specs.State.{State, Upload, tick, expires, clock_at}
use Rattle.dep_types.specs.Sound.{IsSound}
use Rattle.dep_types.specs.declared.config.Config.{Config}
use Rattle.dep_types.specs.declared.refusal.Refusal.{Refusal}
use Rattle.dep_types.specs.declared.target.Method.TheVariants.{Post}
use Rattle.dep_types.proofs.Kept.{get-insert_same, kept-was}
use Rattle.dep_types.proofs.TickLemmas.{get-unexpired}
use Rattle.dep_types.proofs.TickSound.{keeps_sound}
use Rattle.dep_fields.specs.declared.kind.Kind.TheVariants as of
use Rattle.dep_decisions.specs.Kinds.{content_kind}
use Rattle.dep_decisions.specs.Rules.{refusal, segment_refusal}
use Rattle.dep_decisions.specs.Effects.{effect, with_segment}
use Rattle.dep_decisions.specs.Laws.{posted_to}
use Rattle.dep_decisions.specs.declared.operation.Operation.{Operation}
use Rattle.dep_decisions.proofs.SegmentRequests.{accepted_again, effect_is, let_through, present}
use Rattle.dep_decisions.proofs.Segments.{IsGood, in_range, let_through_is_good, good_passes, repeat_passes, stands_then}
use Rattle.dep_answers.specs.Replies.{empty_answer}
use Rattle.dep_answers.specs.Steps.{accepted_answer, is_head, operation_step, sent_by, step_by}
use Rattle.dep_message.specs.Places.{Place}
use Rattle.dep_message.specs.Stream.{Item, Request}
use Rattle.dep_message.specs.declared.message.Message.{Message}
use Rattle.dep_router.specs.Targets.{target}
use Rattle.dep_router.specs.declared.routed.Routed.{Routed}
use Rattle.dep_router.specs.declared.routed.Routed.TheVariants.{To}
use Rattle.dep_exchange.specs.Machine.{operation_of, routed_step, step, starting_state, Fails, given_up, cut_short, Serves, serves_all, step_fails, gives_up}
use Rattle.dep_exchange.specs.Stops.{LeftByFailure, LeftByServing}
use Rattle.dep_exchange.specs.Records.{ServerEvent, Record, Line, World, Arrives, at_live, at_shut_line, LeftByArrival, Happens, connects, closes, arrives, unknown, Run, begins, goes_on, stops, breaks}
use Rattle.dep_exchange.specs.declared.arrived.Arrived.{Arrived}
use Rattle.dep_server.specs.Acknowledged.{RunsThrough, HasSegment, BeginsWithStatus}
use Rattle.dep_server.specs.Requests.{IsLetThrough}
use Rattle.dep_server.specs.TakenAgain.{FailsAt, ArrivalFailsAt, EventFailsAt, EndsInWork, IsAcknowledged}
use Rattle.dep_server.proofs.Acknowledging.{reply_begins, named_segment}
use Rattle.dep_server.specs.Moves.{Move, Made, moves_of, state_by}
use Rattle.dep_server.proofs.MovesLead.{leads_on}
use Rattle.dep_server.proofs.RunKeeps.{after_run}
use Rattle.dep_server.proofs.SegmentsStay.{HasBytes, bytes_kept, received_represents}
use Rattle.dep_server.proofs.SoundLemmas.{step_sound, moves_sound}
use Rattle.dep_server.proofs.UploadsKept.{HoldsStill, IsKept, sound_through, still_after, still_later}

some_of : (o : Option Upload) → is_some o ≡ true → (x : Upload) × (o ≡ Some x)
some_of None e = cc
some_of (Some x) e = (x, refl)

none_there : (o : Option Upload) → o ≡ None → is_some o ≡ true → ⊥
none_there None e some = cc some
none_there (Some x) e some = cc e

-- what is there once time has passed was there before
was_there : (config : Config) (s : State) (moment u : ℕ) (y : Upload) → map.get (tick config s moment).uploads u ≡ Some y → map.get s.uploads u ≡ Some y
was_there config s moment u y h = (kept-was (not (expires config (clock_at s moment) s.uploads u)) (map.get s.uploads u) y (sym (get-unexpired config (clock_at s moment) s.uploads u) ∙ h)).1

-- the request is accepted and answered 204 at each moment at which its upload is there
abbrev IsAcceptedStill : Config → State → Message → ℕ → Type 0
IsAcceptedStill config s m u = (later : ℕ) → is_some (map.get (tick config s later).uploads u) ≡ true
    → IsAcknowledged (record { config = config; state = s; message = m; moment = later }) u

-- ---- the reply

module _ (config : Config) (m : Message) (u : ℕ) where
  abbrev op : Operation
  op = operation_of m (posted_to u)

  replied_by : (s : State) (o : Option Refusal) → o ≡ None → BeginsWithStatus 204 (sent_by (step_by config s op o))
  unfolding accepted_answer
  replied_by s None e = reply_begins (effect config s op) empty_answer s.clock (is_head Post) op.closes
  replied_by s (Some r) e = cc e

  taken : (s : State) (moment : ℕ) → target m.head.method m.head.path ≡ To (posted_to u) → refusal config (tick config s moment) op ≡ None
      → IsAcknowledged (record { config = config; state = s; message = m; moment = moment }) u
  unfolding step operation_step
  taken s moment named passed = record {
    accepted = record { named = named; passed = passed };
    replied = subst (λ (r : Routed). BeginsWithStatus 204 (sent_by (routed_step config (tick config s moment) m r))) (sym named)
        (replied_by (tick config s moment) (refusal config (tick config s moment) op) passed);
  }

-- ---- in work at the end of a run

-- the state of before, that with which the step begins, or that which it leaves
abbrev IsLeft : Config → State → Item → ℕ → State → Type 0
IsLeft config s item moment left = (left ≡ s) ⊎ ((left ≡ starting_state config s item moment) ⊎ (left ≡ (step config s item moment).state))

-- of that item, in that state, at that moment
of_this : (config : Config) (s t left : State) (failed item : Item) (moment : ℕ) → item ≡ failed → t ≡ s → IsLeft config s failed moment left → IsLeft config t item moment left
of_this config s t left failed item moment same is l =
    subst (λ (i : Item). IsLeft config t i moment left) (sym same) (subst (λ (q : State). IsLeft config q failed moment left) (sym is) l)

at_this : (config : Config) (s left : State) (item : Item) (moment at : ℕ) → moment ≡ at → IsLeft config s item at left → IsLeft config s item moment left
at_this config s left item moment at same l = subst (λ n. IsLeft config s item n left) (sym same) l

module _ {config : Config} where
  after_failure : {s left : State} {item : Item} {moment : ℕ} {sent : List ℕ} {answer : Arrived} → Fails config s item moment sent left answer → IsLeft config s item moment left
  after_failure (given_up fixed sends (inl as_before)) = inl as_before
  after_failure (given_up fixed sends (inr as_begun)) = inr (inl as_begun)
  after_failure (cut_short part as_made) = inr (inr as_made)

  found_after_failure : {s left : State} {item : Item} {moment : ℕ} {sent : List ℕ} {answer : Arrived} (fails : Fails config s item moment sent left answer) (found : State)
      → LeftByFailure fails found → IsLeft config s item moment found
  found_after_failure (given_up fixed sends leaves) found l = l
  found_after_failure (cut_short part as_made) found same = inr (inr (same ∙ as_made))

  after_serving : {reads : List Item → Place → Type 0} {s left : State} {moment : ℕ} {sent : List ℕ} {at : Place} {answer : Arrived}
      (serves : Serves config reads s moment sent left at answer) (item : Item) (began : State) → FailsAt serves item began → IsLeft config began item moment left
  after_serving (serves_all items r w) item began in_work = absurd in_work
  after_serving (step_fails items failed at r fails) item began in_work = of_this config _ began _ failed item _ in_work.0 in_work.1 (after_failure fails)
  after_serving (gives_up items at r b sends) item began in_work = absurd in_work

  found_after_serving : {reads : List Item → Place → Type 0} {s left : State} {moment : ℕ} {sent : List ℕ} {at : Place} {answer : Arrived}
      (serves : Serves config reads s moment sent left at answer) (found : State) → LeftByServing serves found
      → (item : Item) (began : State) → FailsAt serves item began → IsLeft config began item moment found
  found_after_serving (serves_all items r w) found l item began in_work = absurd in_work
  found_after_serving (step_fails items failed at r fails) found l item began in_work = of_this config _ began found failed item _ in_work.0 in_work.1 (found_after_failure fails found l)
  found_after_serving (gives_up items at r b sends) found l item began in_work = absurd in_work

  after_arrival : {piece : List ℕ} {moment : ℕ} {line after : Line} {s left : State} {sent : List ℕ} {answer : Arrived}
      (arrival : Arrives config piece moment line s sent left after answer) (item : Item) (began : State) → ArrivalFailsAt arrival item began → IsLeft config began item moment left
  after_arrival (at_live serves) item began in_work = after_serving serves item began in_work
  after_arrival at_shut_line item began in_work = absurd in_work

  found_after_arrival : {piece : List ℕ} {moment : ℕ} {line after : Line} {s left : State} {sent : List ℕ} {answer : Arrived}
      (arrival : Arrives config piece moment line s sent left after answer) (found : State) → LeftByArrival arrival found
      → (item : Item) (began : State) → ArrivalFailsAt arrival item began → IsLeft config began item moment found
  found_after_arrival (at_live serves) found l item began in_work = found_after_serving serves found l item began in_work
  found_after_arrival at_shut_line found l item began in_work = absurd in_work

  after_event : {w w' : World} {event : ServerEvent} {sent : List ℕ} (happens : Happens config w event sent w') (item : Item) (moment : ℕ) (began : State)
      → EventFailsAt happens item moment began → IsLeft config began item moment w'.state
  after_event connects item moment began in_work = absurd in_work
  after_event closes item moment began in_work = absurd in_work
  after_event (arrives arrival) item moment began in_work = at_this config began _ item moment _ in_work.0 (after_arrival arrival item began in_work.1)
  after_event (unknown absent) item moment began in_work = absurd in_work

  left_at_end : {first : State} {records : List Record} {w : World} (r : Run config first records w) (item : Item) (moment : ℕ) (began : State)
      → EndsInWork r item moment began → IsLeft config began item moment w.state
  left_at_end begins item moment began in_work = absurd in_work
  left_at_end (goes_on r happens) item moment began in_work = after_event happens item moment began in_work
  left_at_end (stops r) item moment began in_work = left_at_end r item moment began in_work
  left_at_end (breaks found r arrival shut leaves) item moment began in_work =
      at_this config began found item moment _ in_work.0 (found_after_arrival arrival found leaves item began in_work.1)

-- ---- what is left of a segment, lets it through

step_accepted : (config : Config) (s : State) (op : Operation) (o : Option Refusal) → o ≡ None → (step_by config s op o).state ≡ effect config s op
step_accepted config s op None e = refl
step_accepted config s op (Some r) e = absurd (cc e)

-- the step that accepts it makes of the state what is asked for
step_is : (config : Config) (s : State) (m : Message) (moment u : ℕ) → IsLetThrough config (tick config s moment) m (posted_to u)
    → (step config s (Request m) moment).state ≡ effect config (tick config s moment) (operation_of m (posted_to u))
unfolding step operation_step
step_is config s m moment u accepted =
    ap (λ (r : Routed). (routed_step config (tick config s moment) m r).state) accepted.named
    ∙ step_accepted config (tick config s moment) (operation_of m (posted_to u)) (refusal config (tick config s moment) (operation_of m (posted_to u))) accepted.passed

one : (x y : Upload) (o : Option Upload) → o ≡ Some x → o ≡ Some y → y ≡ x
one x y o a b = let same : Some y ≡ Some x = sym b ∙ a in cc same

module _ (config : Config) (m : Message) (u k : ℕ) (kind : content_kind (operation_of m (posted_to u)) ≡ Some (of.Segment k)) where
  abbrev sent : Operation
  sent = operation_of m (posted_to u)

  -- the upload as it was, or with the segment
  data IsWork (x y : Upload) : Type 0 where
    without_it : y ≡ x → IsWork x y
    with_it : (s : State) → y ≡ with_segment s k m.content x → IsWork x y

  still_passes : (x y : Upload) → segment_refusal x k m.content ≡ None → IsWork x y → segment_refusal y k m.content ≡ None
  still_passes x y passes (without_it same) = ap (λ (z : Upload). segment_refusal z k m.content) same ∙ passes
  still_passes x y passes (with_it s same) =
      let range = in_range x k m.content passes in
      ap (λ (z : Upload). segment_refusal z k m.content) same
      ∙ repeat_passes (with_segment s k m.content x) k m.content (stands_then x k m.content passes s) range.0 range.1

  effect_at : (s : State) (x : Upload) → map.get s.uploads u ≡ Some x → map.get (effect config s sent).uploads u ≡ Some (with_segment s k m.content x)
  effect_at s x there =
      ap (λ (t : State). map.get t.uploads u) (effect_is config sent u k refl kind s x there)
      ∙ get-insert_same s.uploads u (with_segment s k m.content x)

  -- accepted at a tick, it is so at a later tick of what is left
  again : (s left : State) (moment later : ℕ) (y : Upload) → IsLetThrough config (tick config s moment) m (posted_to u) → IsLeft config s (Request m) moment left
      → map.get (tick config left later).uploads u ≡ Some y → refusal config (tick config left later) sent ≡ None
  again s left moment later y accepted is there =
      let t = tick config s moment in
      let x = present config sent u k refl kind t accepted.passed in
      let passes = let_through config sent u k refl kind t x.0 accepted.passed x.1 in
      accepted_again config sent u k refl kind t (tick config left later) y accepted.passed there
      (still_passes x.0 y passes (work x.0 x.1 (was_there config left later u y there) is))
    where
      work : (x : Upload) → map.get (tick config s moment).uploads u ≡ Some x → map.get left.uploads u ≡ Some y → IsLeft config s (Request m) moment left → IsWork x y
      work x at h (inl same) = without_it (one x y (map.get s.uploads u) (was_there config s moment u x at) (ap (λ (z : State). map.get z.uploads u) (sym same) ∙ h))
      work x at h (inr (inl same)) = without_it (one x y (map.get (tick config s moment).uploads u) at (ap (λ (z : State). map.get z.uploads u) (sym same) ∙ h))
      work x at h (inr (inr same)) =
          with_it (tick config s moment) (one (with_segment (tick config s moment) k m.content x) y (map.get (effect config (tick config s moment) sent).uploads u) (effect_at (tick config s moment) x at)
          (ap (λ (z : State). map.get z.uploads u) (sym (same ∙ step_is config s m moment u accepted)) ∙ h))

-- what was in work at the end of a run
pub after_work : (config : Config) (first : State) (records : List Record) (w : World) (r : Run config first records w) (m : Message) (moment u : ℕ) (began : State)
    → EndsInWork r (Request m) moment began → IsLetThrough config (tick config began moment) m (posted_to u) → IsAcceptedStill config w.state m u
after_work config first records w r m moment u began in_work accepted later there =
    let k = named_segment config (tick config began moment) m u accepted.passed in
    let y = some_of (map.get (tick config w.state later).uploads u) there in
    taken config m u w.state later accepted.named
    (again config m u k.0 k.1 began w.state moment later y.0 accepted (left_at_end r (Request m) moment began in_work) y.1)

-- ---- at the end of any run

module _ (config : Config) (m : Message) (u k : ℕ) (kind : content_kind (operation_of m (posted_to u)) ≡ Some (of.Segment k)) where
  abbrev asked_for : Operation
  asked_for = operation_of m (posted_to u)

  -- where it was accepted once, and its upload is still there and lets it through
  still_accepted : (P : Upload → Type 0) (t w : State) (later : ℕ) → refusal config t asked_for ≡ None
      → ((x : Upload) → map.get (tick config w later).uploads u ≡ Some x → P x → segment_refusal x k m.content ≡ None)
      → is_some (map.get (tick config w later).uploads u) ≡ true → HoldsStill u P (tick config w later).uploads → refusal config (tick config w later) asked_for ≡ None
  still_accepted P t w later passed passes there (inl h) = accepted_again config asked_for u k refl kind t (tick config w later) h.0 passed h.1 (passes h.0 h.1 h.2)
  still_accepted P t w later passed passes there (inr gone) = absurd (none_there (map.get (tick config w later).uploads u) gone there)

-- ---- once its step is made

pub after_step : (config : Config) (first : State) (records : List Record) (w : World) (r : Run config first records w) (before behind : List Move) (m : Message) (moment u : ℕ)
    → IsSound first → moves_of r ≡ before ++ Made (Request m) moment ∷ behind → IsLetThrough config (tick config (state_by config first before) moment) m (posted_to u)
    → IsAcceptedStill config w.state m u
after_step config first records w r before behind m moment u sound split accepted later there =
    let s = state_by config first before in
    let t = (step config s (Request m) moment).state in
    let k = named_segment config (tick config s moment) m u accepted.passed in
    let has = received_represents config s m moment u k.0 accepted.named k.1 accepted.passed in
    let t_sound = step_sound config s (Request m) moment (moves_sound config first before sound) in
    let end : w.state ≡ state_by config t behind = leads_on config r before (Made (Request m) moment ∷ behind) split in
    let end_sound : IsSound (tick config w.state later) = keeps_sound config w.state later (after_run config IsSound (keeps_sound config) (step_sound config) r sound) in
    taken config m u w.state later accepted.named
    (still_accepted config m u k.0 k.1 (HasBytes k.0 m.content) (tick config s moment) w.state later accepted.passed
    (λ x at stored. let good = (end_sound.uploads u x at).segments k.0 m.content stored in repeat_passes x k.0 m.content stored good.0 good.1) there
    (subst (λ (q : State). HoldsStill u (HasBytes k.0 m.content) (tick config q later).uploads) (sym end)
    (still_after u (HasBytes k.0 m.content) (bytes_kept k.0 m.content) config t behind later t_sound (has.upload, has.there, has.received))))

-- ---- where it could be accepted once

good_kept : (k : ℕ) (bytes : List ℕ) → IsKept (λ (x : Upload). IsGood x k bytes)
good_kept k bytes s j content x good = good

-- where it is accepted, it is good at its upload
good_there : (config : Config) (m : Message) (u k : ℕ) → content_kind (operation_of m (posted_to u)) ≡ Some (of.Segment k)
    → (s : State) (moment : ℕ) → IsSound s → refusal config (tick config s moment) (operation_of m (posted_to u)) ≡ None
    → (x : Upload) × (map.get s.uploads u ≡ Some x) × IsGood x k m.content
good_there config m u k kind s moment sound passed =
    let op : Operation = operation_of m (posted_to u) in
    let t = tick config s moment in
    let x = present config op u k refl kind t passed in
    let passes = let_through config op u k refl kind t x.0 passed x.1 in
    (x.0, was_there config s moment u x.0 x.1, let_through_is_good x.0 k m.content passes ((keeps_sound config s moment sound).uploads u x.0 x.1).segments)

pub after_all : (config : Config) (first : State) (records : List Record) (w : World) (r : Run config first records w) (through : State) (m : Message) (moment u k : ℕ)
    → IsSound first → RunsThrough r through → IsLetThrough config (tick config through moment) m (posted_to u)
    → content_kind (operation_of m (posted_to u)) ≡ Some (of.Segment k)
    → ((bytes : List ℕ) → HasSegment w.state u k bytes → bytes ≡ m.content) → IsAcceptedStill config w.state m u
after_all config first records w r through m moment u k sound t accepted kind alone later there =
    let good : Upload → Type 0 = λ x. IsGood x k m.content in
    let kept = good_kept k m.content in
    let was = good_there config m u k kind through moment (sound_through u good kept r through sound t) accepted.passed in
    taken config m u w.state later accepted.named
    (still_accepted config m u k kind good (tick config through moment) w.state later accepted.passed
    (λ x at is_good. good_passes x k m.content is_good (λ bytes received. alone bytes (record { upload = x; there = was_there config w.state later u x at; received = received }))) there
    (still_later u good kept r through sound t later was))
