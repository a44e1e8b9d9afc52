-- What a turn of a connection comes to.
use Rattle.std.proofs.Common.{◌≡◌, ◌≢◌, ◌⊎◌, IsTrue, inl, inr, ◌<◌, ◌≤◌, ◌+◌, ◌-◌, ◌^◌, ◌||◌, min, nat_lt, ℕ, Bool, List, [], ◌∷◌, ◌++◌, Option, None, Some, length, take, false, true, refl, sym, subst, ap, ◌∙◌, arith}
use Rattle.std.proofs.lemmas.List.{length-take, length-append, append-nil}
use Rattle.std.proofs.lemmas.Bool.{lt-ltb}
use Rattle.std.proofs.Math.Bool.{or-true}
use Rattle.std.proofs.KnownBytes.{Keeps-refl, Appends-kept, Keeps-trans, append_known-kept}
use Rattle.std.specs.Io.KnownBytes.{Appends, Keeps, Consumes, IsAtEnd, append_known}
use Rattle.dep_types.specs.Conditions.{Condition, HasCleanDisk}
use Rattle.dep_hub.specs.Holding.{AnswersOver, ComesToNext, OffersTo, ArrivalOutcome}
use Rattle.dep_exchange.specs.Owing.{with_more}
use Rattle.dep_hub.specs.Claims.{is_content}
use Rattle.dep_hub.specs.Representing.{KeepsStore}
use Rattle.dep_hub.specs.RepresentsOwing.{KeepsBack, NextIsFree, NextIsPrepared, RepliesOver, SendsOn, behind_at}
use Rattle.dep_hub.specs.declared.rest.Behind.TheVariants.{Broken}
use Rattle.dep_hub.specs.declared.sent_on.SentOn.{SentOn}
use Rattle.dep_hub.specs.Numbers.{most_read}
use Rattle.dep_hub.specs.declared.hub.Hub.{Hub}
use Rattle.dep_exchange.specs.declared.arrived.Arrived.{Arrived}
use Rattle.dep_exchange.specs.declared.arrived.Arrived.TheVariants as came
use Rattle.dep_exchange.specs.declared.next.Next.{Next}
use Rattle.dep_exchange.specs.declared.next.Next.TheVariants.{NoSuch}
use Rattle.dep_outbox.specs.Sockets.{Receives, after_receive}
use Rattle.dep_outbox.specs.declared.socket.Halts.{Halts}
use Rattle.dep_outbox.specs.declared.socket.Received.{Received}
use Rattle.dep_outbox.specs.declared.socket.Received.TheVariants as gave
use Rattle.dep_outbox.specs.declared.wire.Wire.{Wire}
use Rattle.dep_outbox.specs.Wires.{reported, owed}
use Rattle.dep_slot.specs.declared.slot.Slot.{Slot}
use Rattle.dep_slot.specs.declared.connection_state.ConnectionState.{ConnectionState}
use Rattle.dep_slot.specs.declared.connection_state.Phase.{Phase}
use Rattle.dep_slot.specs.declared.connection_state.Phase.TheVariants.{Open, Answering, Draining, Over}
use Rattle.dep_slot.specs.declared.connection_state.NextAction.{NextAction}
use Rattle.dep_slot.specs.declared.connection_state.NextAction.TheVariants.{Flush, Answer, Send, Read, Finish, Drain}
use Rattle.dep_slot.specs.ConnectionStates.{is_ended, is_sending, SendsStill, StaysOrEnds}
use Rattle.dep_slot.specs.Causes.{Causes, HasCauses}
use Rattle.dep_slot.specs.Slots.{HubStays, PutsOff, SameBehind, SameClient, OwesLess, IsDue, IsUnknown, SlotRests, PieceIsRead, MayRest, ActsOnce, TakesTurn, slot_action, left_unfinished, phase_answered, phase_offered, phase_sent}
use Rattle.dep_slot.proofs.PhaseLemmas.{not_open, not_ended, ended_still, still_same, sends_still, opened_still, finishes_last, sends_content, ended_sent, over_sent, not_yet, over_offered, over_answered}

-- a socket that has ended, or failed, gave nothing
pub ends_read : (old new : Option (List ℕ)) (room : List ℕ) (it : Received) → (it ≡ gave.Ended) ⊎ (it ≡ gave.Failed) → Receives old new room it → Keeps old new
ends_read old new room it (inl e) gives = let both : Receives old new room gave.Ended = subst (λ (r : Received). Receives old new room r) e gives in both.0
ends_read old new room it (inr e) gives = subst (λ (r : Received). Receives old new room r) e gives

-- and was seen to
pub ended_asked : {P : Type 0} (old new : Halts) (it : Received) → (it ≡ gave.Ended) ⊎ (it ≡ gave.Failed) → new ≡ after_receive it old → (new ≡ after_receive gave.Ended old) ⊎ ((new ≡ after_receive gave.Failed old) ⊎ P)
ended_asked old new it (inl e) counts = inl (counts ∙ ap (λ (r : Received). after_receive r old) e)
ended_asked old new it (inr e) counts = inr (inl (counts ∙ ap (λ (r : Received). after_receive r old) e))

empty_of : (l : List ℕ) → length l ≡ 0 → l ≡ []
empty_of [] h = refl
empty_of (x ∷ l) h = absurd (let none : ⊥ = omega (arith, h) in none)

-- nothing is sent where nothing is with what is sent later
sends_none : (t k : Option (List ℕ)) (more : Option (List ℕ)) (now : List ℕ) → Appends t k now → Keeps t (with_more k more) → Keeps t k
sends_none t k None now a q = q
sends_none None k (Some more) now a q = tt
sends_none (Some x) None (Some more) now a q = absurd a
sends_none (Some x) (Some y) (Some more) now a q =
    let long = length-append y more in
    let grown = length-append x now in
    let same : length (y ++ more) ≡ length x = ap (λ (l : List ℕ). length l) q in
    let all : length y ≡ length x + length now = ap (λ (l : List ℕ). length l) a ∙ grown in
    let none : now ≡ [] = empty_of now (omega (arith, long, same, all)) in
    a ∙ (ap (λ (l : List ℕ). x ++ l) none ∙ append-nil x)

-- what was taken, with what is sent later, stays taken
more_kept : (t k l : Option (List ℕ)) (more : Option (List ℕ)) (sent : List ℕ) → Appends t (with_more k more) sent → Keeps k l → Appends t (with_more l more) sent
more_kept t k l None sent a q = Appends-kept t k l sent a q
more_kept t k l (Some more) sent a q = Appends-kept t (append_known k more) (append_known l more) sent a (append_known-kept k l more q)

-- what has its causes has them where more may be lost
pub lost_too : {R K S : Type 0} (causes : Causes R K S) (lost more : Type 0) (before after : Slot R K S) → (lost → more) → HasCauses causes lost before after → HasCauses causes more before after
lost_too causes lost more before after f h = record {
  readable = h.readable;
  writable = h.writable;
  over = λ o. elim (h.over o) [
    | inl was ↦ inl was
    | inr (inl broken) ↦ inr (inl broken)
    | inr (inr l) ↦ inr (inr (f l))
  ];
}

-- none is needed where it goes on as it was, and is over only where it was or is lost
pub goes_as_was : {R K S : Type 0} (causes : Causes R K S) (lost : Type 0) (before after : Slot R K S) → after.state.is_readable ≡ before.state.is_readable → after.state.is_writable ≡ before.state.is_writable
    → (after.state.phase ≡ Over → (before.state.phase ≡ Over) ⊎ lost) → HasCauses causes lost before after
goes_as_was causes lost before after readable writable over = record {
  readable = inl readable;
  writable = inl writable;
  over = λ o. elim (over o) [
    | inl was ↦ inl was
    | inr l ↦ inr (inr l)
  ];
}

module _ {A R K S : Type 0} (condition : A → Condition) (unread : R → Option (List ℕ)) (taken : K → Option (List ℕ)) (held : S → Option (List ℕ)) where
  -- what was taken for an item stays taken
  over_kept : (t k l more : Option (List ℕ)) (f g h : ℕ) (old new : Hub A) (n : ℕ) (offered : List ℕ → List ℕ) (moment : ℕ) (answer : Arrived) (outcome : ArrivalOutcome)
      → AnswersOver condition t (with_more k more) f g old new n offered moment answer outcome → Keeps k l → h ≡ g → AnswersOver condition t (with_more l more) f h old new n offered moment answer outcome
  over_kept t k l more f g h old new n offered moment answer outcome a q same = subst (λ (x : ℕ). AnswersOver condition t (with_more l more) f x old new n offered moment answer outcome) (sym same)
      (record { sent = a.sent; appends = more_kept t k l more a.sent a.appends q; answers = a.answers; shut = a.shut })

  -- by what comes next it may rest
  rests_as : (size : S → ℕ) (hub : Hub A) (before after : Slot R K S) (is_full is_shut may_send : Bool) (d : NextAction) → slot_action size before ≡ d
      → MayRest condition unread taken held size hub before after is_full is_shut may_send d → MayRest condition unread taken held size hub before after is_full is_shut may_send (slot_action size before)
  rests_as size hub before after is_full is_shut may_send d due may = subst (λ (x : NextAction). MayRest condition unread taken held size hub before after is_full is_shut may_send x) (sym due) may

  -- an item was answered, and what was owed for it was sent as far as the socket took it
  answered_acts : (size : S → ℕ) (old new : Hub A) (before after : Slot R K S) (wire : Wire K S) (moment : ℕ) (next : Next) (is_full is_shut may_send : Bool) → after.source ≡ before.source → IsDue held size before Answering Answer
      → RepliesOver condition (reported taken held before.wire) (reported taken held wire) before.wire.failures wire.failures old new before.connection moment next
      → NextIsFree old before.connection → NextIsPrepared old before.connection → behind_at new.connections.items before.connection ≢ Broken
      → Keeps (reported taken held wire) (reported taken held after.wire) → after.wire.failures ≡ wire.failures
      → after.state.phase ≡ phase_answered next (is_content (behind_at new.connections.items before.connection)) → after.state.has_moved ≡ true → after.state.unfinished ≡ left_unfinished next before.state.unfinished
      → ActsOnce condition unread taken held size old new before after moment is_full is_shut may_send
  answered_acts size old new before after wire moment NoSuch is_full is_shut may_send source due r free prepared unbroken k f phase stirs count = inl (
    record {
      same = r.answers.same;
      keeps = Keeps-trans (reported taken held before.wire) (reported taken held wire) (reported taken held after.wire) (sends_none (reported taken held before.wire) (reported taken held wire) r.more r.now r.appends r.answers.sends_nothing) k;
      gives = λ h. absurd (not_ended after.state.phase phase h);
      opens = λ h. absurd (not_open after.state.phase phase h);
      sends_still = inl phase;
      keeps_count = λ h. absurd (not_ended after.state.phase phase h);
    },
    rests_as size old before after is_full is_shut may_send Answer due.due r.answers.absent,
  )
  answered_acts size old new before after wire moment next is_full is_shut may_send source due r free prepared unbroken k f phase stirs count = inr (inr (inr (inl (
    record {
      unowed = due.unowed;
      was_read = due.phase;
      same_source = source;
      next = next;
      known = λ e. let bad : next ≡ NoSuch = e in cc;
      more = r.more;
      now = r.now;
      appends = Appends-kept (reported taken held before.wire) (reported taken held wire) (reported taken held after.wire) r.now r.appends k;
      answers = over_kept _ _ _ r.more _ _ _ _ _ _ _ _ _ _ r.answers k f;
      owes = r.owes;
      paid = r.paid;
      free = free;
      prepared = prepared;
      others = r.others;
      unbroken = unbroken;
      unawaited = r.unawaited;
      goes = phase;
      stirs = stirs;
      leaves = count;
    },
    due.due,
  ))))

  pub answered : (size : S → ℕ) (causes : Causes R K S) (old new : Hub A) (before after : Slot R K S) (wire : Wire K S) (moment : ℕ) (next : Next) (sends : Bool) → SameClient before after → after.source ≡ before.source → HubStays condition old new → IsDue held size before Answering Answer
      → RepliesOver condition (reported taken held before.wire) (reported taken held wire) before.wire.failures wire.failures old new before.connection moment next
      → NextIsFree old before.connection → NextIsPrepared old before.connection → behind_at new.connections.items before.connection ≢ Broken → sends ≡ is_content (behind_at new.connections.items before.connection)
      → Keeps (reported taken held wire) (reported taken held after.wire) → after.wire.failures ≡ wire.failures
      → after.state ≡ record before.state { phase = phase_answered next sends; has_moved = true; unfinished = left_unfinished next before.state.unfinished }
      → (is_full is_shut may_send : Bool) → TakesTurn condition unread taken held size causes old new before after moment is_full is_shut may_send
  answered size causes old new before after wire moment next sends client source hub due r free prepared unbroken asked k f state is_full is_shut may_send =
      let phase : after.state.phase ≡ phase_answered next (is_content (behind_at new.connections.items before.connection)) =
      ap (λ (d : ConnectionState). d.phase) state ∙ ap (λ (b : Bool). phase_answered next b) asked in
      record {
        client = client;
        hub = hub;
        ended = not_yet before.state.phase after.state.phase Answering due.phase refl;
        acts = answered_acts size old new before after wire moment next is_full is_shut may_send source due r free prepared unbroken k f phase
            (ap (λ (d : ConnectionState). d.has_moved) state) (ap (λ (d : ConnectionState). d.unfinished) state);
        -- it goes on, unless the hub doesn't know it
        caused = goes_as_was causes (IsUnknown old before.connection) before after (ap (λ (d : ConnectionState). d.is_readable) state) (ap (λ (d : ConnectionState). d.is_writable) state) (λ h.
            let none = subst (λ (n : Next). ComesToNext condition (reported taken held before.wire) (with_more (reported taken held wire) r.more) before.wire.failures wire.failures old new before.connection moment n)
            (over_answered next (is_content (behind_at new.connections.items before.connection)) after.state.phase phase h) r.answers in
            inr none.absent);
      }

  -- what was sent of a content stays sent
  sends_kept : (t k l : Option (List ℕ)) (f g h : ℕ) (old new : Hub A) (n : ℕ) (answer : SentOn) → SendsOn condition t k f g old new n answer → Keeps k l → h ≡ g → SendsOn condition t l f h old new n answer
  sends_kept t k l f g h old new n answer s q same = record {
    sent = s.sent;
    appends = Appends-kept t k l s.sent s.appends q;
    few = (s.few.0, s.few.1, Appends-kept t k l s.few.0 s.few.2 q);
    sends = s.sends;
    represents = s.represents;
    shut = s.shut;
    kept = λ whole. same ∙ s.kept whole;
    left = s.left;
    of_same = s.of_same;
    others = s.others;
  }

  -- nothing came to the hub
  pub rested : (size : S → ℕ) (causes : Causes R K S) (hub : Hub A) (before after : Slot R K S) (moment : ℕ) (is_full is_shut may_send : Bool) (d : NextAction) → SameClient before after → (is_ended before.state.phase ≡ true → is_ended after.state.phase ≡ true)
      → slot_action size before ≡ d → MayRest condition unread taken held size hub before after is_full is_shut may_send d → SlotRests condition unread taken held hub hub before after
      → HasCauses causes (IsUnknown hub before.connection) before after → TakesTurn condition unread taken held size causes hub hub before after moment is_full is_shut may_send
  rested size causes hub before after moment is_full is_shut may_send d client ended due may rests caused = record {
    client = client;
    hub = record { next = refl; same_config = refl; clean = λ h. h; honest = λ h. h };
    ended = ended;
    acts = inl (rests, rests_as size hub before after is_full is_shut may_send d due may);
    caused = caused;
  }

  -- it changed in nothing
  pub rested_so : (size : S → ℕ) (causes : Causes R K S) (hub : Hub A) (before : Slot R K S) (moment : ℕ) (is_full is_shut may_send : Bool) (d : NextAction) → slot_action size before ≡ d → MayRest condition unread taken held size hub before before is_full is_shut may_send d
      → TakesTurn condition unread taken held size causes hub hub before before moment is_full is_shut may_send
  rested_so size causes hub before moment is_full is_shut may_send d due may =
      rested size causes hub before before moment is_full is_shut may_send d (record { connection = refl; address = refl }) (λ h. h) due may (record {
        same = refl;
        keeps = Keeps-refl (reported taken held before.wire);
        gives = λ h. Keeps-refl (unread before.source);
        opens = λ h. h;
        sends_still = still_same before.state.phase;
        keeps_count = λ h. refl;
      }) (goes_as_was causes (IsUnknown hub before.connection) before before refl refl (λ h. inl h))

  -- what is owed was sent, as far as the socket takes it
  pub flushed : (size : S → ℕ) (causes : Causes R K S) (hub : Hub A) (before after : Slot R K S) (moment : ℕ) (is_full is_shut may_send : Bool) (w : Wire K S) (c : ConnectionState) → after ≡ record before { wire = w; state = c }
      → Keeps (reported taken held before.wire) (reported taken held after.wire) → StaysOrEnds before.state after.state → slot_action size before ≡ Flush → OwesLess size before after
      → HasCauses causes ⊥ before after → TakesTurn condition unread taken held size causes hub hub before after moment is_full is_shut may_send
  flushed size causes hub before after moment is_full is_shut may_send w c same keeps stays due sends caused =
      rested size causes hub before after moment is_full is_shut may_send Flush (record { connection = ap (λ (s : Slot R K S). s.connection) same; address = ap (λ (s : Slot R K S). s.address) same })
      (ended_still before.state.phase after.state.phase stays.phase) due (sends, stays.phase) (record {
        same = refl;
        keeps = keeps;
        gives = λ h. subst (λ (r : R). Keeps (unread before.source) (unread r)) (sym (ap (λ (s : Slot R K S). s.source) same)) (Keeps-refl (unread before.source));
        opens = opened_still before.state.phase after.state.phase stays.phase;
        sends_still = sends_still before.state.phase after.state.phase stays.phase;
        keeps_count = λ h. stays.unfinished;
      }) (lost_too causes ⊥ (IsUnknown hub before.connection) before after (λ h. absurd h) caused)

  -- its content was put off
  pub put_off : (size : S → ℕ) (causes : Causes R K S) (hub : Hub A) (before after : Slot R K S) (moment : ℕ) (is_full is_shut may_send : Bool) → may_send ≡ false → slot_action size before ≡ Send
      → PutsOff taken held size causes before after → TakesTurn condition unread taken held size causes hub hub before after moment is_full is_shut may_send
  put_off size causes hub before after moment is_full is_shut may_send none due p =
      rested size causes hub before after moment is_full is_shut may_send Send (record { connection = ap (λ (s : Slot R K S). s.connection) p.same; address = ap (λ (s : Slot R K S). s.address) p.same })
      (ended_still before.state.phase after.state.phase p.phase) due (none, p.put_off, p.phase) (record {
        same = refl;
        keeps = p.keeps;
        gives = λ h. subst (λ (r : R). Keeps (unread before.source) (unread r)) (sym (ap (λ (s : Slot R K S). s.source) p.same)) (Keeps-refl (unread before.source));
        opens = opened_still before.state.phase after.state.phase p.phase;
        sends_still = sends_still before.state.phase after.state.phase p.phase;
        keeps_count = λ h. p.unfinished;
      }) (lost_too causes ⊥ (IsUnknown hub before.connection) before after (λ h. absurd h) p.caused)

  -- its client was told that nothing more is sent
  pub finished : (size : S → ℕ) (causes : Causes R K S) (hub : Hub A) (before after : Slot R K S) (moment : ℕ) (is_full is_shut may_send : Bool) (w : Wire K S) (c : ConnectionState) → after ≡ record before { wire = w; state = c }
      → reported taken held after.wire ≡ reported taken held before.wire → after.state.phase ≡ Draining → after.state.is_readable ≡ before.state.is_readable → after.state.is_writable ≡ before.state.is_writable
      → slot_action size before ≡ Finish
      → TakesTurn condition unread taken held size causes hub hub before after moment is_full is_shut may_send
  finished size causes hub before after moment is_full is_shut may_send w c same keeps phase readable writable due =
      rested size causes hub before after moment is_full is_shut may_send Finish (record { connection = ap (λ (s : Slot R K S). s.connection) same; address = ap (λ (s : Slot R K S). s.address) same })
      (λ h. ap is_ended phase) due phase (record {
        same = refl;
        keeps = subst (λ (o : Option (List ℕ)). Keeps (reported taken held before.wire) o) (sym keeps) (Keeps-refl (reported taken held before.wire));
        gives = λ h. absurd (let bad : true ≡ false = sym (ap is_ended phase) ∙ h in cc);
        opens = λ h. absurd (let bad : Draining ≡ Open = sym phase ∙ h in cc);
        sends_still = subst (λ (p : Phase). SendsStill before.state.phase p) (sym phase) (finishes_last _ _ _ _ _ due);
        keeps_count = λ h. absurd (let bad : true ≡ false = sym (ap is_ended phase) ∙ h in cc);
      }) (goes_as_was causes (IsUnknown hub before.connection) before after readable writable (λ h. absurd (let bad : Draining ≡ Over = sym phase ∙ h in cc)))

  -- a piece was thrown away
  pub drained : (size : S → ℕ) (causes : Causes R K S) (hub : Hub A) (before after : Slot R K S) (moment : ℕ) (is_full is_shut may_send : Bool) (r : R) (c : ConnectionState) → after ≡ record before { source = r; state = c }
      → StaysOrEnds before.state after.state → slot_action size before ≡ Drain → is_ended before.state.phase ≡ true → HasCauses causes ⊥ before after
      → TakesTurn condition unread taken held size causes hub hub before after moment is_full is_shut may_send
  drained size causes hub before after moment is_full is_shut may_send r c same stays due ends caused =
      let ended = ended_still before.state.phase after.state.phase stays.phase ends in
      rested size causes hub before after moment is_full is_shut may_send Drain (record { connection = ap (λ (s : Slot R K S). s.connection) same; address = ap (λ (s : Slot R K S). s.address) same })
      (λ h. ended) due stays.phase (record {
        same = refl;
        keeps = subst (λ (w : Wire K S). Keeps (reported taken held before.wire) (reported taken held w)) (sym (ap (λ (s : Slot R K S). s.wire) same)) (Keeps-refl (reported taken held before.wire));
        gives = λ h. absurd (let bad : true ≡ false = sym ended ∙ h in cc);
        opens = opened_still before.state.phase after.state.phase stays.phase;
        sends_still = sends_still before.state.phase after.state.phase stays.phase;
        keeps_count = λ h. stays.unfinished;
      }) (lost_too causes ⊥ (IsUnknown hub before.connection) before after (λ h. absurd h) caused)

  gave_none : (size : S → ℕ) (hub : Hub A) (before after : Slot R K S) (is_full is_shut may_send : Bool) → Keeps (unread before.source) (unread after.source) → ((after.state.is_readable ≡ false) × (after.state.phase ≡ before.state.phase)) ⊎ (after.state.phase ≡ Over)
      → MayRest condition unread taken held size hub before after is_full is_shut may_send Read
  gave_none size hub before after is_full is_shut may_send keeps (inl later) = inr (inl later)
  gave_none size hub before after is_full is_shut may_send keeps (inr over) = inr (inr (over, inl keeps))

  -- its socket gave no piece
  pub none_read : (size : S → ℕ) (causes : Causes R K S) (hub : Hub A) (before after : Slot R K S) (is_full is_shut may_send : Bool) (moment : ℕ) (r : R) (c : ConnectionState) → after ≡ record before { source = r; state = c }
      → Keeps (unread before.source) (unread after.source) → slot_action size before ≡ Read → before.state.phase ≡ Open
      → ((after.state.is_readable ≡ false) × (after.state.phase ≡ before.state.phase)) ⊎ (after.state.phase ≡ Over) → after.state.unfinished ≡ before.state.unfinished
      → HasCauses causes ⊥ before after
      → TakesTurn condition unread taken held size causes hub hub before after moment is_full is_shut may_send
  none_read size causes hub before after is_full is_shut may_send moment r c same gives due was how count caused =
      rested size causes hub before after moment is_full is_shut may_send Read (record { connection = ap (λ (s : Slot R K S). s.connection) same; address = ap (λ (s : Slot R K S). s.address) same })
      (not_yet before.state.phase after.state.phase Open was refl) due (gave_none size hub before after is_full is_shut may_send gives how) (record {
        same = refl;
        keeps = subst (λ (w : Wire K S). Keeps (reported taken held before.wire) (reported taken held w)) (sym (ap (λ (s : Slot R K S). s.wire) same)) (Keeps-refl (reported taken held before.wire));
        gives = λ h. gives;
        opens = λ h. was;
        sends_still = sends_still before.state.phase after.state.phase (elim how [
          | inl later ↦ inl later.1
          | inr over ↦ inr over
        ]);
        keeps_count = λ h. count;
      }) (lost_too causes ⊥ (IsUnknown hub before.connection) before after (λ h. absurd h) caused)

  -- a piece that was read was offered
  offered : (size : S → ℕ) (old new : Hub A) (before after : Slot R K S) (piece : List ℕ) (answer : Arrived) (is_full is_shut may_send : Bool) → slot_action size before ≡ Read → PieceIsRead condition unread taken held before after piece is_full is_shut → new.store ≡ old.store → SameBehind old new
      → OffersTo condition (reported taken held before.wire) (reported taken held after.wire) before.wire.failures after.wire.failures old new before.connection piece answer
      → after.state.phase ≡ phase_offered answer → (moment : ℕ) → ActsOnce condition unread taken held size old new before after moment is_full is_shut may_send
  offered size old new before after piece came.Open is_full is_shut may_send due read store behind o p moment = inr (inl (
    record {
      piece = piece;
      read = read;
      answers_next = p;
      keeps = o.sends_nothing;
      same_store = store;
      behind = behind;
      holds = o.holds;
    },
    due,
  ))
  offered size old new before after piece came.Closed is_full is_shut may_send due read store behind o p moment =
      inr (inr (inl (record { piece = piece; read = read; ends = ap is_ended p; unsent = ap is_sending p; behind = behind; answer = came.Closed; answers = o moment }, due)))
  offered size old new before after piece came.Cut is_full is_shut may_send due read store behind o p moment =
      inr (inr (inl (record { piece = piece; read = read; ends = ap is_ended p; unsent = ap is_sending p; behind = behind; answer = came.Cut; answers = o moment }, due)))
  offered size old new before after piece came.NoSuch is_full is_shut may_send due read store behind o p moment = inl (
    record {
      same = o.same;
      keeps = o.sends_nothing;
      gives = λ h. absurd (not_ended after.state.phase p h);
      opens = λ h. absurd (not_open after.state.phase p h);
      sends_still = inl p;
      keeps_count = λ h. absurd (not_ended after.state.phase p h);
    },
    rests_as size old before after is_full is_shut may_send Read due (inr (inr (p, inr o.absent))),
  )

  unknown_offered : (old new : Hub A) (before after : Slot R K S) (piece : List ℕ) (answer : Arrived)
      → OffersTo condition (reported taken held before.wire) (reported taken held after.wire) before.wire.failures after.wire.failures old new before.connection piece answer
      → answer ≡ came.NoSuch → IsUnknown old before.connection
  unknown_offered old new before after piece answer o e =
      let none = subst (λ (a : Arrived). OffersTo condition (reported taken held before.wire) (reported taken held after.wire) before.wire.failures after.wire.failures old new before.connection piece a) e o in none.absent

  -- a front of the room was received, and offered
  pub received : (size : S → ℕ) (causes : Causes R K S) (old new : Hub A) (before after : Slot R K S) (got : R) (room : List ℕ) (n : ℕ) (answer : Arrived) (is_full is_shut may_send : Bool) → SameClient before after → after.source ≡ got → KeepsStore condition old new → IsDue held size before Open Read
      → 0 < n → n ≤ length room → length room ≤ most_read → Consumes (unread before.source) (unread got) (take n room) → SameBehind old new
      → OffersTo condition (reported taken held before.wire) (reported taken held after.wire) before.wire.failures after.wire.failures old new before.connection (take n room) answer
      → after.state ≡ record before.state {
        phase = phase_offered answer;
        has_moved = before.state.has_moved || nat_lt 0 n;
        moved = min (before.state.moved + n) (2 ^ 64 - 1);
        unfinished = min (before.state.unfinished + n) (2 ^ 64 - 1);
      }
      → (is_full ≡ true → before.state.unfinished ≡ 0) → is_shut ≡ false
      → (moment : ℕ) → TakesTurn condition unread taken held size causes old new before after moment is_full is_shut may_send
  received size causes old new before after got room n answer is_full is_shut may_send client same kept due some within small gives behind o state allowed is_open moment =
      let e = length-take n room in
      let moved = ap (λ (d : ConnectionState). d.moved) state in
      let counts = ap (λ (d : ConnectionState). d.unfinished) state in
      let phase = ap (λ (d : ConnectionState). d.phase) state in
      record {
        client = client;
        hub = record {
          next = kept.next;
          same_config = kept.config;
          clean = λ h. subst (λ (s : A). IsTrue (condition s).is_open) kept.store h;
          honest = λ h. subst (λ (s : A). HasCleanDisk (condition s)) kept.store h;
        };
        ended = not_yet before.state.phase after.state.phase Open due.phase refl;
        acts = offered size old new before after (take n room) answer is_full is_shut may_send due.due (record {
          unowed = due.unowed;
          waits = due.phase;
          some = omega (arith, e, some, within);
          small = omega (arith, e, within, small);
          gives = subst (λ (s : R). Consumes (unread before.source) (unread s) (take n room)) (sym same) gives;
          allowed = allowed;
          is_open = is_open;
          stirs = ap (λ (d : ConnectionState). d.has_moved) state ∙ (ap (λ (b : Bool). before.state.has_moved || b) (lt-ltb 0 n some) ∙ or-true before.state.has_moved);
          moves = omega (arith, moved, e, within);
          counts = omega (arith, counts, e, within);
        }) kept.store behind o phase moment;
        caused = goes_as_was causes (IsUnknown old before.connection) before after (ap (λ (d : ConnectionState). d.is_readable) state) (ap (λ (d : ConnectionState). d.is_writable) state)
            (λ h. inr (unknown_offered old new before after (take n room) answer o (over_offered answer after.state.phase phase h)));
      }

  -- its next item was kept back
  pub delayed : (size : S → ℕ) (causes : Causes R K S) (old new : Hub A) (before after : Slot R K S) (moment : ℕ) → SameClient before after → after.source ≡ before.source → HubStays condition old new → IsDue held size before Answering Answer
      → KeepsBack condition (reported taken held before.wire) (reported taken held after.wire) before.wire.failures after.wire.failures old new before.connection
      → after.state ≡ record before.state { has_moved = true; is_kept_back = true }
      → (is_full is_shut may_send : Bool) → TakesTurn condition unread taken held size causes old new before after moment is_full is_shut may_send
  delayed size causes old new before after moment client source hub due keeps state is_full is_shut may_send =
      let phase : after.state.phase ≡ Answering = ap (λ (d : ConnectionState). d.phase) state ∙ due.phase in
      record {
        client = client;
        hub = hub;
        ended = not_yet before.state.phase after.state.phase Answering due.phase refl;
        acts = inr (inr (inr (inr (inl (
          record {
            unowed = due.unowed;
            was_read = due.phase;
            same_source = source;
            keeps = keeps;
            stays = phase;
            stirs = ap (λ (d : ConnectionState). d.has_moved) state;
            counts_not = ap (λ (d : ConnectionState). d.is_kept_back) state;
            leaves = ap (λ (d : ConnectionState). d.unfinished) state;
          },
          due.due,
        )))));
        caused = goes_as_was causes (IsUnknown old before.connection) before after (ap (λ (d : ConnectionState). d.is_readable) state) (ap (λ (d : ConnectionState). d.is_writable) state)
            (λ h. absurd (let bad : Answering ≡ Over = sym phase ∙ h in cc));
      }

  -- some of a content were sent
  pub sent_on : (size : S → ℕ) (causes : Causes R K S) (old new : Hub A) (before after : Slot R K S) (k : Option (List ℕ)) (g : ℕ) (answer : SentOn) → SameClient before after → HubStays condition old new
      → slot_action size before ≡ Send → (before.state.is_awaited ≡ false → IsAtEnd (owed held before.wire)) → after.source ≡ before.source
      → SendsOn condition (reported taken held before.wire) k before.wire.failures g old new before.connection answer
      → Keeps k (reported taken held after.wire) → after.wire.failures ≡ g
      → after.state ≡ record before.state { phase = phase_sent before.state.phase answer }
      → (moment : ℕ) (is_full is_shut : Bool) → TakesTurn condition unread taken held size causes old new before after moment is_full is_shut true
  sent_on size causes old new before after k g answer client hub due none source sends keeps f same moment is_full is_shut =
      let phase : after.state.phase ≡ phase_sent before.state.phase answer = ap (λ (d : ConnectionState). d.phase) same in
      record {
        client = client;
        hub = hub;
        ended = λ e. ap is_ended phase ∙ ended_sent before.state.phase answer e;
        acts = inr (inr (inr (inr (inr (
          record {
            unowed = none;
            was_sending = sends_content _ _ _ _ _ due;
            same_source = source;
            answer = answer;
            sends = sends_kept _ _ _ _ _ _ old new before.connection answer sends keeps f;
            goes = phase;
            leaves = ap (λ (d : ConnectionState). d.unfinished) same;
          },
          due,
          refl,
        )))));
        caused = goes_as_was causes (IsUnknown old before.connection) before after (ap (λ (d : ConnectionState). d.is_readable) same) (ap (λ (d : ConnectionState). d.is_writable) same)
            (λ h. inl (over_sent before.state.phase answer (sym phase ∙ h)));
      }
