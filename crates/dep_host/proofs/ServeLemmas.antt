-- What a turn of a host serves.
use Rattle.std.proofs.Common.{◌≡◌, ◌⊎◌, ◌<◌, ◌≤◌, ◌==◌, ℕ, zero, suc, Bool, true, false, List, [], ◌∷◌, ◌++◌, Option, None, Some, refl, sym, ap, subst, ◌∙◌, length, get_or, set, nat_lt, is_some, ◌&&◌, ◌||◌, inl, inr, arith}
use Rattle.std.proofs.lemmas.List.{get_or-set_same}
use Rattle.std.proofs.Math.ListN.{length-set}
use Rattle.std.specs.Prelude.{IfSome}
use Rattle.dep_types.specs.Conditions.{Condition}
use Rattle.dep_types.specs.Writing.{HasRisen}
use Rattle.dep_hub.specs.RepresentsOwing.{KeepsBack, is_awaited_at}
use Rattle.dep_hub.specs.declared.sent_on.SentOn.{SentOn}
use Rattle.dep_outbox.specs.Sockets.{after_receive, after_send}
use Rattle.dep_outbox.specs.declared.socket.Received.TheVariants as gives
use Rattle.dep_outbox.specs.declared.socket.Delivered.TheVariants as takes
use Rattle.dep_outbox.specs.declared.wire.Wire.{Wire}
use Rattle.dep_outbox.specs.Wires.{reported, owed_count}
use Rattle.dep_host.specs.declared.ending.Shut.{Shut}
use Rattle.dep_slot.specs.declared.connection_state.Phase.{Phase}
use Rattle.dep_slot.specs.ConnectionStates.{SendsStill, StaysOrIsOver, next_action, is_ended, is_held_back, is_sending, phase_begun}
use Rattle.dep_slot.specs.Causes.{Causes, HasCauses}
use Rattle.dep_slot.specs.declared.slot.Slot.{Slot}
use Rattle.dep_slot.specs.declared.slot.Time.{Time}
use Rattle.dep_slot.specs.declared.log.Closing.{Closing}
use Rattle.dep_slot.specs.declared.connection_state.Phase.TheVariants.{Open, Over}
use Rattle.dep_slot.specs.declared.connection_state.NextAction.{NextAction}
use Rattle.dep_slot.specs.declared.connection_state.NextAction.TheVariants as to
use Rattle.dep_slot.specs.Slots.{IsPutOff, IsUnknown, MayRest, ActsOnce, TakesTurn, slot_action, phase_sent}
use Rattle.dep_host.specs.Actions.{Position, slot_at, closings_of, HostAction, answers_at, pieces_at, sendings_at, sendings_in, unfinished_of, AreDoneAt, Takes, Replies, Sends, Declines, Closes}
use Rattle.dep_host.specs.Hosting.{MayGo, farewell, GivesTurn, Goes, rests, offers, delays, sends, refuses, answers, leaves, Steps, begins, goes_on, IsOnce, IsLost, IsServed, IsServedAt, turn_action, ServesSlot}
use Rattle.dep_slot.specs.Notes.{Note, LetGo, GrowsWhereShown}
use Rattle.dep_host.proofs.HostLemmas.{grows_same, slot_read, steps_join, unchanged, woken}
use Rattle.dep_host.proofs.ActionLemmas.{answers_append, pieces_append, sendings_in_append, counted_by, sendings_after, in_time_append, noted_on, one_at_most, one_here, one_sent, none_sent, none_elsewhere}
use Rattle.dep_slot.proofs.PhaseLemmas.{asks_sending, begun_once, over_begun, sends_begun, still_begun}
use Rattle.dep_host.proofs.StretchLemmas.{none_read, lost_before, kept_back_on, once_before, closed_there, at_after}

-- what was set twice is as it was set last
set_again : {X : Type 0} (l : List X) (at : ℕ) (x y : X) → set (set l at x) at y ≡ set l at y
set_again [] at x y = refl
set_again (z ∷ l) zero x y = refl
set_again {X = X} (z ∷ l) (suc at) x y = ap (λ (k : List X). z ∷ k) (set_again l at x y)

module _ {A R K S : Type 0} (condition : A → Condition) (unread : R → Option (List ℕ)) (taken : K → Option (List ℕ)) (held : S → Option (List ℕ)) (size : S → ℕ) (causes : Causes R K S) where
  -- nothing was done at a place
  pub served_none : (p q : Position A R K S) (at : ℕ) (time : Time) (is_full may_send : Bool) (reported reports : Option (List Note)) (x : Option (Slot R K S)) → reports ≡ reported → q.hub ≡ p.hub → q.limits ≡ p.limits → q.shut ≡ p.shut → q.slots ≡ set p.slots at x → at < length p.slots → x ≡ get_or p.slots at x → x ≡ None
      → ServesSlot condition unread taken held size causes p q at time is_full may_send false reported reports
  served_none p q at time is_full may_send reported reports x same hub limits shut slots there read none = record {
    actions = [];
    steps = goes_on begins (unchanged condition unread taken held p q at x hub limits shut slots there read);
    once = omega arith;
    others = λ place ne. refl;
    waits = λ full some. refl;
    unread_others = λ place ne. refl;
    sends_once = omega arith;
    unsent_others = λ place ne. refl;
    counted = refl;
    allowed = λ h. let bad : false ≡ true = h in cc;
    served = subst (λ (o : Option (Slot R K S)). IsServedAt condition unread taken held size causes p q is_full may_send [] at o) (sym (slot_read at p.slots x there read ∙ none)) tt;
    in_time = tt;
    noted = grows_same reported reports same;
  }

  -- what a turn did, and that it was what came next
  record Turned (p q : Position A R K S) (at : ℕ) (time : Time) (is_full may_send : Bool) (before after : Slot R K S) : Type 0 where
    actions : List HostAction
    steps : Steps condition unread taken held p actions q
    once : answers_at at actions ≤ 1
    others : (place : ℕ) → (place ≡ at → ⊥) → answers_at place actions ≡ 0
    waits : is_full ≡ true → 0 < unfinished_of (slot_at at p.slots) → pieces_at at actions ≡ 0
    unread_others : (place : ℕ) → (place ≡ at → ⊥) → pieces_at place actions ≡ 0
    sends_once : length (sendings_at at actions) ≤ 1
    unsent_others : (place : ℕ) → (place ≡ at → ⊥) → sendings_at place actions ≡ []
    sends_on : slot_action size before ≡ to.Send → may_send ≡ true → sendings_in actions ≡ 1
    sends_none : (slot_action size before ≡ to.Send → may_send ≡ true → ⊥) → sendings_in actions ≡ 0
    does : IsServed condition unread taken held size causes p q actions is_full may_send before after (answers_at at actions) (pieces_at at actions) (sendings_at at actions) (slot_action size before)
    in_time : AreDoneAt time actions
    quiet : closings_of actions ≡ []

  rest_served : (p q : Position A R K S) (is_full may_send : Bool) (before after : Slot R K S) (d : NextAction) → before.state.phase ≡ phase_begun before.state.phase (is_some p.shut)
      → Steps condition unread taken held p [] q → MayRest condition unread taken held size p.hub before after is_full (is_some p.shut) may_send d → IsServed condition unread taken held size causes p q [] is_full may_send before after 0 0 [] d
  rest_served p q is_full may_send before after to.Flush e s may = (may.0, subst (λ (h : Phase). StaysOrIsOver h after.state.phase) e may.1)
  rest_served p q is_full may_send before after to.Answer e s may = inr (inl (record { earlier = []; later = []; all = refl; mid = p; next = p; came = begins; is = may; goes = s }))
  rest_served p q is_full may_send before after to.Send e s (none, off, phase) = inr (none, refl, off, subst (λ (h : Phase). StaysOrIsOver h after.state.phase) e phase)
  rest_served p q is_full may_send before after to.Read e s (inl back) = inr (inl (back.0, back.1 ∙ e))
  rest_served p q is_full may_send before after to.Read e s (inr (inl later)) = inr (inr (inl (later.0, later.1 ∙ e)))
  rest_served p q is_full may_send before after to.Read e s (inr (inr (over, kept))) = inr (inr (inr over))
  rest_served p q is_full may_send before after to.Finish e s may = may
  rest_served p q is_full may_send before after to.Drain e s may = subst (λ (h : Phase). StaysOrIsOver h after.state.phase) e may
  rest_served p q is_full may_send before after to.Wait e s may = may ∙ e

  read_served : (p q : Position A R K S) (actions : List HostAction) (is_full may_send : Bool) (before after : Slot R K S) (answered read : ℕ) (sent : List SentOn) → slot_action size before ≡ to.Read → read ≡ 1
      → IsServed condition unread taken held size causes p q actions is_full may_send before after answered read sent (slot_action size before)
  read_served p q actions is_full may_send before after answered read sent due one = subst (λ (d : NextAction). IsServed condition unread taken held size causes p q actions is_full may_send before after answered read sent d) (sym due) (inl one)

  answer_served : (p q : Position A R K S) (actions : List HostAction) (is_full may_send : Bool) (before after : Slot R K S) (answered read : ℕ) (sent : List SentOn) → slot_action size before ≡ to.Answer → answered ≡ 1
      → IsServed condition unread taken held size causes p q actions is_full may_send before after answered read sent (slot_action size before)
  answer_served p q actions is_full may_send before after answered read sent due one = subst (λ (d : NextAction). IsServed condition unread taken held size causes p q actions is_full may_send before after answered read sent d) (sym due) (inl one)

  -- where it rested it wasn't its turn
  rested_unsent : (p : Position A R K S) (before after : Slot R K S) (is_full may_send : Bool) → slot_action size before ≡ to.Send
      → MayRest condition unread taken held size p.hub before after is_full (is_some p.shut) may_send (slot_action size before) → may_send ≡ false
  rested_unsent p before after is_full may_send due may =
      let r = subst (λ (d : NextAction). MayRest condition unread taken held size p.hub before after is_full (is_some p.shut) may_send d) due may in r.0

  -- a turn in which no content is sent on
  unsending : (p q : Position A R K S) (at : ℕ) (time : Time) (is_full may_send : Bool) (before after : Slot R K S) (actions : List HostAction) → Steps condition unread taken held p actions q → sendings_in actions ≡ 0 → ((place : ℕ) → sendings_at place actions ≡ [])
      → (slot_action size before ≡ to.Send → may_send ≡ true → ⊥) → answers_at at actions ≤ 1 → ((place : ℕ) → (place ≡ at → ⊥) → answers_at place actions ≡ 0)
      → (is_full ≡ true → 0 < unfinished_of (slot_at at p.slots) → pieces_at at actions ≡ 0) → ((place : ℕ) → (place ≡ at → ⊥) → pieces_at place actions ≡ 0)
      → IsServed condition unread taken held size causes p q actions is_full may_send before after (answers_at at actions) (pieces_at at actions) (sendings_at at actions) (slot_action size before)
      → AreDoneAt time actions → closings_of actions ≡ [] → Turned p q at time is_full may_send before after
  unsending p q at time is_full may_send before after actions steps none unsent other once others waits unread_others does in_time quiet = record {
    actions = actions;
    steps = steps;
    once = once;
    others = others;
    waits = waits;
    unread_others = unread_others;
    sends_once = let e : length (sendings_at at actions) ≡ 0 = ap (λ (l : List SentOn). length l) (unsent at) in omega (arith, e);
    unsent_others = λ place ne. unsent place;
    sends_on = λ due may. absurd (other due may);
    sends_none = λ no. none;
    does = does;
    in_time = in_time;
    quiet = quiet;
  }

  -- a connection had its turn
  took_turn : (p q : Position A R K S) (at : ℕ) (time : Time) (is_full may_send : Bool) (before after : Slot R K S) → GivesTurn condition unread taken held p q at before after
      → before.state.phase ≡ phase_begun before.state.phase (is_some p.shut) → ActsOnce condition unread taken held size p.hub q.hub before after time.moment is_full (is_some p.shut) may_send → Turned p q at time is_full may_send before after
  took_turn p q at time is_full may_send before after t e (inl (r, may)) =
      unsending p q at time is_full may_send before after [] (goes_on begins (rests t r)) refl (λ place. refl) (λ due now. let r = rested_unsent p before after is_full may_send due may in let bad : true ≡ false = sym now ∙ r in cc)
      (omega arith) (λ place ne. refl) (λ full some. refl) (λ place ne. refl) (rest_served p q is_full may_send before after (slot_action size before) e (goes_on begins (rests t r)) may) tt refl
  took_turn p q at time is_full may_send before after t e (inr (inl (o, due))) =
      unsending p q at time is_full may_send before after (Takes at before.connection o.piece ∷ []) (goes_on begins (offers t o)) refl (λ place. refl) (λ h now. let bad : to.Read ≡ to.Send = sym due ∙ h in cc)
      (omega arith) (λ place ne. refl) (λ full some. none_read condition unread taken held size causes p at _ before t.sat (o.read.allowed full) some) (λ place ne. none_elsewhere at place ne)
      (read_served p q _ is_full may_send before after _ _ _ due (one_here at)) (tt, tt) refl
  took_turn p q at time is_full may_send before after t e (inr (inr (inl (r, due)))) =
      unsending p q at time is_full may_send before after (Declines at before.connection r.piece time.moment r.answers.sent ∷ []) (goes_on begins (refuses t r)) refl (λ place. refl) (λ h now. let bad : to.Read ≡ to.Send = sym due ∙ h in cc)
      (one_at_most (at == at)) (λ place ne. none_elsewhere at place ne) (λ full some. none_read condition unread taken held size causes p at _ before t.sat (r.read.allowed full) some) (λ place ne. none_elsewhere at place ne)
      (read_served p q _ is_full may_send before after _ _ _ due (one_here at)) (refl, tt) refl
  took_turn p q at time is_full may_send before after t e (inr (inr (inr (inl (a, due))))) =
      unsending p q at time is_full may_send before after (Replies at before.connection time.moment a.now a.answers.sent ∷ []) (goes_on begins (answers t a)) refl (λ place. refl) (λ h now. let bad : to.Answer ≡ to.Send = sym due ∙ h in cc)
      (one_at_most (at == at)) (λ place ne. none_elsewhere at place ne) (λ full some. refl) (λ place ne. refl) (answer_served p q _ is_full may_send before after _ _ _ due (one_here at)) (refl, tt) refl
  took_turn p q at time is_full may_send before after t e (inr (inr (inr (inr (inl (d, due)))))) =
      unsending p q at time is_full may_send before after [] (goes_on begins (delays t d)) refl (λ place. refl) (λ h now. let bad : to.Answer ≡ to.Send = sym due ∙ h in cc)
      (omega arith) (λ place ne. refl) (λ full some. refl) (λ place ne. refl) (subst (λ (x : NextAction). IsServed condition unread taken held size causes p q [] is_full may_send before after 0 0 [] x) (sym due) (inr (inr (record {
        keeps = record { earlier = []; later = []; all = refl; mid = p; next = q; came = begins; is = d.keeps; goes = begins };
        stays = d.stays;
        stirs = d.stirs;
        counts_not = d.counts_not;
        leaves = d.leaves;
      })))) tt refl
  took_turn p q at time is_full may_send before after t e (inr (inr (inr (inr (inr (s, due, may)))))) = record {
    actions = Sends at before.connection s.sends.sent s.answer ∷ [];
    steps = goes_on begins (sends t s);
    once = omega arith;
    others = λ place ne. refl;
    waits = λ full some. refl;
    unread_others = λ place ne. refl;
    sends_once = let e = ap (λ (l : List SentOn). length l) (one_sent at s.answer) in let one : length (s.answer ∷ []) ≡ 1 = refl in omega (arith, e, one);
    unsent_others = λ place ne. none_sent at place s.answer ne;
    sends_on = λ h now. refl;
    sends_none = λ no. absurd (no due may);
    does = subst (λ (x : NextAction). IsServed condition unread taken held size causes p q (Sends at before.connection s.sends.sent s.answer ∷ []) is_full may_send before after 0 0 (sendings_at at (Sends at before.connection s.sends.sent s.answer ∷ [])) x) (sym due)
        (inl (may, (s.answer, one_sent at s.answer, s.goes ∙ ap (λ (h : Phase). phase_sent h s.answer) e)));
    in_time = (tt, tt);
    quiet = refl;
  }

  -- what comes next is what came next as the turn began
  action_begun : (shut : Option Shut) (is_shut is_awaited : Bool) (before mid : Slot R K S) → is_shut ≡ is_some shut → mid.state.phase ≡ phase_begun before.state.phase is_shut → mid.wire ≡ before.wire
      → mid.state.is_readable ≡ before.state.is_readable → mid.state.is_writable ≡ before.state.is_writable → mid.state.is_awaited ≡ is_sending before.state.phase && is_awaited
      → slot_action size mid ≡ turn_action size shut before is_awaited
  action_begun shut is_shut is_awaited before mid reported phase wire readable writable awaited =
      let p = phase_begun before.state.phase (is_some shut) in
      let phase_so : mid.state.phase ≡ p = phase ∙ ap (λ (b : Bool). phase_begun before.state.phase b) reported in
      let awaited_so : mid.state.is_awaited ≡ is_sending p && is_awaited =
      awaited ∙ ap (λ (b : Bool). b && is_awaited) (sym (sends_begun before.state.phase (is_some shut))) in
      ap (λ (h : Phase). next_action h mid.state.is_awaited (nat_lt 0 (owed_count size mid.wire)) mid.state.is_readable mid.state.is_writable) phase_so
      ∙ (ap (λ (w : Wire K S). next_action p mid.state.is_awaited (nat_lt 0 (owed_count size w)) mid.state.is_readable mid.state.is_writable) wire
      ∙ (ap (λ (b : Bool). next_action p mid.state.is_awaited (nat_lt 0 (owed_count size before.wire)) b mid.state.is_writable) readable
      ∙ (ap (λ (b : Bool). next_action p mid.state.is_awaited (nat_lt 0 (owed_count size before.wire)) before.state.is_readable b) writable
      ∙ (ap (λ (b : Bool). next_action p b (nat_lt 0 (owed_count size before.wire)) before.state.is_readable before.state.is_writable) awaited_so
      ∙ asks_sending p is_awaited (nat_lt 0 (owed_count size before.wire)) before.state.is_readable before.state.is_writable))))

  held_back : (p m : Position A R K S) (is_full : Bool) (before mid : Slot R K S) → m.shut ≡ p.shut → mid.state.unfinished ≡ before.state.unfinished
      → is_held_back mid.state is_full (is_some m.shut) ≡ true → is_held_back before.state is_full (is_some p.shut) ≡ true
  held_back p m is_full before mid shut count back =
      subst (λ (n : ℕ). (is_some p.shut || (is_full && nat_lt 0 n)) ≡ true) count
      (subst (λ (o : Option Shut). (is_some o || (is_full && nat_lt 0 mid.state.unfinished)) ≡ true) shut back)

  off_begun : (before mid after : Slot R K S) → mid.wire ≡ before.wire → mid.state.is_writable ≡ before.state.is_writable → IsPutOff size mid after → IsPutOff size before after
  off_begun before mid after wire writable off = record {
    sends = λ may owes. elim (off.sends (writable ∙ may) (subst (λ (w : Wire K S). 0 < owed_count size w) (sym wire) owes)) [
      | inl fewer ↦ inl (subst (λ (w : Wire K S). owed_count size after.wire < owed_count size w) wire fewer)
      | inr none ↦ inr none
    ];
    stirs = λ none. off.stirs (ap (λ (w : Wire K S). owed_count size w) wire ∙ none);
    counts_not = λ none. off.counts_not (ap (λ (w : Wire K S). owed_count size w) wire ∙ none);
  }

  -- who was served once its turn had begun was served
  served_begun : (p m q : Position A R K S) (actions : List HostAction) (is_full may_send : Bool) (before mid after : Slot R K S) (answered read : ℕ) (sent : List SentOn) (d : NextAction) → Steps condition unread taken held p [] m → m.shut ≡ p.shut
      → mid.connection ≡ before.connection → mid.wire ≡ before.wire → mid.state.unfinished ≡ before.state.unfinished → mid.state.is_writable ≡ before.state.is_writable
      → phase_begun mid.state.phase (is_some m.shut) ≡ phase_begun before.state.phase (is_some p.shut)
      → IsServed condition unread taken held size causes m q actions is_full may_send mid after answered read sent d → IsServed condition unread taken held size causes p q actions is_full may_send before after answered read sent d
  served_begun p m q actions is_full may_send before mid after answered read sent to.Flush s shut number wire count writable phase (inl fewer, h) =
      (inl (subst (λ (w : Wire K S). owed_count size after.wire < owed_count size w) wire fewer), subst (λ (x : Phase). StaysOrIsOver x after.state.phase) phase h)
  served_begun p m q actions is_full may_send before mid after answered read sent to.Flush s shut number wire count writable phase (inr none, h) = (inr none, subst (λ (x : Phase). StaysOrIsOver x after.state.phase) phase h)
  served_begun p m q actions is_full may_send before mid after answered read sent to.Answer s shut number wire count writable phase (inl one) = inl one
  served_begun p m q actions is_full may_send before mid after answered read sent to.Answer s shut number wire count writable phase (inr (inl lost)) =
      inr (inl (subst (λ (n : ℕ). IsLost condition unread taken held size causes p q actions n) number (lost_before condition unread taken held size causes p m q mid.connection [] actions s lost)))
  served_begun p m q actions is_full may_send before mid after answered read sent to.Answer s shut number wire count writable phase (inr (inr k)) =
      let b = kept_back_on condition unread taken held size causes m q p q actions actions mid after (λ So. once_before condition unread taken held size causes So p m q [] actions s) k in
      inr (inr (record {
        keeps = subst (λ (n : ℕ). IsOnce condition unread taken held size causes (λ old new. KeepsBack condition (reported taken held before.wire) (reported taken held after.wire) before.wire.failures after.wire.failures old new n) p q actions) number
            (subst (λ (w : Wire K S). IsOnce condition unread taken held size causes (λ old new. KeepsBack condition (reported taken held w) (reported taken held after.wire) w.failures after.wire.failures old new mid.connection) p q actions) wire b.keeps);
        stays = b.stays;
        stirs = b.stirs;
        counts_not = b.counts_not;
        leaves = b.leaves ∙ count;
      }))
  served_begun p m q actions is_full may_send before mid after answered read sent to.Send s shut number wire count writable phase (inl (may, h)) =
      inl (may, (h.0, h.1, h.2 ∙ ap (λ (x : Phase). phase_sent x h.0) phase))
  served_begun p m q actions is_full may_send before mid after answered read sent to.Send s shut number wire count writable phase (inr (none, unsent, off, h)) =
      inr (none, unsent, off_begun before mid after wire writable off, subst (λ (x : Phase). StaysOrIsOver x after.state.phase) phase h)
  served_begun p m q actions is_full may_send before mid after answered read sent to.Read s shut number wire count writable phase (inl one) = inl one
  served_begun p m q actions is_full may_send before mid after answered read sent to.Read s shut number wire count writable phase (inr (inl back)) =
      inr (inl (held_back p m is_full before mid shut count back.0, back.1 ∙ phase))
  served_begun p m q actions is_full may_send before mid after answered read sent to.Read s shut number wire count writable phase (inr (inr (inl none))) = inr (inr (inl (none.0, none.1 ∙ phase)))
  served_begun p m q actions is_full may_send before mid after answered read sent to.Read s shut number wire count writable phase (inr (inr (inr over))) = inr (inr (inr over))
  served_begun p m q actions is_full may_send before mid after answered read sent to.Finish s shut number wire count writable phase h = h
  served_begun p m q actions is_full may_send before mid after answered read sent to.Drain s shut number wire count writable phase h = subst (λ (x : Phase). StaysOrIsOver x after.state.phase) phase h
  served_begun p m q actions is_full may_send before mid after answered read sent to.Wait s shut number wire count writable phase h = h ∙ phase

  -- and had its causes since before
  caused_begun : (lost more : Type 0) (before mid after : Slot R K S) → mid.source ≡ before.source → mid.wire ≡ before.wire → mid.state.is_readable ≡ before.state.is_readable
      → mid.state.is_writable ≡ before.state.is_writable → (mid.state.phase ≡ Over → before.state.phase ≡ Over) → (lost → more) → HasCauses causes lost mid after → HasCauses causes more before after
  caused_begun lost more before mid after source wire readable writable over f h = record {
    readable = elim h.readable [
      | inl same ↦ inl (same ∙ readable)
      | inr none ↦ inr (none.0, subst (λ (r : R). causes.source after.source ≡ after_receive gives.Later (causes.source r)) source none.1)
    ];
    writable = elim h.writable [
      | inl same ↦ inl (same ∙ writable)
      | inr none ↦ inr (none.0, subst (λ (w : Wire K S). causes.sink after.wire.sink ≡ after_send takes.Later (causes.sink w.sink)) wire none.1)
    ];
    over = λ is. elim (h.over is) [
      | inl was ↦ inl (over was)
      | inr (inl broken) ↦ inr (inl (subst (λ (r : R). (causes.source after.source ≡ after_receive gives.Ended (causes.source r)) ⊎ ((causes.source after.source ≡ after_receive gives.Failed (causes.source r))
          ⊎ ((causes.sink after.wire.sink ≡ after_send takes.Failed (causes.sink before.wire.sink)) ⊎ HasRisen (causes.spool before.wire.backlog.spool) (causes.spool after.wire.backlog.spool)))) source
          (subst (λ (w : Wire K S). (causes.source after.source ≡ after_receive gives.Ended (causes.source mid.source)) ⊎ ((causes.source after.source ≡ after_receive gives.Failed (causes.source mid.source))
          ⊎ ((causes.sink after.wire.sink ≡ after_send takes.Failed (causes.sink w.sink)) ⊎ HasRisen (causes.spool w.backlog.spool) (causes.spool after.wire.backlog.spool)))) wire broken)))
      | inr (inr l) ↦ inr (inr (f l))
    ];
  }

  -- a connection had its turn, once that had begun
  pub served : (p q : Position A R K S) (at : ℕ) (time : Time) (is_full is_shut may_send has_sent told is_awaited : Bool) (reported_old reported_new : Option (List Note)) (before mid after : Slot R K S) → reported_new ≡ reported_old → at < length p.slots → slot_at at p.slots ≡ Some before
      → q.slots ≡ set p.slots at (Some after) → q.limits ≡ p.limits → q.shut ≡ p.shut → mid ≡ record before { state = mid.state }
      → (mid.state.phase ≡ Open → before.state.phase ≡ Open) → (is_ended before.state.phase ≡ true → is_ended mid.state.phase ≡ true)
      → mid.state.unfinished ≡ before.state.unfinished → mid.state.phase ≡ phase_begun before.state.phase is_shut → mid.state.is_readable ≡ before.state.is_readable
      → mid.state.is_writable ≡ before.state.is_writable → is_shut ≡ is_some p.shut
      → mid.state.is_awaited ≡ told → told ≡ is_sending before.state.phase && is_awaited → is_awaited_at p.hub.connections.items before.connection ≡ is_awaited
      → (has_sent ≡ true → (may_send ≡ true) × (slot_action size mid ≡ to.Send)) → (has_sent ≡ false → may_send ≡ true → slot_action size mid ≡ to.Send → ⊥)
      → TakesTurn condition unread taken held size causes p.hub q.hub mid after time.moment is_full is_shut may_send → ServesSlot condition unread taken held size causes p q at time is_full may_send has_sent reported_old reported_new
  served p q at time is_full is_shut may_send has_sent told is_awaited reported_old reported_new before mid after quiet there sat sits limits shut same opens ended count phase readable writable reported knows awaited asked sends_so sends_not t =
      let m : Position A R K S = record p { slots = set p.slots at (Some mid) } in
      let begun : slot_at at m.slots ≡ Some mid = get_or-set_same p.slots at (Some mid) None there in
      let unfinished : unfinished_of (slot_at at m.slots) ≡ unfinished_of (slot_at at p.slots) =
      ap (λ (o : Option (Slot R K S)). unfinished_of o) begun ∙ (count ∙ sym (ap (λ (o : Option (Slot R K S)). unfinished_of o) sat)) in
      let wire = ap (λ (x : Slot R K S). x.wire) same in
      let began = woken condition unread taken held p m at before mid there sat refl refl refl refl
      (record { connection = ap (λ (x : Slot R K S). x.connection) same; address = ap (λ (x : Slot R K S). x.address) same })
      (ap (λ (x : Slot R K S). x.source) same) wire opens (subst (λ (h : Phase). SendsStill before.state.phase h) (sym phase) (still_begun before.state.phase is_shut)) ended count in
      let represents : Some after ≡ slot_at at q.slots = sym (ap (λ (l : List (Option (Slot R K S))). slot_at at l) sits ∙ get_or-set_same p.slots at (Some after) None there) in
      let source = ap (λ (x : Slot R K S). x.source) same in
      let number = ap (λ (x : Slot R K S). x.connection) same in
      let begun_so : mid.state.phase ≡ phase_begun before.state.phase (is_some p.shut) = phase ∙ ap (λ (b : Bool). phase_begun before.state.phase b) reported in
      let twice : phase_begun mid.state.phase (is_some p.shut) ≡ phase_begun before.state.phase (is_some p.shut) =
      ap (λ (h : Phase). phase_begun h (is_some p.shut)) begun_so ∙ begun_once before.state.phase (is_some p.shut) in
      let s = took_turn m q at time is_full may_send mid after (record {
        there = omega (arith, there, length-set p.slots at (Some mid));
        sat = begun;
        sits = sits ∙ sym (set_again p.slots at (Some mid) (Some after));
        client = t.client;
        hub = t.hub;
        ended = t.ended;
        same_limits = limits;
        same_shut = shut;
      }) (begun_so ∙ sym twice) (subst (λ (b : Bool). ActsOnce condition unread taken held size p.hub q.hub mid after time.moment is_full b may_send) reported t.acts) in
      record {
        actions = s.actions;
        steps = steps_join condition unread taken held began s.steps;
        once = s.once;
        others = s.others;
        waits = λ full some. s.waits full (omega (arith, unfinished, some));
        unread_others = s.unread_others;
        sends_once = s.sends_once;
        unsent_others = s.unsent_others;
        counted = counted_by (sendings_in s.actions) has_sent (λ h. s.sends_on (sends_so h).1 (sends_so h).0) (λ h. s.sends_none (λ due may. sends_not h may due));
        allowed = λ h. (sends_so h).0;
        served = subst (λ (x : Option (Slot R K S)). IsServedAt condition unread taken held size causes p q is_full may_send s.actions at x) (sym sat) (record {
          after = after;
          left = inl (sym represents);
          caused = caused_begun (IsUnknown p.hub mid.connection) (IsLost condition unread taken held size causes p q s.actions before.connection) before mid after source wire readable writable
              (λ h. over_begun before.state.phase (is_some p.shut) (sym begun_so ∙ h))
              (λ unknown. record {
                earlier = [];
                later = s.actions;
                all = refl;
                mid = p;
                next = p;
                came = begins;
                is = subst (λ (n : ℕ). IsUnknown p.hub n) number unknown;
                goes = steps_join condition unread taken held began s.steps;
              }) t.caused;
          is_awaited = is_awaited;
          asked = record { earlier = []; later = s.actions; all = refl; mid = p; next = p; came = begins; is = asked; goes = steps_join condition unread taken held began s.steps };
          served = subst (λ (d : NextAction). IsServed condition unread taken held size causes p q s.actions is_full may_send before after (answers_at at s.actions) (pieces_at at s.actions) (sendings_at at s.actions) d)
              (action_begun p.shut is_shut is_awaited before mid reported phase wire readable writable (knows ∙ awaited))
              (served_begun p m q s.actions is_full may_send before mid after (answers_at at s.actions) (pieces_at at s.actions) (sendings_at at s.actions) (slot_action size mid) began refl number wire count writable twice s.does);
        });
        in_time = s.in_time;
        noted = subst (λ (l : List Note). GrowsWhereShown reported_old reported_new l) (sym s.quiet) (grows_same reported_old reported_new quiet);
      }

  -- and was closed after it
  pub then_closed : (p q r : Position A R K S) (at : ℕ) (time : Time) (is_full may_send has_sent : Bool) (reported so_far reports : Option (List Note)) (reason : Closing) (slot : Slot R K S) → ServesSlot condition unread taken held size causes p q at time is_full may_send has_sent reported so_far → Goes condition unread taken held q r at time.second reason slot
      → GrowsWhereShown so_far reports (LetGo slot.connection reason ∷ []) → ServesSlot condition unread taken held size causes p r at time is_full may_send has_sent reported reports
  then_closed p q r at time is_full may_send has_sent reported so_far reports reason slot s g noted =
      let more : List HostAction = Closes at slot.connection time.second reason ∷ [] in
      record {
        actions = s.actions ++ more;
        steps = goes_on s.steps (leaves g);
        once = let e = answers_append at s.actions more in let f : answers_at at more ≡ 0 = refl in let o = s.once in omega (arith, e, f, o);
        others = λ place ne. let e = answers_append place s.actions more in let f : answers_at place more ≡ 0 = refl in let o = s.others place ne in omega (arith, e, f, o);
        waits = λ full some. let e = pieces_append at s.actions more in let f : pieces_at at more ≡ 0 = refl in let o = s.waits full some in omega (arith, e, f, o);
        unread_others = λ place ne. let e = pieces_append place s.actions more in let f : pieces_at place more ≡ 0 = refl in let o = s.unread_others place ne in omega (arith, e, f, o);
        sends_once = let e = ap (λ (l : List SentOn). length l) (sendings_after at s.actions more refl) in let o = s.sends_once in omega (arith, e, o);
        unsent_others = λ place ne. sendings_after place s.actions more refl ∙ s.unsent_others place ne;
        counted = let e = sendings_in_append s.actions more in let f : sendings_in more ≡ 0 = refl in let none : sendings_in (s.actions ++ more) ≡ sendings_in s.actions = omega (arith, e, f) in none ∙ s.counted;
        allowed = s.allowed;
        served = at_after condition unread taken held size causes p q r is_full may_send s.actions more at (slot_at at p.slots) s.steps (goes_on begins (leaves g))
            (λ other sits. inr (closed_there condition unread taken held size causes q r at time.second reason slot other g sits)) refl refl refl s.served;
        in_time = in_time_append time s.actions more s.in_time (refl, tt);
        noted = noted_on reported so_far reports s.actions more s.noted noted;
      }

  pub closes_served : (p q r : Position A R K S) (at : ℕ) (time : Time) (is_full may_send has_sent : Bool) (reported so_far reports : Option (List Note)) (reason : Closing) (x : Option (Slot R K S)) → IfSome x (Goes condition unread taken held q r at time.second reason) → MayGo q time.second reason x
      → ServesSlot condition unread taken held size causes p q at time is_full may_send has_sent reported so_far → GrowsWhereShown so_far reports (farewell reason x) → ServesSlot condition unread taken held size causes p r at time is_full may_send has_sent reported reports
  closes_served p q r at time is_full may_send has_sent reported so_far reports reason None g d s noted = absurd d
  closes_served p q r at time is_full may_send has_sent reported so_far reports reason (Some slot) g d s noted = then_closed p q r at time is_full may_send has_sent reported so_far reports reason slot s g noted
