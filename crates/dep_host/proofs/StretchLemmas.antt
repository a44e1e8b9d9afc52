-- What became of a connection is so still where the round began earlier, and where it went on later.
use Rattle.std.proofs.Common.{◌≡◌, ◌<◌, ℕ, Bool, true, List, [], ◌∷◌, ◌++◌, Option, None, Some, refl, sym, ap, subst, ◌∙◌, append_assoc, is_some, inl, inr, arith}
use Rattle.std.specs.Option.{option_map_or}
use Rattle.dep_types.specs.Conditions.{Condition}
use Rattle.dep_hub.specs.RepresentsOwing.{KeepsBack, is_awaited_at}
use Rattle.dep_hub.specs.declared.hub.Hub.{Hub}
use Rattle.dep_hub.specs.declared.sent_on.SentOn.{SentOn}
use Rattle.dep_outbox.specs.Wires.{reported}
use Rattle.dep_host.specs.declared.ending.Shut.{Shut}
use Rattle.dep_slot.specs.ConnectionStates.{StaysOrIsOver, is_held_back, phase_begun}
use Rattle.dep_slot.specs.Causes.{Causes}
use Rattle.dep_slot.specs.declared.slot.Slot.{Slot}
use Rattle.dep_slot.specs.declared.log.Closing.{Closing}
use Rattle.dep_slot.specs.declared.connection_state.NextAction.{NextAction}
use Rattle.dep_slot.specs.declared.connection_state.NextAction.TheVariants as to
use Rattle.dep_slot.specs.Slots.{IsUnknown, phase_sent}
use Rattle.dep_host.specs.Actions.{Position, slot_at, HostAction, answers_at, pieces_at, sendings_at, unfinished_of, Closes}
use Rattle.dep_host.specs.Hosting.{Goes, Steps, begins, IsClosed, IsLeftOrClosed, IsOnce, IsLost, IsKeptBack, IsServed, IsServedAt, turn_action}
use Rattle.dep_host.proofs.HostLemmas.{steps_join}
use Rattle.dep_host.proofs.ActionLemmas.{answers_append, pieces_append, sendings_after, sendings_before}
use Rattle.dep_slot.proofs.SlotLemmas.{lost_too}

-- one slot is at a place
some_same : {X : Type 0} (x y : X) → Some x ≡ Some y → x ≡ y
some_same {X = X} x y e = ap (λ (o : Option X). option_map_or (λ z. z) o x) e

module _ {A R K S : Type 0} (condition : A → Condition) (unread : R → Option (List ℕ)) (taken : K → Option (List ℕ)) (held : S → Option (List ℕ)) (size : S → ℕ) (causes : Causes R K S) where
  -- of a request of which something is kept no more was read
  pub none_read : (p : Position A R K S) (at n : ℕ) (before : Slot R K S) → slot_at at p.slots ≡ Some before → before.state.unfinished ≡ 0 → 0 < unfinished_of (slot_at at p.slots) → n ≡ 0
  none_read p at n before sat none some = absurd (
      let kept : unfinished_of (slot_at at p.slots) ≡ before.state.unfinished = ap (λ (x : Option (Slot R K S)). unfinished_of x) sat in
      let no : ⊥ = omega (arith, kept, none, some) in no)

  -- what was so once is so still where the round began earlier
  pub once_before : (So : Hub A → Hub A → Type 0) (p q r : Position A R K S) (xs ys : List HostAction) → Steps condition unread taken held p xs q → IsOnce condition unread taken held size causes So q r ys → IsOnce condition unread taken held size causes So p r (xs ++ ys)
  once_before So p q r xs ys s once = record {
    earlier = xs ++ once.earlier;
    later = once.later;
    all = ap (λ (l : List HostAction). xs ++ l) once.all ∙ sym (append_assoc xs once.earlier once.later);
    mid = once.mid;
    next = once.next;
    came = steps_join condition unread taken held s once.came;
    is = once.is;
    goes = once.goes;
  }

  pub lost_before : (p q r : Position A R K S) (number : ℕ) (xs ys : List HostAction) → Steps condition unread taken held p xs q → IsLost condition unread taken held size causes q r ys number → IsLost condition unread taken held size causes p r (xs ++ ys) number
  lost_before p q r number xs ys s lost = once_before (λ old new. IsUnknown old number) p q r xs ys s lost

  -- and where it went on later
  once_later : (So : Hub A → Hub A → Type 0) (p q r : Position A R K S) (xs ys : List HostAction) → Steps condition unread taken held q ys r → IsOnce condition unread taken held size causes So p q xs → IsOnce condition unread taken held size causes So p r (xs ++ ys)
  once_later So p q r xs ys s once = record {
    earlier = once.earlier;
    later = once.later ++ ys;
    all = ap (λ (l : List HostAction). l ++ ys) once.all ∙ append_assoc once.earlier once.later ys;
    mid = once.mid;
    next = once.next;
    came = once.came;
    is = once.is;
    goes = steps_join condition unread taken held once.goes s;
  }

  lost_later : (p q r : Position A R K S) (number : ℕ) (xs ys : List HostAction) → Steps condition unread taken held q ys r → IsLost condition unread taken held size causes p q xs number → IsLost condition unread taken held size causes p r (xs ++ ys) number
  lost_later p q r number xs ys s lost = once_later (λ old new. IsUnknown old number) p q r xs ys s lost

  -- who was kept back, or served, in one stretch was so in another, if what was so once in it is so once in that
  pub kept_back_on : (a b p q : Position A R K S) (xs ys : List HostAction) (before after : Slot R K S) → ((So : Hub A → Hub A → Type 0) → IsOnce condition unread taken held size causes So a b xs → IsOnce condition unread taken held size causes So p q ys)
      → IsKeptBack condition unread taken held size causes a b xs before after → IsKeptBack condition unread taken held size causes p q ys before after
  kept_back_on a b p q xs ys before after on k = record {
    keeps = on (λ old new. KeepsBack condition (reported taken held before.wire) (reported taken held after.wire) before.wire.failures after.wire.failures old new before.connection) k.keeps;
    stays = k.stays;
    stirs = k.stirs;
    counts_not = k.counts_not;
    leaves = k.leaves;
  }

  served_on : (a b p q : Position A R K S) (xs ys : List HostAction) (is_full may_send : Bool) (before after : Slot R K S) (answered read : ℕ) (sent : List SentOn) (d : NextAction)
      → ((So : Hub A → Hub A → Type 0) → IsOnce condition unread taken held size causes So a b xs → IsOnce condition unread taken held size causes So p q ys) → a.shut ≡ p.shut
      → IsServed condition unread taken held size causes a b xs is_full may_send before after answered read sent d → IsServed condition unread taken held size causes p q ys is_full may_send before after answered read sent d
  served_on a b p q xs ys is_full may_send before after answered read sent to.Flush on shut h = (h.0, subst (λ (o : Option Shut). StaysOrIsOver (phase_begun before.state.phase (is_some o)) after.state.phase) shut h.1)
  served_on a b p q xs ys is_full may_send before after answered read sent to.Answer on shut (inl one) = inl one
  served_on a b p q xs ys is_full may_send before after answered read sent to.Answer on shut (inr (inl lost)) = inr (inl (on (λ old new. IsUnknown old before.connection) lost))
  served_on a b p q xs ys is_full may_send before after answered read sent to.Answer on shut (inr (inr k)) = inr (inr (kept_back_on a b p q xs ys before after on k))
  served_on a b p q xs ys is_full may_send before after answered read sent to.Send on shut (inl (may, h)) =
      inl (may, (h.0, h.1, subst (λ (o : Option Shut). after.state.phase ≡ phase_sent (phase_begun before.state.phase (is_some o)) h.0) shut h.2))
  served_on a b p q xs ys is_full may_send before after answered read sent to.Send on shut (inr (none, unsent, off, phase)) =
      inr (none, unsent, off, subst (λ (o : Option Shut). StaysOrIsOver (phase_begun before.state.phase (is_some o)) after.state.phase) shut phase)
  served_on a b p q xs ys is_full may_send before after answered read sent to.Read on shut (inl one) = inl one
  served_on a b p q xs ys is_full may_send before after answered read sent to.Read on shut (inr (inl back)) = inr (inl (
    subst (λ (o : Option Shut). is_held_back before.state is_full (is_some o) ≡ true) shut back.0,
    subst (λ (o : Option Shut). after.state.phase ≡ phase_begun before.state.phase (is_some o)) shut back.1,
  ))
  served_on a b p q xs ys is_full may_send before after answered read sent to.Read on shut (inr (inr (inl none))) =
      inr (inr (inl (none.0, subst (λ (o : Option Shut). after.state.phase ≡ phase_begun before.state.phase (is_some o)) shut none.1)))
  served_on a b p q xs ys is_full may_send before after answered read sent to.Read on shut (inr (inr (inr over))) = inr (inr (inr over))
  served_on a b p q xs ys is_full may_send before after answered read sent to.Finish on shut h = h
  served_on a b p q xs ys is_full may_send before after answered read sent to.Drain on shut h = subst (λ (o : Option Shut). StaysOrIsOver (phase_begun before.state.phase (is_some o)) after.state.phase) shut h
  served_on a b p q xs ys is_full may_send before after answered read sent to.Wait on shut h = subst (λ (o : Option Shut). after.state.phase ≡ phase_begun before.state.phase (is_some o)) shut h

  -- who was closed was closed where it began earlier, and where it went on later
  closed_before : (p q r : Position A R K S) (xs ys : List HostAction) (place : ℕ) (slot : Slot R K S) → Steps condition unread taken held p xs q → IsClosed condition unread taken held q r ys place slot → IsClosed condition unread taken held p r (xs ++ ys) place slot
  closed_before p q r xs ys place slot s k = record {
    earlier = xs ++ k.earlier;
    later = k.later;
    second = k.second;
    reason = k.reason;
    all = ap (λ (l : List HostAction). xs ++ l) k.all ∙ sym (append_assoc xs k.earlier (Closes place slot.connection k.second k.reason ∷ k.later));
    mid = k.mid;
    next = k.next;
    came = steps_join condition unread taken held s k.came;
    goes = k.goes;
    rest = k.rest;
  }

  closed_later : (p q r : Position A R K S) (xs ys : List HostAction) (place : ℕ) (slot : Slot R K S) → Steps condition unread taken held q ys r → IsClosed condition unread taken held p q xs place slot → IsClosed condition unread taken held p r (xs ++ ys) place slot
  closed_later p q r xs ys place slot s k = record {
    earlier = k.earlier;
    later = k.later ++ ys;
    second = k.second;
    reason = k.reason;
    all = ap (λ (l : List HostAction). l ++ ys) k.all ∙ append_assoc k.earlier (Closes place slot.connection k.second k.reason ∷ k.later) ys;
    mid = k.mid;
    next = k.next;
    came = k.came;
    goes = k.goes;
    rest = steps_join condition unread taken held k.rest s;
  }

  -- who sat there was closed by this
  pub closed_there : (q r : Position A R K S) (at second : ℕ) (reason : Closing) (slot other : Slot R K S) → Goes condition unread taken held q r at second reason slot → slot_at at q.slots ≡ Some other
      → IsClosed condition unread taken held q r (Closes at slot.connection second reason ∷ []) at other
  closed_there q r at second reason slot other g sat =
      let same : slot ≡ other = some_same slot other (sym g.sat ∙ sat) in
      subst (λ (s : Slot R K S). IsClosed condition unread taken held q r (Closes at slot.connection second reason ∷ []) at s) same (record {
        earlier = [];
        later = [];
        second = second;
        reason = reason;
        all = refl;
        mid = q;
        next = r;
        came = begins;
        goes = g;
        rest = begins;
      })

  -- it is left as it was where it began earlier, and where it went on later
  left_before : (p q r : Position A R K S) (xs ys : List HostAction) (place : ℕ) (slot : Slot R K S) → Steps condition unread taken held p xs q → IsLeftOrClosed condition unread taken held q r ys place slot → IsLeftOrClosed condition unread taken held p r (xs ++ ys) place slot
  left_before p q r xs ys place slot s (inl sits) = inl sits
  left_before p q r xs ys place slot s (inr k) = inr (closed_before p q r xs ys place slot s k)

  left_later : (p q r : Position A R K S) (xs ys : List HostAction) (place : ℕ) (slot : Slot R K S) → Steps condition unread taken held p xs q → Steps condition unread taken held q ys r
      → ((other : Slot R K S) → slot_at place q.slots ≡ Some other → IsLeftOrClosed condition unread taken held q r ys place other) → IsLeftOrClosed condition unread taken held p q xs place slot → IsLeftOrClosed condition unread taken held p r (xs ++ ys) place slot
  left_later p q r xs ys place slot s t how (inl sits) = left_before p q r xs ys place slot s (how slot sits)
  left_later p q r xs ys place slot s t how (inr k) = inr (closed_later p q r xs ys place slot t k)

  -- the same of who is at a place, or nobody does
  pub at_before : (p q r : Position A R K S) (is_full may_send : Bool) (xs ys : List HostAction) (place : ℕ) (x : Option (Slot R K S)) → Steps condition unread taken held p xs q → q.shut ≡ p.shut → answers_at place xs ≡ 0 → pieces_at place xs ≡ 0 → sendings_at place xs ≡ []
      → IsServedAt condition unread taken held size causes q r is_full may_send ys place x → IsServedAt condition unread taken held size causes p r is_full may_send (xs ++ ys) place x
  at_before p q r is_full may_send xs ys place None s shut none unread_yet unsent_yet h = tt
  at_before p q r is_full may_send xs ys place (Some slot) s shut none unread_yet unsent_yet h =
      let answered : answers_at place ys ≡ answers_at place (xs ++ ys) = let e = answers_append place xs ys in omega (arith, e, none) in
      let pieces : pieces_at place ys ≡ pieces_at place (xs ++ ys) = let e = pieces_append place xs ys in omega (arith, e, unread_yet) in
      let sent : sendings_at place ys ≡ sendings_at place (xs ++ ys) = sym (sendings_before place xs ys unsent_yet) in
      record {
        after = h.after;
        left = left_before p q r xs ys place h.after s h.left;
        caused = lost_too causes (IsLost condition unread taken held size causes q r ys slot.connection) (IsLost condition unread taken held size causes p r (xs ++ ys) slot.connection) slot h.after
            (lost_before p q r slot.connection xs ys s) h.caused;
        is_awaited = h.is_awaited;
        asked = once_before (λ old new. is_awaited_at old.connections.items slot.connection ≡ h.is_awaited) p q r xs ys s h.asked;
        served = served_on q r p r ys (xs ++ ys) is_full may_send slot h.after (answers_at place (xs ++ ys)) (pieces_at place (xs ++ ys)) (sendings_at place (xs ++ ys)) (turn_action size p.shut slot h.is_awaited) (λ So. once_before So p q r xs ys s) shut
            (subst (λ (o : Option Shut). IsServed condition unread taken held size causes q r ys is_full may_send slot h.after (answers_at place (xs ++ ys)) (pieces_at place (xs ++ ys)) (sendings_at place (xs ++ ys)) (turn_action size o slot h.is_awaited)) shut
            (subst (λ (l : List SentOn). IsServed condition unread taken held size causes q r ys is_full may_send slot h.after (answers_at place (xs ++ ys)) (pieces_at place (xs ++ ys)) l (turn_action size q.shut slot h.is_awaited)) sent
            (subst (λ (n : ℕ). IsServed condition unread taken held size causes q r ys is_full may_send slot h.after (answers_at place (xs ++ ys)) n (sendings_at place ys) (turn_action size q.shut slot h.is_awaited)) pieces
            (subst (λ (n : ℕ). IsServed condition unread taken held size causes q r ys is_full may_send slot h.after n (pieces_at place ys) (sendings_at place ys) (turn_action size q.shut slot h.is_awaited)) answered h.served))));
      }

  -- later actions did not concern it, but that it may have been closed
  pub at_after : (p q r : Position A R K S) (is_full may_send : Bool) (xs ys : List HostAction) (place : ℕ) (x : Option (Slot R K S)) → Steps condition unread taken held p xs q → Steps condition unread taken held q ys r
      → ((other : Slot R K S) → slot_at place q.slots ≡ Some other → IsLeftOrClosed condition unread taken held q r ys place other) → answers_at place ys ≡ 0
      → pieces_at place ys ≡ 0 → sendings_at place ys ≡ [] → IsServedAt condition unread taken held size causes p q is_full may_send xs place x → IsServedAt condition unread taken held size causes p r is_full may_send (xs ++ ys) place x
  at_after p q r is_full may_send xs ys place None s t how none unread_later unsent_later h = tt
  at_after p q r is_full may_send xs ys place (Some slot) s t how none unread_later unsent_later h =
      let answered : answers_at place xs ≡ answers_at place (xs ++ ys) = let e = answers_append place xs ys in omega (arith, e, none) in
      let pieces : pieces_at place xs ≡ pieces_at place (xs ++ ys) = let e = pieces_append place xs ys in omega (arith, e, unread_later) in
      let sent : sendings_at place xs ≡ sendings_at place (xs ++ ys) = sym (sendings_after place xs ys unsent_later) in
      let d = turn_action size p.shut slot h.is_awaited in
      record {
        after = h.after;
        left = left_later p q r xs ys place h.after s t how h.left;
        caused = lost_too causes (IsLost condition unread taken held size causes p q xs slot.connection) (IsLost condition unread taken held size causes p r (xs ++ ys) slot.connection) slot h.after
            (lost_later p q r slot.connection xs ys t) h.caused;
        is_awaited = h.is_awaited;
        asked = once_later (λ old new. is_awaited_at old.connections.items slot.connection ≡ h.is_awaited) p q r xs ys t h.asked;
        served = served_on p q p r xs (xs ++ ys) is_full may_send slot h.after (answers_at place (xs ++ ys)) (pieces_at place (xs ++ ys)) (sendings_at place (xs ++ ys)) d (λ So. once_later So p q r xs ys t) refl
            (subst (λ (l : List SentOn). IsServed condition unread taken held size causes p q xs is_full may_send slot h.after (answers_at place (xs ++ ys)) (pieces_at place (xs ++ ys)) l d) sent
            (subst (λ (n : ℕ). IsServed condition unread taken held size causes p q xs is_full may_send slot h.after (answers_at place (xs ++ ys)) n (sendings_at place xs) d) pieces
            (subst (λ (n : ℕ). IsServed condition unread taken held size causes p q xs is_full may_send slot h.after n (pieces_at place xs) (sendings_at place xs) d) answered h.served)));
      }
