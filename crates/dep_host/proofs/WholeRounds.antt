-- A round of a host: each place has its turn, and then the largest is closed.
use Rattle.std.proofs.Common.{◌≡◌, ◌⊎◌, ◌<◌, ◌≤◌, ◌+◌, ℕ, Bool, true, false, List, [], ◌∷◌, ◌++◌, Option, None, Some, refl, sym, ap, subst, ◌∙◌, length, nat_lt, is_some, inl, inr, arith}
use Rattle.std.proofs.lemmas.List.{append-nil, get_or-set_other}
use Rattle.std.proofs.lemmas.Bool.{cases_eq, cases_lt, lt-ltb, ltb-true}
use Rattle.dep_types.specs.Conditions.{Condition}
use Rattle.dep_hub.specs.declared.sent_on.SentOn.{SentOn}
use Rattle.dep_outbox.specs.Wires.{reported, owed_count}
use Rattle.dep_slot.specs.ConnectionStates.{is_sending}
use Rattle.dep_slot.specs.Causes.{Causes}
use Rattle.dep_slot.specs.declared.slot.Slot.{Slot}
use Rattle.dep_slot.specs.declared.slot.Time.{Time}
use Rattle.dep_slot.specs.declared.log.Closing.TheVariants.{Large}
use Rattle.dep_slot.specs.declared.connection_state.NextAction.{NextAction}
use Rattle.dep_slot.specs.declared.connection_state.NextAction.TheVariants as to
use Rattle.dep_host.specs.Actions.{Position, slot_at, closings_of, HostAction, answers_at, pieces_at, sendings_at, sendings_in, unfinished_of, unfinished_in, AreDoneAt, Closes}
use Rattle.dep_host.specs.Hosting.{leaves, Steps, begins, goes_on, IsClosed, IsServed, IsServedAt, IsTurned, WasAwaited, ServesSlot, GoesRound, EvictsLargest}
use Rattle.dep_slot.specs.Notes.{Note, GrowsWhereShown}
use Rattle.dep_host.specs.declared.share.Share.{Share}
use Rattle.dep_host.specs.Sharing.{IsNextPlace, counted, is_turn, most_sent}
use Rattle.dep_host.proofs.ShareLemmas.{SharesSo, room_left, shares_begin, shares_on, shares_end, sent_few}
use Rattle.dep_host.proofs.HostLemmas.{grows_none, steps_join}
use Rattle.dep_host.proofs.ActionLemmas.{answers_append, pieces_append, sendings_in_append, sendings_after, sendings_before, in_time_append, noted_on}
use Rattle.dep_slot.proofs.PhaseLemmas.{sending_action, sent_unless}
use Rattle.dep_host.proofs.StretchLemmas.{closed_there, at_before, at_after}

module _ {A R K S : Type 0} (condition : A → Condition) (unread : R → Option (List ℕ)) (taken : K → Option (List ℕ)) (held : S → Option (List ℕ)) (size : S → ℕ) (causes : Causes R K S) where
  -- the places so far had their turns
  pub record RoundSoFar (p q : Position A R K S) (at : ℕ) (time : Time) (is_full : Bool) (share : Share) (reported reports : Option (List Note)) : Type 0 where
    actions : List HostAction
    steps : Steps condition unread taken held p actions q
    once : (place : ℕ) → answers_at place actions ≤ 1
    later : (place : ℕ) → at ≤ place → answers_at place actions ≡ 0
    waits : is_full ≡ true → (place : ℕ) → 0 < unfinished_of (slot_at place p.slots) → pieces_at place actions ≡ 0
    unread_later : (place : ℕ) → at ≤ place → pieces_at place actions ≡ 0
    sends_once : (place : ℕ) → length (sendings_at place actions) ≤ 1
    unsent_later : (place : ℕ) → at ≤ place → sendings_at place actions ≡ []
    shares : SharesSo share at (sendings_in actions)
    pub stays : (place : ℕ) → at ≤ place → slot_at place q.slots ≡ slot_at place p.slots
    served : (place : ℕ) → place < at → IsServedAt condition unread taken held size causes p q is_full (is_turn share.first share.next place) actions place (slot_at place p.slots)
    in_time : AreDoneAt time actions
    noted : GrowsWhereShown reported reports (closings_of actions)

  pub round_begins : (p : Position A R K S) (time : Time) (is_full : Bool) (share : Share) (reported : Option (List Note)) → share.next ≡ 0 → share.left ≡ most_sent → RoundSoFar p p 0 time is_full share reported reported
  round_begins p time is_full share reported next left = record {
    actions = [];
    steps = begins;
    once = λ place. omega arith;
    later = λ place h. refl;
    waits = λ full place some. refl;
    unread_later = λ place h. refl;
    sends_once = λ place. omega arith;
    unsent_later = λ place h. refl;
    shares = shares_begin share next left;
    stays = λ place h. refl;
    served = λ place h. absurd (let none : ⊥ = omega (arith, h) in none);
    in_time = tt;
    noted = grows_none reported;
  }

  -- whose turn it was stays so once one place more was served
  turned_on : (p r : Position A R K S) (is_full : Bool) (actions : List HostAction) (share after : Share) (place : ℕ) → after.first ≡ share.first → is_turn share.first after.next place ≡ is_turn share.first share.next place
      → IsServedAt condition unread taken held size causes p r is_full (is_turn share.first share.next place) actions place (slot_at place p.slots)
      → IsServedAt condition unread taken held size causes p r is_full (is_turn after.first after.next place) actions place (slot_at place p.slots)
  turned_on p r is_full actions share after place first turn h =
      subst (λ (b : Bool). IsServedAt condition unread taken held size causes p r is_full b actions place (slot_at place p.slots)) (sym (ap (λ (n : ℕ). is_turn n after.next place) first ∙ turn)) h

  pub round_goes_on : (p q r : Position A R K S) (at next : ℕ) (time : Time) (is_full has_sent : Bool) (share after : Share) (reported so_far reports : Option (List Note)) → RoundSoFar p q at time is_full share reported so_far
      → ServesSlot condition unread taken held size causes q r at time is_full (is_turn share.first share.next at) has_sent so_far reports → after ≡ counted share at has_sent
      → ((place : ℕ) → (place ≡ at → ⊥) → slot_at place r.slots ≡ slot_at place q.slots) → next ≡ at + 1 → q.shut ≡ p.shut → RoundSoFar p r next time is_full after reported reports
  round_goes_on p q r at next time is_full has_sent share after reported so_far reports s t is same e shut =
      let on = shares_on share at (sendings_in s.actions) (sendings_in t.actions) has_sent s.shares t.allowed t.counted in
      let first : after.first ≡ share.first = ap (λ (x : Share). x.first) is ∙ on.1 in
      let turns : (place : ℕ) → place < at + 1 → is_turn share.first after.next place ≡ is_turn share.first share.next place =
      λ place lt. ap (λ (x : Share). is_turn share.first x.next place) is ∙ on.2 place lt in
      record {
        actions = s.actions ++ t.actions;
        steps = steps_join condition unread taken held s.steps t.steps;
        once = λ place. elim (cases_eq place at) [
          | inl h ↦ let a = answers_append place s.actions t.actions in let b = s.later place (omega (arith, h)) in
              let c : answers_at place t.actions ≤ 1 = subst (λ (n : ℕ). answers_at n t.actions ≤ 1) (sym h) t.once in omega (arith, a, b, c)
          | inr ne ↦ let a = answers_append place s.actions t.actions in let b = t.others place ne in let c = s.once place in omega (arith, a, b, c)
        ];
        later = λ place h.
            let a = answers_append place s.actions t.actions in let b = s.later place (omega (arith, h, e)) in
            let c = t.others place (λ is. omega (arith, is, h, e)) in omega (arith, a, b, c);
        waits = λ full place some. elim (cases_eq place at) [
          | inl h ↦ let a = pieces_append place s.actions t.actions in let b = s.unread_later place (omega (arith, h)) in
              let represents = ap (λ (x : Option (Slot R K S)). unfinished_of x) (s.stays place (omega (arith, h))) in
              let kept : 0 < unfinished_of (slot_at place q.slots) = omega (arith, represents, some) in
              let c : pieces_at place t.actions ≡ 0 = subst (λ (n : ℕ). pieces_at n t.actions ≡ 0) (sym h) (t.waits full (subst (λ (n : ℕ). 0 < unfinished_of (slot_at n q.slots)) h kept)) in omega (arith, a, b, c)
          | inr ne ↦ let a = pieces_append place s.actions t.actions in let b = t.unread_others place ne in let c = s.waits full place some in omega (arith, a, b, c)
        ];
        unread_later = λ place h.
            let a = pieces_append place s.actions t.actions in let b = s.unread_later place (omega (arith, h, e)) in
            let c = t.unread_others place (λ is. omega (arith, is, h, e)) in omega (arith, a, b, c);
        sends_once = λ place. elim (cases_eq place at) [
          | inl h ↦ let a = ap (λ (l : List SentOn). length l) (sendings_before place s.actions t.actions (s.unsent_later place (omega (arith, h)))) in
              let c : length (sendings_at place t.actions) ≤ 1 = subst (λ (n : ℕ). length (sendings_at n t.actions) ≤ 1) (sym h) t.sends_once in omega (arith, a, c)
          | inr ne ↦ let a = ap (λ (l : List SentOn). length l) (sendings_after place s.actions t.actions (t.unsent_others place ne)) in let c = s.sends_once place in omega (arith, a, c)
        ];
        unsent_later = λ place h. sendings_after place s.actions t.actions (t.unsent_others place (λ is. omega (arith, is, h, e))) ∙ s.unsent_later place (omega (arith, h, e));
        shares = subst (λ (n : ℕ). SharesSo after next n) (sym (sendings_in_append s.actions t.actions)) (subst (λ (n : ℕ). SharesSo after n (sendings_in s.actions + sendings_in t.actions)) (sym e)
            (subst (λ (x : Share). SharesSo x (at + 1) (sendings_in s.actions + sendings_in t.actions)) (sym is) on.0));
        stays = λ place h. same place (λ is. omega (arith, is, h, e)) ∙ s.stays place (omega (arith, h, e));
        served = λ place h. turned_on p r is_full (s.actions ++ t.actions) share after place first (turns place (omega (arith, h, e))) (elim (cases_eq place at) [
          | inl here ↦ subst (λ (n : ℕ). IsServedAt condition unread taken held size causes p r is_full (is_turn share.first share.next n) (s.actions ++ t.actions) n (slot_at n p.slots)) (sym here)
              (subst (λ (x : Option (Slot R K S)). IsServedAt condition unread taken held size causes p r is_full (is_turn share.first share.next at) (s.actions ++ t.actions) at x) (s.stays at (omega arith))
              (at_before condition unread taken held size causes p q r is_full (is_turn share.first share.next at) s.actions t.actions at (slot_at at q.slots) s.steps shut (s.later at (omega arith)) (s.unread_later at (omega arith)) (s.unsent_later at (omega arith)) t.served))
          | inr ne ↦ at_after condition unread taken held size causes p q r is_full (is_turn share.first share.next place) s.actions t.actions place (slot_at place p.slots) s.steps t.steps (λ other sits. inl (same place ne ∙ sits)) (t.others place ne) (t.unread_others place ne) (t.unsent_others place ne) (s.served place (omega (arith, h, e, ne)))
        ]);
        in_time = in_time_append time s.actions t.actions s.in_time t.in_time;
        noted = noted_on reported so_far reports s.actions t.actions s.noted t.noted;
      }

  -- some may be sent on still where it is the turn of a place
  pub room_for : (p q : Position A R K S) (at : ℕ) (time : Time) (is_full : Bool) (share : Share) (reported reports : Option (List Note)) → RoundSoFar p q at time is_full share reported reports → is_turn share.first share.next at ≡ true → 0 < share.left
  room_for p q at time is_full share reported reports s turn = room_left share at (sendings_in s.actions) s.shares turn

  -- so all had, as nobody is behind these
  all_served : (p q : Position A R K S) (at : ℕ) (time : Time) (is_full : Bool) (share : Share) (reported reports : Option (List Note)) → (s : RoundSoFar p q at time is_full share reported reports) → ((place : ℕ) → at ≤ place → slot_at place p.slots ≡ None)
      → (place : ℕ) → IsServedAt condition unread taken held size causes p q is_full (is_turn share.first share.next place) s.actions place (slot_at place p.slots)
  all_served p q at time is_full share reported reports s all place = elim (cases_lt place at) [
    | inl lt ↦ s.served place lt
    | inr ge ↦ subst (λ (x : Option (Slot R K S)). IsServedAt condition unread taken held size causes p q is_full (is_turn share.first share.next place) s.actions place x) (sym (all place (omega (arith, ge)))) tt
  ]

  -- and the largest was closed, where it had to be
  pub round_ends : (p q r : Position A R K S) (at : ℕ) (time : Time) (is_full : Bool) (share : Share) (last : List HostAction) (reported so_far reports : Option (List Note)) → RoundSoFar p q at time is_full share reported so_far → at ≤ length p.slots → is_full ≡ nat_lt p.limits.unfinished_bytes (unfinished_in p.slots) → ((place : ℕ) → at ≤ place → slot_at place p.slots ≡ None)
      → EvictsLargest condition unread taken held q r time.second last so_far reports → GoesRound condition unread taken held size causes p r share.first share.next time reported reports
  round_ends p q r at time is_full share last reported so_far reports s within e all (inl (same, keep, none, quiet)) = subst (λ (x : Position A R K S). GoesRound condition unread taken held size causes p x share.first share.next time reported reports) (sym same) (record {
    actions = s.actions;
    steps = s.steps;
    once = s.once;
    waits = λ more place some. s.waits (e ∙ lt-ltb p.limits.unfinished_bytes (unfinished_in p.slots) more) place some;
    sends_once = s.sends_once;
    sends_few = sent_few share at (sendings_in s.actions) s.shares;
    goes_by = shares_end share (length p.slots) at (sendings_in s.actions) s.shares within;
    served = λ place. subst (λ (b : Bool). IsServedAt condition unread taken held size causes p q b (is_turn share.first share.next place) s.actions place (slot_at place p.slots)) e (all_served p q at time is_full share reported so_far s all place);
    in_time = s.in_time;
    noted = subst (λ (o : Option (List Note)). GrowsWhereShown reported o (closings_of s.actions)) (sym quiet) s.noted;
    evicts = (q, s.actions, [], so_far, sym (append-nil s.actions), s.steps, s.noted, inl (refl, keep, refl, quiet));
  })
  round_ends p q r at time is_full share last reported so_far reports s within e all (inr (place, slot, g, one, noted)) =
      let more : List HostAction = Closes place slot.connection time.second Large ∷ [] in
      let none : sendings_in s.actions ≡ sendings_in (s.actions ++ more) = let a = sendings_in_append s.actions more in let f : sendings_in more ≡ 0 = refl in omega (arith, a, f) in
      record {
        actions = s.actions ++ more;
        steps = goes_on s.steps (leaves g);
        once = λ other. let e = answers_append other s.actions more in let f : answers_at other more ≡ 0 = refl in let o = s.once other in omega (arith, e, f, o);
        waits = λ full other some.
            let a = pieces_append other s.actions more in let f : pieces_at other more ≡ 0 = refl in
            let o = s.waits (e ∙ lt-ltb p.limits.unfinished_bytes (unfinished_in p.slots) full) other some in omega (arith, a, f, o);
        sends_once = λ other. let a = ap (λ (l : List SentOn). length l) (sendings_after other s.actions more refl) in let o = s.sends_once other in omega (arith, a, o);
        sends_few = subst (λ (n : ℕ). n ≤ most_sent) none (sent_few share at (sendings_in s.actions) s.shares);
        goes_by = subst (λ (n : ℕ). IsNextPlace (length p.slots) share.first share.next n) none (shares_end share (length p.slots) at (sendings_in s.actions) s.shares within);
        served = λ other. subst (λ (b : Bool). IsServedAt condition unread taken held size causes p r b (is_turn share.first share.next other) (s.actions ++ more) other (slot_at other p.slots)) e
            (at_after condition unread taken held size causes p q r is_full (is_turn share.first share.next other) s.actions more other (slot_at other p.slots) s.steps (goes_on begins (leaves g)) (λ who sits. elim (cases_eq other place) [
              | inl is ↦ inr (subst (λ (n : ℕ). IsClosed condition unread taken held q r more n who) (sym is)
                  (closed_there condition unread taken held size causes q r place time.second Large slot who g (subst (λ (n : ℕ). slot_at n q.slots ≡ Some who) is sits)))
              | inr ne ↦ inl (ap (λ (l : List (Option (Slot R K S))). slot_at other l) g.gone ∙ get_or-set_other q.slots place other None None ne ∙ sits)
            ]) refl refl refl (all_served p q at time is_full share reported so_far s all other));
        in_time = in_time_append time s.actions more s.in_time (refl, tt);
        noted = noted_on reported so_far reports s.actions more s.noted noted;
        evicts = (q, s.actions, more, so_far, refl, s.steps, s.noted, inr (place, slot, g, refl, noted));
      }

  -- in its turn a content goes on
  pub one_step : (p q : Position A R K S) (actions : List HostAction) (is_full may_send : Bool) (before after : Slot R K S) (answered read : ℕ) (sent : List SentOn) → may_send ≡ true
      → IsServed condition unread taken held size causes p q actions is_full may_send before after answered read sent to.Send → length sent ≡ 1
  one_step p q actions is_full may_send before after answered read sent turn (inl (may, s)) = let one : length (s.0 ∷ []) ≡ 1 = refl in ap (λ (l : List SentOn). length l) s.1 ∙ one
  one_step p q actions is_full may_send before after answered read sent turn (inr (none, unsent, off, phase)) = absurd (let bad : true ≡ false = sym turn ∙ none in cc)

  pub goes_on_in_turn : (p q : Position A R K S) (first next : ℕ) (time : Time) (reported reports : Option (List Note)) (g : GoesRound condition unread taken held size causes p q first next time reported reports) (place : ℕ) (slot : Slot R K S)
      → slot_at place p.slots ≡ Some slot → is_sending slot.state.phase ≡ true → is_turn first next place ≡ true
      → (length (sendings_at place g.actions) ≡ 1) ⊎ ((0 < owed_count size slot.wire) × WasAwaited condition unread taken held size causes p q g.actions slot.connection false)
  goes_on_in_turn p q first next time reported reports g place slot sat sending turn =
      let is_full = nat_lt p.limits.unfinished_bytes (unfinished_in p.slots) in
      let t : IsTurned condition unread taken held size causes p q is_full (is_turn first next place) g.actions place slot =
      subst (λ (x : Option (Slot R K S)). IsServedAt condition unread taken held size causes p q is_full (is_turn first next place) g.actions place x) sat (g.served place) in
      elim (sent_unless t.is_awaited (nat_lt 0 (owed_count size slot.wire)) slot.state.is_writable) [
        | inl send ↦ inl (one_step p q g.actions is_full (is_turn first next place) slot t.after (answers_at place g.actions) (pieces_at place g.actions) (sendings_at place g.actions) turn
            (subst (λ (d : NextAction). IsServed condition unread taken held size causes p q g.actions is_full (is_turn first next place) slot t.after (answers_at place g.actions) (pieces_at place g.actions) (sendings_at place g.actions) d)
            (sending_action slot.state.phase (is_some p.shut) t.is_awaited (nat_lt 0 (owed_count size slot.wire)) slot.state.is_readable slot.state.is_writable sending ∙ send) t.served))
        | inr none ↦ inr (ltb-true 0 (owed_count size slot.wire) none.1, subst (λ (b : Bool). WasAwaited condition unread taken held size causes p q g.actions slot.connection b) none.0 t.asked)
      ]
