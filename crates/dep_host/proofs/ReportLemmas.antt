-- What the wires of a host take is what is sent for their connections.
use Rattle.std.proofs.Common.{◌≡◌, ◌⊎◌, inl, inr, ◌<◌, ◌≤◌, ◌==◌, ℕ, Bool, if◌then◌else◌, List, [], ◌∷◌, ◌++◌, Option, None, Some, refl, sym, ap, subst, ◌∙◌, length, set, arith}
use Rattle.std.proofs.lemmas.List.{append-nil, get_or-set_same, get_or-set_other}
use Rattle.std.proofs.lemmas.Bool.{cases_eq, eq-eqb, ne_eqb}
use Rattle.std.specs.Io.KnownBytes.{Appends, Keeps, IsAtEnd, prepend_known}
use Rattle.dep_types.specs.Conditions.{Condition}
use Rattle.dep_slot.specs.declared.slot.Slot.{Slot}
use Rattle.dep_outbox.specs.Wires.{front_of, joined_bytes, reported}
use Rattle.dep_host.specs.Runs.{IsClosedByNone}
use Rattle.dep_host.specs.Actions.{Position, slot_at, HostAction, sent_by_action, replies_to, AreShown, Opens, Takes, Replies, Sends, Declines, Closes}
use Rattle.dep_host.specs.Hosting.{HostStep, refused, asks, comes, rests, offers, delays, sends, refuses, answers, leaves, GivesTurn, Steps, begins, goes_on}
use Rattle.std.proofs.lemmas.Grind.{flat_map-append}

abbrev or_else : {X : Type 0} → X → Option X → X
or_else d None = d
or_else d (Some x) = x

pub some_same : {X : Type 0} (a b : X) → Some a ≡ Some b → a ≡ b
some_same a b e = ap (or_else a) e

pub no_some : {X : Type 0} (a : X) → None ≡ Some a → ⊥
no_some a e = absurd (cc)

replies_append : (n : ℕ) (xs ys : List HostAction) → replies_to n (xs ++ ys) ≡ replies_to n xs ++ replies_to n ys
replies_append n xs ys = flat_map-append (λ d. sent_by_action n d) xs ys

-- what is sent to a connection goes to no other
sent_here : (n : ℕ) (sent : List ℕ) → (if n == n then sent else []) ++ [] ≡ sent
sent_here n sent = append-nil (if n == n then sent else []) ∙ ap (λ (b : Bool). if b then sent else []) (eq-eqb n n refl)

sent_elsewhere : (n m : ℕ) (sent : List ℕ) → (n ≡ m → ⊥) → (if n == m then sent else []) ++ [] ≡ []
sent_elsewhere n m sent ne = append-nil (if n == m then sent else []) ∙ ap (λ (b : Bool). if b then sent else []) (ne_eqb n m ne)

-- who is at a place once another was filled or left
pub slot_set : {X : Type 0} (slots : List (Option X)) (i j : ℕ) (x : Option X) (y : X) → i < length slots → slot_at j (set slots i x) ≡ Some y
    → ((j ≡ i) × (x ≡ Some y)) ⊎ ((j ≡ i → ⊥) × (slot_at j slots ≡ Some y))
slot_set slots i j x y there h = elim (cases_eq j i) [
  | inl e ↦ inl (e, sym (get_or-set_same slots i x None there) ∙ (subst (λ (k : ℕ). slot_at k (set slots i x) ≡ Some y) e h))
  | inr ne ↦ inr (ne, sym (get_or-set_other slots i j x None ne) ∙ h)
]

pub reported_keeps : (a b : Option (List ℕ)) (xs : List ℕ) → Keeps a b → AreShown b → a ≡ Some xs → b ≡ Some xs
reported_keeps None b xs k t e = absurd (no_some xs e)
reported_keeps (Some x) None xs k t e = absurd k
reported_keeps (Some x) (Some y) xs k t e = ap Some k ∙ e

reported_appends : (a b : Option (List ℕ)) (xs sent : List ℕ) → Appends a b sent → a ≡ Some xs → b ≡ Some (xs ++ sent)
reported_appends None b xs sent k e = absurd (no_some xs e)
reported_appends (Some x) None xs sent k e = absurd k
reported_appends (Some x) (Some y) xs sent k e = ap Some (k ∙ ap (λ l. l ++ sent) (some_same x xs e))

reported_at_end : (a : Option (List ℕ)) → IsAtEnd a → AreShown a → a ≡ Some []
reported_at_end None e t = absurd t
reported_at_end (Some x) e t = ap Some e

reports_joined : (a h : Option (List ℕ)) (f : List ℕ) → AreShown a → AreShown h → AreShown (joined_bytes a (prepend_known f h))
reports_joined None h f t u = absurd t
reports_joined (Some x) None f t u = absurd u
reports_joined (Some x) (Some y) f t u = tt

open_append : (n : ℕ) (xs ys : List HostAction) → IsClosedByNone n xs → IsClosedByNone n ys → IsClosedByNone n (xs ++ ys)
open_append n [] ys h k = k
open_append n (d ∷ xs) ys h k = (h.0, open_append n xs ys h.1 k)

module _ {A R K S : Type 0} (condition : A → Condition) (unread : R → Option (List ℕ)) (taken : K → Option (List ℕ)) (held : S → Option (List ℕ)) where
  -- all sockets and spools tell their bytes
  abbrev pub AllReport : Type 0
  AllReport = ((sink : K) → AreShown (taken sink)) × ((spool : S) → AreShown (held spool))

  pub reports_of : AllReport → (slot : Slot R K S) → AreShown (reported taken held slot.wire)
  reports_of all slot = reports_joined (taken slot.wire.sink) (held slot.wire.backlog.spool) (front_of slot.wire.backlog) (all.0 slot.wire.sink) (all.1 slot.wire.backlog.spool)

  pub record Tidy (q : Position A R K S) (rs : List HostAction) : Type 0 where
    pub reporting : AllReport → (at : ℕ) (slot : Slot R K S) → slot_at at q.slots ≡ Some slot → reported taken held slot.wire ≡ Some (replies_to slot.connection rs)
    pub below : (at : ℕ) (slot : Slot R K S) → slot_at at q.slots ≡ Some slot → slot.connection < q.hub.next
    pub apart : (a b : ℕ) (s t : Slot R K S) → slot_at a q.slots ≡ Some s → slot_at b q.slots ≡ Some t → s.connection ≡ t.connection → a ≡ b
    pub unused : (n : ℕ) → q.hub.next ≤ n → replies_to n rs ≡ []
    pub stays : (at : ℕ) (slot : Slot R K S) → slot_at at q.slots ≡ Some slot → IsClosedByNone slot.connection rs
    pub unclosed : (n : ℕ) → q.hub.next ≤ n → IsClosedByNone n rs

  -- what a step leaves of a slot that it puts somewhere
  record Put (p q : Position A R K S) (rs more : List HostAction) (at : ℕ) (s : Slot R K S) : Type 0 where
    reports_it : AllReport → reported taken held s.wire ≡ Some (replies_to s.connection (rs ++ more))
    is_below : s.connection < q.hub.next
    is_apart : (j : ℕ) (t : Slot R K S) → (j ≡ at → ⊥) → slot_at j p.slots ≡ Some t → s.connection ≡ t.connection → ⊥
    stays_open : IsClosedByNone s.connection (rs ++ more)

  -- actions that are of no connection of this number
  abbrev AreOfOthers : ℕ → List HostAction → Type 0
  AreOfOthers n more = (replies_to n more ≡ []) × IsClosedByNone n more

  tidy_set : (p q : Position A R K S) (rs more : List HostAction) (at : ℕ) (x : Option (Slot R K S)) → Tidy p rs → at < length p.slots → q.slots ≡ set p.slots at x
      → p.hub.next ≤ q.hub.next → ((s : Slot R K S) → x ≡ Some s → Put p q rs more at s)
      → ((j : ℕ) (t : Slot R K S) → (j ≡ at → ⊥) → slot_at j p.slots ≡ Some t → AreOfOthers t.connection more)
      → ((n : ℕ) → q.hub.next ≤ n → AreOfOthers n more) → Tidy q (rs ++ more)
  tidy_set p q rs more at x tidy there sits later put others none =
      let where_ : (j : ℕ) (t : Slot R K S) → slot_at j q.slots ≡ Some t → ((j ≡ at) × (x ≡ Some t)) ⊎ ((j ≡ at → ⊥) × (slot_at j p.slots ≡ Some t)) =
      λ j t h. slot_set p.slots at j x t there (subst (λ (l : List (Option (Slot R K S))). slot_at j l ≡ Some t) sits h) in
      record {
        reporting = λ all j t h. elim (where_ j t h) [
          | inl e ↦ (put t e.1).reports_it all
          | inr o ↦ tidy.reporting all j t o.1 ∙ ap Some (sym (replies_append t.connection rs more ∙ (ap (λ l. replies_to t.connection rs ++ l) (others j t o.0 o.1).0 ∙ append-nil (replies_to t.connection rs))))
        ];
        below = λ j t h. elim (where_ j t h) [
          | inl e ↦ (put t e.1).is_below
          | inr o ↦ let lower = tidy.below j t o.1 in omega (arith, lower, later)
        ];
        apart = λ a b s t h k same. elim (where_ a s h) [
          | inl e ↦ elim (where_ b t k) [
            | inl f ↦ e.0 ∙ sym f.0
            | inr o ↦ absurd ((put s e.1).is_apart b t o.0 o.1 same)
          ]
          | inr o ↦ elim (where_ b t k) [
            | inl f ↦ absurd ((put t f.1).is_apart a s o.0 o.1 (sym same))
            | inr r ↦ tidy.apart a b s t o.1 r.1 same
          ]
        ];
        unused = λ n h. replies_append n rs more ∙ (ap (λ l. l ++ replies_to n more) (tidy.unused n (omega (arith, h, later))) ∙ (none n h).0);
        stays = λ j t h. elim (where_ j t h) [
          | inl e ↦ (put t e.1).stays_open
          | inr o ↦ open_append t.connection rs more (tidy.stays j t o.1) (others j t o.0 o.1).1
        ];
        unclosed = λ n h. open_append n rs more (tidy.unclosed n (omega (arith, h, later))) (none n h).1;
      }

  put_there : (p q : Position A R K S) (rs more : List HostAction) (at : ℕ) (s t : Slot R K S) → Put p q rs more at s → Some s ≡ Some t → Put p q rs more at t
  put_there p q rs more at s t put e = subst (λ (u : Slot R K S). Put p q rs more at u) (some_same s t e) put

  put_kept : (p q : Position A R K S) (rs more : List HostAction) (at : ℕ) (before after : Slot R K S) → Tidy p rs → slot_at at p.slots ≡ Some before
      → after.connection ≡ before.connection → p.hub.next ≤ q.hub.next → IsClosedByNone before.connection more
      → (AllReport → reported taken held after.wire ≡ Some (replies_to before.connection rs ++ replies_to before.connection more)) → Put p q rs more at after
  put_kept p q rs more at before after tidy sat same later unclosing says = record {
    reports_it = λ all. says all ∙ (ap Some (sym (replies_append before.connection rs more)) ∙ ap (λ (n : ℕ). Some (replies_to n (rs ++ more))) (sym same));
    is_below = let lower = tidy.below at before sat in omega (arith, same, lower, later);
    is_apart = λ j t ne h e. ne (tidy.apart j at t before h sat (sym e ∙ same));
    stays_open = subst (λ (n : ℕ). IsClosedByNone n (rs ++ more)) (sym same) (open_append before.connection rs more (tidy.stays at before sat) unclosing);
  }

  tidy_same : (p q : Position A R K S) (rs : List HostAction) → q.slots ≡ p.slots → q.hub.next ≡ p.hub.next → Tidy p rs → Tidy q (rs ++ [])
  tidy_same p q rs slots next tidy = subst (λ (l : List HostAction). Tidy q l) (sym (append-nil rs)) (record {
    reporting = λ all j t h. tidy.reporting all j t (subst (λ (l : List (Option (Slot R K S))). slot_at j l ≡ Some t) slots h);
    below = λ j t h. let lower = tidy.below j t (subst (λ (l : List (Option (Slot R K S))). slot_at j l ≡ Some t) slots h) in omega (arith, lower, next);
    apart = λ a b s t h k same. tidy.apart a b s t (subst (λ (l : List (Option (Slot R K S))). slot_at a l ≡ Some s) slots h) (subst (λ (l : List (Option (Slot R K S))). slot_at b l ≡ Some t) slots k) same;
    unused = λ n h. tidy.unused n (omega (arith, h, next));
    stays = λ j t h. tidy.stays j t (subst (λ (l : List (Option (Slot R K S))). slot_at j l ≡ Some t) slots h);
    unclosed = λ n h. tidy.unclosed n (omega (arith, h, next));
  })

  -- a turn in which nothing was sent
  turn_tidy : (p q : Position A R K S) (rs more : List HostAction) (at : ℕ) (before after : Slot R K S) → Tidy p rs → GivesTurn condition unread taken held p q at before after
      → Keeps (reported taken held before.wire) (reported taken held after.wire) → ((n : ℕ) → AreOfOthers n more) → Tidy q (rs ++ more)
  turn_tidy p q rs more at before after tidy t keeps none =
      let later : p.hub.next ≤ q.hub.next = let e = t.hub.next in omega (arith, e) in
      tidy_set p q rs more at (Some after) tidy t.there t.sits later
      (λ s e. put_there p q rs more at after s (put_kept p q rs more at before after tidy t.sat t.client.connection later (none before.connection).1
      (λ all. reported_keeps (reported taken held before.wire) (reported taken held after.wire) (replies_to before.connection rs ++ replies_to before.connection more) keeps (reports_of all after)
      (tidy.reporting all at before t.sat ∙ ap Some (sym (ap (λ (l : List ℕ). replies_to before.connection rs ++ l) (none before.connection).0 ∙ append-nil (replies_to before.connection rs)))))) e)
      (λ j u ne h. none u.connection) (λ n h. none n)

  -- and one in which something was sent for it
  sent_tidy : (p q : Position A R K S) (rs : List HostAction) (one : HostAction) (at : ℕ) (before after : Slot R K S) (sent : List ℕ) → Tidy p rs → GivesTurn condition unread taken held p q at before after
      → Appends (reported taken held before.wire) (reported taken held after.wire) sent → ((n : ℕ) → sent_by_action n one ≡ (if before.connection == n then sent else []))
      → ((n : ℕ) → IsClosedByNone n (one ∷ [])) → Tidy q (rs ++ one ∷ [])
  sent_tidy p q rs one at before after sent tidy t appends reported_so unclosing =
      let later : p.hub.next ≤ q.hub.next = let e = t.hub.next in omega (arith, e) in
      let here : replies_to before.connection (one ∷ []) ≡ sent = ap (λ (l : List ℕ). l ++ []) (reported_so before.connection) ∙ sent_here before.connection sent in
      tidy_set p q rs (one ∷ []) at (Some after) tidy t.there t.sits later
      (λ s e. put_there p q rs (one ∷ []) at after s (put_kept p q rs (one ∷ []) at before after tidy t.sat t.client.connection later (unclosing before.connection)
      (λ all. reported_appends (reported taken held before.wire) (reported taken held after.wire) (replies_to before.connection rs) sent appends (tidy.reporting all at before t.sat)
      ∙ ap (λ (l : List ℕ). Some (replies_to before.connection rs ++ l)) (sym here))) e)
      (λ j u ne h. (ap (λ (l : List ℕ). l ++ []) (reported_so u.connection) ∙ sent_elsewhere before.connection u.connection sent (λ same. ne (tidy.apart j at u before h t.sat (sym same))), unclosing u.connection))
      (λ n h. (ap (λ (l : List ℕ). l ++ []) (reported_so n) ∙ sent_elsewhere before.connection n sent (λ same. let lower = tidy.below at before t.sat in let e = t.hub.next in omega (arith, lower, h, same, e)), unclosing n))

  step_tidy : {p q : Position A R K S} {rs more : List HostAction} → Tidy p rs → HostStep condition unread taken held p q more → Tidy q (rs ++ more)
  step_tidy {p = p} {q = q} {rs = rs} tidy (refused r) = tidy_same p q rs r.sits r.next tidy
  step_tidy {p = p} {q = q} {rs = rs} tidy (asks r) = tidy_same p q rs r.sits r.hub.next tidy
  step_tidy {p = p} {q = q} {rs = rs} tidy (comes {at = at} {slot = slot} r) =
      let more : List HostAction = Opens at slot.connection (unread slot.source) ∷ [] in
      let later : p.hub.next ≤ q.hub.next = let e = r.next in omega (arith, e) in
      let first : p.hub.next ≤ slot.connection = let e = r.is_next in omega (arith, e) in
      tidy_set p q rs more at (Some slot) tidy r.there r.sits later
      (λ s e. put_there p q rs more at slot s (record {
        reports_it = λ all. reported_at_end (reported taken held slot.wire) r.fresh (reports_of all slot)
            ∙ ap Some (sym (replies_append slot.connection rs more ∙ (append-nil (replies_to slot.connection rs) ∙ tidy.unused slot.connection first)));
        is_below = let e = r.is_next in let f = r.next in omega (arith, e, f);
        is_apart = λ j t ne h same. let lower = tidy.below j t h in let e = r.is_next in omega (arith, lower, e, same);
        stays_open = open_append slot.connection rs more (tidy.unclosed slot.connection first) (tt, tt);
      }) e)
      (λ j t ne h. (refl, (tt, tt))) (λ n h. (refl, (tt, tt)))
  step_tidy {p = p} {q = q} {rs = rs} tidy (rests {at = at} {before = before} {after = after} t r) = turn_tidy p q rs [] at before after tidy t r.keeps (λ n. (refl, tt))
  step_tidy {p = p} {q = q} {rs = rs} tidy (offers {at = at} {before = before} {after = after} t o) =
      turn_tidy p q rs (Takes at before.connection o.piece ∷ []) at before after tidy t o.keeps (λ n. (refl, (tt, tt)))
  step_tidy {p = p} {q = q} {rs = rs} tidy (refuses {at = at} {moment = moment} {before = before} {after = after} t r) =
      sent_tidy p q rs (Declines at before.connection r.piece moment r.answers.sent) at before after r.answers.sent tidy t r.answers.appends (λ n. refl) (λ n. (tt, tt))
  step_tidy {p = p} {q = q} {rs = rs} tidy (answers {at = at} {moment = moment} {before = before} {after = after} t a) =
      sent_tidy p q rs (Replies at before.connection moment a.now a.answers.sent) at before after a.now tidy t a.appends (λ n. refl) (λ n. (tt, tt))
  step_tidy {p = p} {q = q} {rs = rs} tidy (delays {at = at} {before = before} {after = after} t d) = turn_tidy p q rs [] at before after tidy t d.keeps.sends_nothing (λ n. (refl, tt))
  step_tidy {p = p} {q = q} {rs = rs} tidy (sends {at = at} {before = before} {after = after} t s) =
      sent_tidy p q rs (Sends at before.connection s.sends.sent s.answer) at before after s.sends.sent tidy t s.sends.appends (λ n. refl) (λ n. (tt, tt))
  step_tidy {p = p} {q = q} {rs = rs} tidy (leaves {at = at} {second = second} {reason = reason} {slot = slot} r) =
      let later : p.hub.next ≤ q.hub.next = let e = r.next in omega (arith, e) in
      tidy_set p q rs (Closes at slot.connection second reason ∷ []) at None tidy r.there r.gone later
      (λ s e. absurd (no_some s e))
      (λ j t ne h. (refl, ((λ same. ne (tidy.apart j at t slot h r.sat same)), tt)))
      (λ n h. (refl, ((λ same. let lower = tidy.below at slot r.sat in omega (arith, lower, h, same, later)), tt)))

  tidy_first : (p : Position A R K S) → ((at : ℕ) → slot_at at p.slots ≡ None) → Tidy p []
  tidy_first p empty = record {
    reporting = λ all j t h. absurd (no_some t (sym (empty j) ∙ h));
    below = λ j t h. absurd (no_some t (sym (empty j) ∙ h));
    apart = λ a b s t h k same. absurd (no_some s (sym (empty a) ∙ h));
    unused = λ n h. refl;
    stays = λ j t h. absurd (no_some t (sym (empty j) ∙ h));
    unclosed = λ n h. tt;
  }

  pub steps_tidy : {p q : Position A R K S} {rs : List HostAction} → ((at : ℕ) → slot_at at p.slots ≡ None) → Steps condition unread taken held p rs q → Tidy q rs
  steps_tidy {p = p} empty begins = tidy_first p empty
  steps_tidy empty (goes_on s t) = step_tidy (steps_tidy empty s) t

  -- what each wire took is what was sent for its connection
  pub wires_take : (p q : Position A R K S) (rs : List HostAction) → ((sink : K) → AreShown (taken sink)) → ((spool : S) → AreShown (held spool)) → ((at : ℕ) → slot_at at p.slots ≡ None)
      → Steps condition unread taken held p rs q → (at : ℕ) (slot : Slot R K S) → slot_at at q.slots ≡ Some slot → reported taken held slot.wire ≡ Some (replies_to slot.connection rs)
  wires_take p q rs reports holds empty s at slot h = (steps_tidy empty s).reporting (reports, holds) at slot h

  -- who is somewhere was never closed, and no other is there under its number
  pub slots_stay : (p q : Position A R K S) (rs : List HostAction) → ((at : ℕ) → slot_at at p.slots ≡ None)
      → Steps condition unread taken held p rs q → (at : ℕ) (slot : Slot R K S) → slot_at at q.slots ≡ Some slot → IsClosedByNone slot.connection rs
  slots_stay p q rs empty s at slot h = (steps_tidy empty s).stays at slot h

  pub slots_apart : (p q : Position A R K S) (rs : List HostAction) → ((at : ℕ) → slot_at at p.slots ≡ None)
      → Steps condition unread taken held p rs q → (a b : ℕ) (s t : Slot R K S) → slot_at a q.slots ≡ Some s → slot_at b q.slots ≡ Some t → s.connection ≡ t.connection → a ≡ b
  slots_apart p q rs empty s a b x y h k same = (steps_tidy empty s).apart a b x y h k same
