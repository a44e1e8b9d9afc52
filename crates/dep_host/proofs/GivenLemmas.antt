-- What is read of a connection is what its client gave.
use Rattle.std.proofs.Common.{◌≡◌, inl, inr, ◌<◌, ◌≤◌, ◌==◌, ℕ, Bool, true, false, if◌then◌else◌, List, [], ◌∷◌, ◌++◌, Option, None, Some, refl, sym, ap, subst, ◌∙◌, append_assoc, length, set, arith}
use Rattle.std.proofs.lemmas.List.{append-nil}
use Rattle.std.proofs.lemmas.Bool.{eq-eqb, ne_eqb}
use Rattle.std.proofs.KnownBytes.{Keeps-refl}
use Rattle.std.specs.Io.KnownBytes.{Keeps, Consumes}
use Rattle.dep_types.specs.Conditions.{Condition}
use Rattle.dep_slot.specs.declared.slot.Slot.{Slot}
use Rattle.dep_slot.specs.ConnectionStates.{is_ended}
use Rattle.dep_host.specs.Actions.{Position, slot_at, HostAction, AreShown, Opens, Takes, Replies, Sends, Declines, Closes}
use Rattle.dep_host.specs.Hosting.{HostStep, refused, asks, comes, rests, offers, delays, sends, refuses, answers, leaves, GivesTurn, Steps, begins, goes_on}
use Rattle.dep_host.specs.Runs.{read_by, read_of, given_by, given_of, ReadsItsSource}
use Rattle.dep_host.proofs.ReadLemmas.{read_append}
use Rattle.dep_host.proofs.ReportLemmas.{Tidy, steps_tidy, slot_set, some_same, no_some, reported_keeps}
use Rattle.std.proofs.lemmas.Grind.{flat_map-append}

given_append : (n : ℕ) (xs ys : List HostAction) → given_of n (xs ++ ys) ≡ given_of n xs ++ given_of n ys
given_append n xs ys = flat_map-append (λ d. given_by n d) xs ys

-- a source had the bytes that it gave and, behind them, what it has left
consumed : (a b : Option (List ℕ)) (rest piece : List ℕ) → Consumes a b piece → AreShown b → a ≡ Some rest → (after : List ℕ) × ((b ≡ Some after) × (rest ≡ piece ++ after))
consumed None b rest piece c t e = absurd (no_some rest e)
consumed (Some x) None rest piece c t e = absurd t
consumed (Some x) (Some y) rest piece c t e = (y, (refl, sym (some_same x rest e) ∙ c))

reports_some : (a : Option (List ℕ)) → AreShown a → (bytes : List ℕ) × (a ≡ Some bytes)
reports_some None t = absurd t
reports_some (Some x) t = (x, refl)

not_ended : (before after : Bool) → (before ≡ true → after ≡ true) → after ≡ false → before ≡ false
not_ended false after h e = refl
not_ended true after h e = absurd (let bad : true ≡ false = sym (h refl) ∙ e in cc)

-- nothing was given or read of a connection in these actions
abbrev IsOfOthers : ℕ → List HostAction → Type 0
IsOfOthers n more = (given_of n more ≡ []) × (read_of n more ≡ [])

same_given : (n : ℕ) (actions more : List HostAction) → given_of n more ≡ [] → given_of n (actions ++ more) ≡ given_of n actions
same_given n actions more e = given_append n actions more ∙ (ap (λ l. given_of n actions ++ l) e ∙ append-nil (given_of n actions))

same_read : (n : ℕ) (actions more : List HostAction) → read_of n more ≡ [] → read_of n (actions ++ more) ≡ read_of n actions
same_read n actions more e = read_append n actions more ∙ (ap (λ l. read_of n actions ++ l) e ∙ append-nil (read_of n actions))

module _ {A R K S : Type 0} (condition : A → Condition) (unread : R → Option (List ℕ)) (taken : K → Option (List ℕ)) (held : S → Option (List ℕ)) (gives : (r : R) → AreShown (unread r)) where
  record Given (q : Position A R K S) (actions : List HostAction) : Type 0 where
    given : (at : ℕ) (slot : Slot R K S) → slot_at at q.slots ≡ Some slot → ReadsItsSource unread actions slot
    unopened : (n : ℕ) → q.hub.next ≤ n → IsOfOthers n actions

  given_on : (slot : Slot R K S) (actions more : List HostAction) → ReadsItsSource unread actions slot → IsOfOthers slot.connection more → ReadsItsSource unread (actions ++ more) slot
  given_on slot actions more g none = record {
    rest = g.rest;
    whole = same_given slot.connection actions more none.0 ∙ (g.whole ∙ ap (λ (l : List ℕ). Some (l ++ g.rest) ∷ []) (sym (same_read slot.connection actions more none.1)));
    left = g.left;
  }

  -- one place changes
  given_set : (p q : Position A R K S) (actions more : List HostAction) (at : ℕ) (x : Option (Slot R K S)) → Given p actions
      → at < length p.slots → q.slots ≡ set p.slots at x → p.hub.next ≤ q.hub.next
      → ((s : Slot R K S) → x ≡ Some s → ReadsItsSource unread (actions ++ more) s)
      → ((j : ℕ) (t : Slot R K S) → (j ≡ at → ⊥) → slot_at j p.slots ≡ Some t → IsOfOthers t.connection more)
      → ((n : ℕ) → q.hub.next ≤ n → IsOfOthers n more) → Given q (actions ++ more)
  given_set p q actions more at x g there sits later put others none = record {
    given = λ j t h. elim (slot_set p.slots at j x t there (subst (λ (l : List (Option (Slot R K S))). slot_at j l ≡ Some t) sits h)) [
      | inl e ↦ put t e.1
      | inr o ↦ given_on t actions more (g.given j t o.1) (others j t o.0 o.1)
    ];
    unopened = λ n h. let r = none n h in let u = g.unopened n (omega (arith, h, later)) in (same_given n actions more r.0 ∙ u.0, same_read n actions more r.1 ∙ u.1);
  }

  -- no place changes
  given_same : (p q : Position A R K S) (actions : List HostAction) → q.slots ≡ p.slots → q.hub.next ≡ p.hub.next → Given p actions → Given q (actions ++ [])
  given_same p q actions slots next g = record {
    given = λ j t h. given_on t actions [] (g.given j t (subst (λ (l : List (Option (Slot R K S))). slot_at j l ≡ Some t) slots h)) (refl, refl);
    unopened = λ n h. let u = g.unopened n (omega (arith, h, next)) in (same_given n actions [] refl ∙ u.0, same_read n actions [] refl ∙ u.1);
  }

  -- a turn in which nothing was read
  given_turn : (p q : Position A R K S) (actions more : List HostAction) (at : ℕ) (before after : Slot R K S) → Given p actions
      → GivesTurn condition unread taken held p q at before after → ((n : ℕ) → IsOfOthers n more)
      → (is_ended after.state.phase ≡ false → Keeps (unread before.source) (unread after.source)) → Given q (actions ++ more)
  given_turn p q actions more at before after g t none keeps =
      let later : p.hub.next ≤ q.hub.next = let e = t.hub.next in omega (arith, e) in
      let was = given_on before actions more (g.given at before t.sat) (none before.connection) in
      let now : ReadsItsSource unread (actions ++ more) after = record {
        rest = was.rest;
        whole = subst (λ (n : ℕ). given_of n (actions ++ more) ≡ Some (read_of n (actions ++ more) ++ was.rest) ∷ []) (sym t.client.connection) was.whole;
        left = λ h. reported_keeps (unread before.source) (unread after.source) was.rest (keeps h) (gives after.source) (was.left (not_ended (is_ended before.state.phase) (is_ended after.state.phase) t.ended h));
      } in
      given_set p q actions more at (Some after) g t.there t.sits later
      (λ s e. subst (λ (u : Slot R K S). ReadsItsSource unread (actions ++ more) u) (some_same after s e) now)
      (λ j u ne h. none u.connection) (λ n h. none n)

  -- and one in which a piece was
  given_piece : (p q : Position A R K S) (actions : List HostAction) (one : HostAction) (at : ℕ) (before after : Slot R K S) (piece : List ℕ) → Tidy condition unread taken held p actions
      → Given p actions → GivesTurn condition unread taken held p q at before after → ((n : ℕ) → given_by n one ≡ []) → ((n : ℕ) → read_by n one ≡ (if n == before.connection then piece else []))
      → is_ended before.state.phase ≡ false → Consumes (unread before.source) (unread after.source) piece → Given q (actions ++ one ∷ [])
  given_piece p q actions one at before after piece tidy g t none read was_open consumes =
      let later : p.hub.next ≤ q.hub.next = let e = t.hub.next in omega (arith, e) in
      let was = g.given at before t.sat in
      let takes = consumed (unread before.source) (unread after.source) was.rest piece consumes (gives after.source) (was.left was_open) in
      let unopened : (n : ℕ) → given_of n (one ∷ []) ≡ [] = λ n. append-nil (given_by n one) ∙ none n in
      let here : read_of before.connection (one ∷ []) ≡ piece =
      append-nil (read_by before.connection one) ∙ (read before.connection ∙ ap (λ (b : Bool). if b then piece else []) (eq-eqb before.connection before.connection refl)) in
      let elsewhere : (n : ℕ) → (n ≡ before.connection → ⊥) → read_of n (one ∷ []) ≡ [] =
      λ n ne. append-nil (read_by n one) ∙ (read n ∙ ap (λ (b : Bool). if b then piece else []) (ne_eqb n before.connection ne)) in
      let reads : read_of before.connection (actions ++ one ∷ []) ≡ read_of before.connection actions ++ piece =
      read_append before.connection actions (one ∷ []) ∙ ap (λ l. read_of before.connection actions ++ l) here in
      let whole : given_of before.connection (actions ++ one ∷ []) ≡ Some (read_of before.connection (actions ++ one ∷ []) ++ takes.0) ∷ [] =
      same_given before.connection actions (one ∷ []) (unopened before.connection) ∙ (was.whole ∙ ap (λ (l : List ℕ). Some l ∷ []) (ap (λ l. read_of before.connection actions ++ l) takes.1.1
      ∙ (sym (append_assoc (read_of before.connection actions) piece takes.0) ∙ ap (λ l. l ++ takes.0) (sym reads)))) in
      let now : ReadsItsSource unread (actions ++ one ∷ []) after = record {
        rest = takes.0;
        whole = subst (λ (n : ℕ). given_of n (actions ++ one ∷ []) ≡ Some (read_of n (actions ++ one ∷ []) ++ takes.0) ∷ []) (sym t.client.connection) whole;
        left = λ h. takes.1.0;
      } in
      given_set p q actions (one ∷ []) at (Some after) g t.there t.sits later
      (λ s e. subst (λ (u : Slot R K S). ReadsItsSource unread (actions ++ one ∷ []) u) (some_same after s e) now)
      (λ j u ne h. (unopened u.connection, elsewhere u.connection (λ e. ne (tidy.apart j at u before h t.sat e))))
      (λ n h. (unopened n, elsewhere n (λ e. let lower = tidy.below at before t.sat in omega (arith, lower, h, e, later))))

  same_source : (before after : Slot R K S) → after.source ≡ before.source → Keeps (unread before.source) (unread after.source)
  same_source before after same = subst (λ (s : R). Keeps (unread before.source) (unread s)) (sym same) (Keeps-refl (unread before.source))

  step_given : {p q : Position A R K S} {actions more : List HostAction} → Tidy condition unread taken held p actions → Given p actions
      → HostStep condition unread taken held p q more → Given q (actions ++ more)
  step_given {p = p} {q = q} {actions = actions} tidy g (refused r) = given_same p q actions r.sits r.next g
  step_given {p = p} {q = q} {actions = actions} tidy g (asks r) = given_same p q actions r.sits r.hub.next g
  step_given {p = p} {q = q} {actions = actions} tidy g (comes {at = at} {slot = slot} r) =
      let later : p.hub.next ≤ q.hub.next = let e = r.next in omega (arith, e) in
      let first : p.hub.next ≤ slot.connection = let e = r.is_next in omega (arith, e) in
      let u = g.unopened slot.connection first in
      let bytes = reports_some (unread slot.source) (gives slot.source) in
      let one : HostAction = Opens at slot.connection (unread slot.source) in
      let here : given_of slot.connection (one ∷ []) ≡ Some bytes.0 ∷ [] = append-nil (given_by slot.connection one)
      ∙ (ap (λ (b : Bool). if b then unread slot.source ∷ [] else []) (eq-eqb slot.connection slot.connection refl) ∙ ap (λ (o : Option (List ℕ)). o ∷ []) bytes.1) in
      let elsewhere : (n : ℕ) → (n ≡ slot.connection → ⊥) → IsOfOthers n (one ∷ []) =
      λ n ne. (append-nil (given_by n one) ∙ ap (λ (b : Bool). if b then unread slot.source ∷ [] else []) (ne_eqb n slot.connection ne), refl) in
      let now : ReadsItsSource unread (actions ++ one ∷ []) slot = record {
        rest = bytes.0;
        whole = given_append slot.connection actions (one ∷ []) ∙ (ap (λ (l : List (Option (List ℕ))). l ++ given_of slot.connection (one ∷ [])) u.0 ∙ (here
            ∙ ap (λ (l : List ℕ). Some (l ++ bytes.0) ∷ []) (sym (same_read slot.connection actions (one ∷ []) refl ∙ u.1))));
        left = λ h. bytes.1;
      } in
      given_set p q actions (one ∷ []) at (Some slot) g r.there r.sits later
      (λ s e. subst (λ (v : Slot R K S). ReadsItsSource unread (actions ++ one ∷ []) v) (some_same slot s e) now)
      (λ j t ne h. elsewhere t.connection (λ e. let lower = tidy.below j t h in omega (arith, lower, first, e)))
      (λ n h. elsewhere n (λ e. let f = r.next in let i = r.is_next in omega (arith, h, f, i, e)))
  step_given {p = p} {q = q} {actions = actions} tidy g (rests {at = at} {before = before} {after = after} t r) =
      given_turn p q actions [] at before after g t (λ n. (refl, refl)) r.gives
  step_given {p = p} {q = q} {actions = actions} tidy g (offers {at = at} {before = before} {after = after} t o) =
      given_piece p q actions (Takes at before.connection o.piece) at before after o.piece tidy g t (λ n. refl) (λ n. refl) (ap is_ended o.read.waits) o.read.gives
  step_given {p = p} {q = q} {actions = actions} tidy g (refuses {at = at} {moment = moment} {before = before} {after = after} t r) =
      given_piece p q actions (Declines at before.connection r.piece moment r.answers.sent) at before after r.piece tidy g t (λ n. refl) (λ n. refl) (ap is_ended r.read.waits) r.read.gives
  step_given {p = p} {q = q} {actions = actions} tidy g (answers {at = at} {moment = moment} {before = before} {after = after} t a) =
      given_turn p q actions (Replies at before.connection moment a.now a.answers.sent ∷ []) at before after g t (λ n. (refl, refl))
      (λ h. same_source before after a.same_source)
  step_given {p = p} {q = q} {actions = actions} tidy g (delays {at = at} {before = before} {after = after} t d) =
      given_turn p q actions [] at before after g t (λ n. (refl, refl)) (λ h. same_source before after d.same_source)
  step_given {p = p} {q = q} {actions = actions} tidy g (sends {at = at} {before = before} {after = after} t s) =
      given_turn p q actions (Sends at before.connection s.sends.sent s.answer ∷ []) at before after g t (λ n. (refl, refl))
      (λ h. same_source before after s.same_source)
  step_given {p = p} {q = q} {actions = actions} tidy g (leaves {at = at} {second = second} {reason = reason} {slot = slot} r) =
      let later : p.hub.next ≤ q.hub.next = let e = r.next in omega (arith, e) in
      given_set p q actions (Closes at slot.connection second reason ∷ []) at None g r.there r.gone later
      (λ s e. absurd (no_some s e)) (λ j t ne h. (refl, refl)) (λ n h. (refl, refl))

  steps_given : {p q : Position A R K S} {actions : List HostAction} → ((at : ℕ) → slot_at at p.slots ≡ None) → Steps condition unread taken held p actions q → Given q actions
  steps_given empty begins = record { given = λ j t h. absurd (no_some t (sym (empty j) ∙ h)); unopened = λ n h. (refl, refl) }
  steps_given empty (goes_on s t) = step_given (steps_tidy condition unread taken held empty s) (steps_given empty s) t

  pub reads_given : (p q : Position A R K S) (actions : List HostAction) → ((at : ℕ) → slot_at at p.slots ≡ None) → Steps condition unread taken held p actions q
      → (at : ℕ) (slot : Slot R K S) → slot_at at q.slots ≡ Some slot → ReadsItsSource unread actions slot
  reads_given p q actions empty steps at slot h = (steps_given empty steps).given at slot h
