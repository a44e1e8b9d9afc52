-- While a request waits that takes files, the contents of these go on.
use Rattle.std.proofs.Common.{◌≡◌, inl, inr, ◌≤◌, ◌+◌, ◌==◌, ℕ, Bool, true, false, if◌then◌else◌, List, [], ◌∷◌, ◌++◌, Option, None, Some, refl, sym, ap, subst, ◌∙◌, length, arith}
use Rattle.std.proofs.lemmas.Bool.{and_from, and_parts, cases_eq, eq-eqb, eqb-true, ne_eqb}
use Rattle.std.proofs.lemmas.List.{get_or-set_same, get_or-set_other, length-append}
use Rattle.std.proofs.Math.ListN.{length-set}
use Rattle.dep_types.specs.Conditions.{Condition}
use Rattle.dep_hub.specs.Claims.{has_file, is_content, sends_of}
use Rattle.dep_hub.specs.RepresentsOwing.{KeptBack, unsent, prepares_still, begins_to_prepare, waits_still, begins_to_wait, lacks_memory, behind_at, is_part, is_unsent}
use Rattle.dep_hub.specs.declared.claim.Files.{Files}
use Rattle.dep_hub.specs.declared.claim.Files.TheVariants.{One}
use Rattle.dep_hub.specs.declared.connections.Connection.{Connection}
use Rattle.dep_hub.specs.declared.hub.Hub.{Hub}
use Rattle.dep_hub.specs.declared.rest.Behind.{Behind}
use Rattle.dep_hub.specs.declared.rest.Behind.TheVariants.{Nothing, Content, Broken, Waits, Prepares, Prepared}
use Rattle.dep_hub.specs.declared.sent_on.SentOn.{SentOn}
use Rattle.dep_hub.proofs.PendingLemmas.{sends_content, true_false}
use Rattle.dep_hub.proofs.PreparingLemmas.{ahead_contents, ahead_sends}
use Rattle.dep_slot.specs.declared.connection_state.Phase.{Phase}
use Rattle.dep_slot.specs.declared.connection_state.Phase.TheVariants.{Open, Answering, Over}
use Rattle.dep_slot.specs.ConnectionStates.{SendsStill, is_sending}
use Rattle.dep_slot.specs.declared.slot.Slot.{Slot}
use Rattle.dep_host.specs.Actions.{Position, slot_at, HostAction, sendings_at, Opens, Takes, Replies, Sends, Declines, Closes}
use Rattle.dep_host.specs.Hosting.{HostStep, refused, asks, comes, rests, offers, delays, sends, refuses, answers, leaves, GivesTurn, Steps, begins, goes_on}
use Rattle.dep_host.specs.Runs.{OwesNone, parts_of}
use Rattle.dep_host.proofs.ActionLemmas.{sendings_append, one_sent, none_sent}
use Rattle.dep_host.proofs.OweLemmas.{parts_join}
use Rattle.dep_host.proofs.ReportLemmas.{some_same, no_some}

-- ---- contents

content_unsent : (b : Behind) → is_content b ≡ true → is_unsent b ≡ true
content_unsent (Content r) e = refl
content_unsent Nothing e = e
content_unsent Broken e = refl
content_unsent (Waits claim) e = e
content_unsent (Prepares left) e = e
content_unsent Prepared e = e

same_file : (files : Files) (n f m g : ℕ) → has_file (One n f) m g ≡ true → has_file files m g ≡ has_file files n f
same_file files n f m g e =
    let both = and_parts (n == m) (f == g) e in
    ap (λ (x : ℕ). has_file files x g) (sym (eqb-true n m both.0)) ∙ ap (λ (x : ℕ). has_file files n x) (sym (eqb-true f g both.1))

-- what is sent of no other content than before is sent of the same files
of_same_files : (files : Files) (was now : Behind) → is_content now ≡ true → ((any : Files) → sends_of any now ≡ true → sends_of any was ≡ true) → sends_of files was ≡ true → sends_of files now ≡ true
of_same_files files (Content r) (Content t) sent same is_sent =
    sym (same_file files t.file.object t.file.file r.file.object r.file.file
    (same (One t.file.object t.file.file) (and_from (t.file.object == t.file.object) (t.file.file == t.file.file) (eq-eqb t.file.object t.file.object refl) (eq-eqb t.file.file t.file.file refl)))) ∙ is_sent
of_same_files files (Content r) Nothing sent same is_sent = absurd (true_false (sym sent))
of_same_files files (Content r) Broken sent same is_sent = absurd (true_false (sym sent))
of_same_files files (Content r) (Waits claim) sent same is_sent = absurd (true_false (sym sent))
of_same_files files (Content r) (Prepares left) sent same is_sent = absurd (true_false (sym sent))
of_same_files files (Content r) Prepared sent same is_sent = absurd (true_false (sym sent))
of_same_files files Nothing now sent same is_sent = absurd (true_false (sym is_sent))
of_same_files files Broken now sent same is_sent = absurd (true_false (sym is_sent))
of_same_files files (Waits claim) now sent same is_sent = absurd (true_false (sym is_sent))
of_same_files files (Prepares left) now sent same is_sent = absurd (true_false (sym is_sent))
of_same_files files Prepared now sent same is_sent = absurd (true_false (sym is_sent))

-- where nothing is answered a content stays
kept_on : (files : Files) (cs : List Connection) {reading : _} (was now : Behind) → KeptBack cs reading was now → sends_of files was ≡ true → sends_of files now ≡ true
kept_on files cs was now (unsent u same) is_sent = ap (sends_of files) same ∙ is_sent
kept_on files cs was now (prepares_still u same) is_sent = ap (sends_of files) same ∙ is_sent
kept_on files cs was now (begins_to_prepare w names is) is_sent = absurd (true_false (sym is_sent ∙ ap (sends_of files) w))
kept_on files cs was now (waits_still claim w is held) is_sent = absurd (true_false (sym is_sent ∙ ap (sends_of files) w))
kept_on files cs was now (begins_to_wait claim u has is held) is_sent = absurd (true_false (sym (content_unsent was (sends_content files was is_sent)) ∙ u.0))
kept_on files cs was now (lacks_memory u pending has is) is_sent = absurd (true_false (sym (content_unsent was (sends_content files was is_sent)) ∙ u.0))

-- ---- actions

-- it neither closes the connection of a number nor ends its content
abbrev IsSpared : ℕ → HostAction → Type 0
IsSpared number (Opens at n given) = Unit {0}
IsSpared number (Takes at n piece) = Unit {0}
IsSpared number (Replies at n moment sent reply) = Unit {0}
IsSpared number (Sends at n sent answer) = number ≡ n → is_part answer ≡ true
IsSpared number (Declines at n piece moment sent) = Unit {0}
IsSpared number (Closes at n second reason) = number ≡ n → ⊥

-- so does none of them
abbrev pub IsSparedByAll : ℕ → List HostAction → Type 0
IsSparedByAll number [] = Unit {0}
IsSparedByAll number (d ∷ actions) = IsSpared number d × IsSparedByAll number actions

-- and the earlier ones of them, and the later ones
pub spared_before : (n : ℕ) (xs ys : List HostAction) → IsSparedByAll n (xs ++ ys) → IsSparedByAll n xs
spared_before n [] ys h = tt
spared_before n (d ∷ xs) ys h = (h.0, spared_before n xs ys h.1)

spared_last : (n : ℕ) (xs ys : List HostAction) → IsSparedByAll n (xs ++ ys) → IsSparedByAll n ys
spared_last n [] ys h = h
spared_last n (d ∷ xs) ys h = spared_last n xs ys h.1

-- and those of two stretches
pub spared_join : (n : ℕ) (xs ys : List HostAction) → IsSparedByAll n xs → IsSparedByAll n ys → IsSparedByAll n (xs ++ ys)
spared_join n [] ys h k = k
spared_join n (d ∷ xs) ys h k = (h.0, spared_join n xs ys h.1 k)

-- a part that was sent there counts
counts_part : (at place number n : ℕ) (sent : List ℕ) (answer : SentOn) → (at ≡ place → number ≡ n) → (number ≡ n → is_part answer ≡ true)
    → length (sendings_at place (Sends at n sent answer ∷ [])) ≤ parts_of number (Sends at n sent answer ∷ [])
counts_part at place number n sent answer there part = elim (cases_eq place at) [
  | inl e ↦
      let same : n ≡ number = sym (there (sym e)) in
      let one : parts_of number (Sends at n sent answer ∷ []) ≡ 1 = ap (λ (b : Bool). (if b then if is_part answer then 1 else 0 else 0) + 0) (eq-eqb n number same) ∙ ap (λ (b : Bool). (if b then 1 else 0) + 0) (part (sym same)) in
      let few : length (sendings_at place (Sends at n sent answer ∷ [])) ≡ 1 = subst (λ (x : ℕ). length (sendings_at x (Sends at n sent answer ∷ [])) ≡ 1) (sym e) (ap (λ (l : List SentOn). length l) (one_sent at answer)) in
      omega (arith, one, few)
  | inr ne ↦
      let few : length (sendings_at place (Sends at n sent answer ∷ [])) ≡ 0 = ap (λ (l : List SentOn). length l) (none_sent at place answer ne) in
      omega (arith, few)
]

-- ---- steps

not_left : (files : Files) (is_closed : Bool) (b : Behind) → sends_of files (if is_closed then Nothing else b) ≡ true → is_closed ≡ false
not_left files true b is_sent = sym is_sent
not_left files false b is_sent = refl

over_still : (p q : Phase) → SendsStill p q → p ≡ Over → q ≡ Over
over_still p q (inl over) was = over
over_still p q (inr still) was = absurd (still.1 was)

not_over : (p q : Phase) → (p ≡ Over → ⊥) → p ≡ Over → q ≡ Over
not_over p q ne over = absurd (ne over)

open_over : (p : Phase) → p ≡ Open → p ≡ Over → ⊥
open_over p is_open over = let bad : Open ≡ Over = sym is_open ∙ over in cc

answering_over : (p : Phase) → p ≡ Answering → p ≡ Over → ⊥
answering_over p answering over = let bad : Answering ≡ Over = sym answering ∙ over in cc

sending_over : (p : Phase) → is_sending p ≡ true → p ≡ Over → ⊥
sending_over p sending over = true_false (sym sending ∙ ap is_sending over)

module _ {A R K S : Type 0} (condition : A → Condition) (unread : R → Option (List ℕ)) (taken : K → Option (List ℕ)) (held : S → Option (List ℕ)) where
  -- where a content is still sent, none of what was done ended it
  pub step_spares : (files : Files) (number : ℕ) {p q : Position A R K S} {more : List HostAction} → HostStep condition unread taken held p q more → sends_of files (behind_at q.hub.connections.items number) ≡ true → IsSparedByAll number more
  step_spares files number (refused r) is_sent = tt
  step_spares files number (asks r) is_sent = tt
  step_spares files number (comes r) is_sent = (tt, tt)
  step_spares files number (rests t r) is_sent = tt
  step_spares files number (offers t o) is_sent = (tt, tt)
  step_spares files number (delays t d) is_sent = tt
  step_spares files number {q = q} (sends {before = slot} t s) is_sent = (
    λ e. sym s.sends.left ∙ sends_content files (behind_at q.hub.connections.items slot.connection) (subst (λ (n : ℕ). sends_of files (behind_at q.hub.connections.items n) ≡ true) e is_sent),
    tt,
  )
  step_spares files number (refuses t r) is_sent = (tt, tt)
  step_spares files number (answers t a) is_sent = (tt, tt)
  step_spares files number {p = p} (leaves {slot = slot} r) is_sent = (
    λ e. true_false (sym (eq-eqb number slot.connection e) ∙ not_left files (number == slot.connection) (behind_at p.hub.connections.items number) (sym (ap (sends_of files) (r.behind number)) ∙ is_sent)),
    tt,
  )

  -- a content goes on that isn't ended
  step_keeps_sending : (files : Files) (number : ℕ) {p q : Position A R K S} {more : List HostAction} → HostStep condition unread taken held p q more → IsSparedByAll number more
      → sends_of files (behind_at p.hub.connections.items number) ≡ true → sends_of files (behind_at q.hub.connections.items number) ≡ true
  step_keeps_sending files number (refused r) spared is_sent = ap (sends_of files) (r.behind number) ∙ is_sent
  step_keeps_sending files number {p = p} {q = q} (asks r) spared is_sent = elim r.behind [
    | inl same ↦ ap (sends_of files) (same number) ∙ is_sent
    | inr ahead ↦ ahead_sends condition p.hub q.hub files ahead number ∙ is_sent
  ]
  step_keeps_sending files number (comes r) spared is_sent = ap (sends_of files) (r.behind number) ∙ is_sent
  step_keeps_sending files number (rests t r) spared is_sent = ap (λ (h : Hub A). sends_of files (behind_at h.connections.items number)) r.same ∙ is_sent
  step_keeps_sending files number (offers t o) spared is_sent = ap (sends_of files) (o.behind number) ∙ is_sent
  step_keeps_sending files number (refuses t r) spared is_sent = ap (sends_of files) (r.behind number) ∙ is_sent
  step_keeps_sending files number {p = p} {q = q} (delays {before = slot} t d) spared is_sent = elim (cases_eq number slot.connection) [
    | inl e ↦ subst (λ (n : ℕ). sends_of files (behind_at q.hub.connections.items n) ≡ true) (sym e)
        (kept_on files p.hub.connections.items _ _ d.keeps.why (subst (λ (n : ℕ). sends_of files (behind_at p.hub.connections.items n) ≡ true) e is_sent))
    | inr ne ↦ ap (sends_of files) (d.keeps.others number ne) ∙ is_sent
  ]
  step_keeps_sending files number {p = p} {q = q} (sends {before = slot} t s) spared is_sent = elim (cases_eq number slot.connection) [
    | inl e ↦ subst (λ (n : ℕ). sends_of files (behind_at q.hub.connections.items n) ≡ true) (sym e)
        (of_same_files files (behind_at p.hub.connections.items slot.connection) (behind_at q.hub.connections.items slot.connection) (s.sends.left ∙ spared.0 e) s.sends.of_same
        (subst (λ (n : ℕ). sends_of files (behind_at p.hub.connections.items n) ≡ true) e is_sent))
    | inr ne ↦ ap (sends_of files) (s.sends.others number ne) ∙ is_sent
  ]
  step_keeps_sending files number {p = p} {q = q} (answers {before = slot} t a) spared is_sent = elim (cases_eq number slot.connection) [
    | inl e ↦ absurd (true_false (sym (content_unsent (behind_at p.hub.connections.items slot.connection) (sends_content files (behind_at p.hub.connections.items slot.connection)
        (subst (λ (n : ℕ). sends_of files (behind_at p.hub.connections.items n) ≡ true) e is_sent))) ∙ a.paid))
    | inr ne ↦ ap (sends_of files) (a.others number ne) ∙ is_sent
  ]
  step_keeps_sending files number {p = p} {q = q} (leaves {slot = slot} r) spared is_sent =
      ap (sends_of files) (r.behind number ∙ ap (λ (b : Bool). if b then Nothing else behind_at p.hub.connections.items number) (ne_eqb number slot.connection spared.0)) ∙ is_sent

  -- so it does through all of these
  pub keep_sending : (files : Files) (number : ℕ) {p q : Position A R K S} {actions : List HostAction} → Steps condition unread taken held p actions q → IsSparedByAll number actions
      → sends_of files (behind_at p.hub.connections.items number) ≡ true → sends_of files (behind_at q.hub.connections.items number) ≡ true
  keep_sending files number begins spared is_sent = is_sent
  keep_sending files number (goes_on {actions = actions} {more = more} s t) spared is_sent =
      step_keeps_sending files number t (spared_last number actions more spared) (keep_sending files number s (spared_before number actions more spared) is_sent)

  -- there are as many places as there were
  step_places : {p q : Position A R K S} {more : List HostAction} → HostStep condition unread taken held p q more → length q.slots ≡ length p.slots
  step_places (refused r) = ap (λ (l : List (Option (Slot R K S))). length l) r.sits
  step_places (asks r) = ap (λ (l : List (Option (Slot R K S))). length l) r.sits
  step_places {p = p} (comes {at = at} {slot = slot} r) = ap (λ (l : List (Option (Slot R K S))). length l) r.sits ∙ length-set p.slots at (Some slot)
  step_places {p = p} (rests {at = at} {after = after} t r) = ap (λ (l : List (Option (Slot R K S))). length l) t.sits ∙ length-set p.slots at (Some after)
  step_places {p = p} (offers {at = at} {after = after} t r) = ap (λ (l : List (Option (Slot R K S))). length l) t.sits ∙ length-set p.slots at (Some after)
  step_places {p = p} (delays {at = at} {after = after} t r) = ap (λ (l : List (Option (Slot R K S))). length l) t.sits ∙ length-set p.slots at (Some after)
  step_places {p = p} (sends {at = at} {after = after} t r) = ap (λ (l : List (Option (Slot R K S))). length l) t.sits ∙ length-set p.slots at (Some after)
  step_places {p = p} (refuses {at = at} {after = after} t r) = ap (λ (l : List (Option (Slot R K S))). length l) t.sits ∙ length-set p.slots at (Some after)
  step_places {p = p} (answers {at = at} {after = after} t r) = ap (λ (l : List (Option (Slot R K S))). length l) t.sits ∙ length-set p.slots at (Some after)
  step_places {p = p} (leaves {at = at} r) = ap (λ (l : List (Option (Slot R K S))). length l) r.gone ∙ length-set p.slots at None

  -- also behind all of these
  pub same_places : {p q : Position A R K S} {actions : List HostAction} → Steps condition unread taken held p actions q → length q.slots ≡ length p.slots
  same_places begins = refl
  same_places (goes_on s t) = step_places t ∙ same_places s

  -- who was at a place is there still, over if it was, and each step of a content that was sent there is a part sent to it
  pub record StaysThere (place : ℕ) (slot : Slot R K S) (q : Position A R K S) (actions : List HostAction) : Type 0 where
    pub later : Slot R K S
    pub sits : slot_at place q.slots ≡ Some later
    pub same : later.connection ≡ slot.connection
    pub over : slot.state.phase ≡ Over → later.state.phase ≡ Over
    pub sent : length (sendings_at place actions) ≤ parts_of slot.connection actions

  there_as : (place : ℕ) (slot : Slot R K S) (p q : Position A R K S) (actions : List HostAction) → slot_at place q.slots ≡ slot_at place p.slots → slot_at place p.slots ≡ Some slot
      → length (sendings_at place actions) ≤ parts_of slot.connection actions → StaysThere place slot q actions
  there_as place slot p q actions same sat sent = record { later = slot; sits = same ∙ sat; same = refl; over = λ e. e; sent = sent }

  -- it had its turn, or another had
  turned_there : (place : ℕ) (slot : Slot R K S) {p q : Position A R K S} {at : ℕ} {before after : Slot R K S} {actions : List HostAction} → GivesTurn condition unread taken held p q at before after
      → (before.state.phase ≡ Over → after.state.phase ≡ Over) → slot_at place p.slots ≡ Some slot → length (sendings_at place actions) ≤ parts_of slot.connection actions → StaysThere place slot q actions
  turned_there place slot {p = p} {q = q} {at = at} {before = before} {after = after} {actions = actions} t over sat sent = elim (cases_eq place at) [
    | inl e ↦
        let is : before ≡ slot = some_same before slot (sym t.sat ∙ (subst (λ (n : ℕ). slot_at n p.slots ≡ Some slot) e sat)) in
        record {
          later = after;
          sits = subst (λ (n : ℕ). slot_at n q.slots ≡ Some after) (sym e) (ap (λ (l : List (Option (Slot R K S))). slot_at at l) t.sits ∙ get_or-set_same p.slots at (Some after) None t.there);
          same = t.client.connection ∙ ap (λ (s : Slot R K S). s.connection) is;
          over = λ was. over (ap (λ (s : Slot R K S). s.state.phase) is ∙ was);
          sent = sent;
        }
    | inr ne ↦ there_as place slot p q actions (ap (λ (l : List (Option (Slot R K S))). slot_at place l) t.sits ∙ get_or-set_other p.slots at place (Some after) None ne) sat sent
  ]

  nothing_sent : (number : ℕ) (actions : List HostAction) (place : ℕ) → sendings_at place actions ≡ [] → length (sendings_at place actions) ≤ parts_of number actions
  nothing_sent number actions place none = let e : length (sendings_at place actions) ≡ 0 = ap (λ (l : List SentOn). length l) none in omega (arith, e)

  step_stays : (place : ℕ) (slot : Slot R K S) {p q : Position A R K S} {more : List HostAction} → HostStep condition unread taken held p q more → slot_at place p.slots ≡ Some slot → IsSparedByAll slot.connection more → StaysThere place slot q more
  step_stays place slot {p = p} {q = q} (refused r) sat spared = there_as place slot p q [] (ap (λ (l : List (Option (Slot R K S))). slot_at place l) r.sits) sat (nothing_sent slot.connection [] place refl)
  step_stays place slot {p = p} {q = q} (asks r) sat spared = there_as place slot p q [] (ap (λ (l : List (Option (Slot R K S))). slot_at place l) r.sits) sat (nothing_sent slot.connection [] place refl)
  step_stays place slot {p = p} {q = q} {more = more} (comes {at = at} {slot = new} r) sat spared =
      there_as place slot p q more (ap (λ (l : List (Option (Slot R K S))). slot_at place l) r.sits
      ∙ get_or-set_other p.slots at place (Some new) None (λ e. no_some slot (sym r.free ∙ (subst (λ (n : ℕ). slot_at n p.slots ≡ Some slot) e sat)))) sat (nothing_sent slot.connection more place refl)
  step_stays place slot {more = more} (rests {before = before} {after = after} t r) sat spared =
      turned_there place slot t (over_still before.state.phase after.state.phase r.sends_still) sat (nothing_sent slot.connection more place refl)
  step_stays place slot {more = more} (offers {before = before} {after = after} t o) sat spared =
      turned_there place slot t (not_over before.state.phase after.state.phase (open_over before.state.phase o.read.waits)) sat (nothing_sent slot.connection more place refl)
  step_stays place slot {more = more} (delays {before = before} {after = after} t d) sat spared =
      turned_there place slot t (not_over before.state.phase after.state.phase (answering_over before.state.phase d.was_read)) sat (nothing_sent slot.connection more place refl)
  step_stays place slot {more = more} (refuses {before = before} {after = after} t r) sat spared =
      turned_there place slot t (not_over before.state.phase after.state.phase (open_over before.state.phase r.read.waits)) sat (nothing_sent slot.connection more place refl)
  step_stays place slot {more = more} (answers {before = before} {after = after} t a) sat spared =
      turned_there place slot t (not_over before.state.phase after.state.phase (answering_over before.state.phase a.was_read)) sat (nothing_sent slot.connection more place refl)
  step_stays place slot {p = p} (sends {at = at} {before = before} {after = after} t s) sat spared =
      turned_there place slot t (not_over before.state.phase after.state.phase (sending_over before.state.phase s.was_sending)) sat
      (counts_part at place slot.connection before.connection s.sends.sent s.answer
      (λ e. ap (λ (x : Slot R K S). x.connection) (some_same slot before (sym sat ∙ (subst (λ (n : ℕ). slot_at n p.slots ≡ Some before) e t.sat)))) spared.0)
  step_stays place slot {p = p} {q = q} {more = more} (leaves {at = at} {slot = gone} r) sat spared =
      there_as place slot p q more (ap (λ (l : List (Option (Slot R K S))). slot_at place l) r.gone ∙ get_or-set_other p.slots at place None None
      (λ e. spared.0 (ap (λ (x : Slot R K S). x.connection) (some_same slot gone (sym (subst (λ (n : ℕ). slot_at n p.slots ≡ Some slot) e sat) ∙ r.sat))))) sat (nothing_sent slot.connection more place refl)

  -- so it is behind all of these
  pub stays_there : (place : ℕ) (slot : Slot R K S) {p q : Position A R K S} {actions : List HostAction} → Steps condition unread taken held p actions q → slot_at place p.slots ≡ Some slot → IsSparedByAll slot.connection actions → StaysThere place slot q actions
  stays_there place slot {p = p} begins sat spared = there_as place slot p p [] refl sat (nothing_sent slot.connection [] place refl)
  stays_there place slot (goes_on {actions = actions} {more = more} s t) sat spared =
      let so_far = stays_there place slot s sat (spared_before slot.connection actions more spared) in
      let one = step_stays place so_far.later t so_far.sits (subst (λ (n : ℕ). IsSparedByAll n more) (sym so_far.same) (spared_last slot.connection actions more spared)) in
      let a = ap (λ (l : List SentOn). length l) (sendings_append place actions more) ∙ length-append (sendings_at place actions) (sendings_at place more) in
      let b = parts_join slot.connection actions more in
      let x = so_far.sent in
      let y : length (sendings_at place more) ≤ parts_of slot.connection more = subst (λ (n : ℕ). length (sendings_at place more) ≤ parts_of n more) so_far.same one.sent in
      record {
        later = one.later;
        sits = one.sits;
        same = one.same ∙ so_far.same;
        over = λ was. one.over (so_far.over was);
        sent = omega (arith, a, b, x, y);
      }

  -- ---- who is sent a content is somewhere

  -- the connection of a number is at a place
  abbrev pub IsSeated : Position A R K S → ℕ → Type 0
  IsSeated q number = (at : ℕ) × (slot : Slot R K S) × (slot_at at q.slots ≡ Some slot) × (slot.connection ≡ number)

  -- so is each to whom a content is sent
  abbrev pub AllSeated : Position A R K S → Type 0
  AllSeated q = (number : ℕ) → is_content (behind_at q.hub.connections.items number) ≡ true → IsSeated q number

  seated_as : (p q : Position A R K S) (number : ℕ) → q.slots ≡ p.slots → IsSeated p number → IsSeated q number
  seated_as p q number same seat = (seat.0, seat.1, ap (λ (l : List (Option (Slot R K S))). slot_at seat.0 l) same ∙ seat.2, seat.3)

  seated_turned : {p q : Position A R K S} {at : ℕ} {before after : Slot R K S} (number : ℕ) → GivesTurn condition unread taken held p q at before after → IsSeated p number → IsSeated q number
  seated_turned {p = p} {q = q} {at = at} {before = before} {after = after} number t seat = elim (cases_eq seat.0 at) [
    | inl e ↦
        let is : before ≡ seat.1 = some_same before seat.1 (sym t.sat ∙ (subst (λ (n : ℕ). slot_at n p.slots ≡ Some seat.1) e seat.2)) in
        (at, after, ap (λ (l : List (Option (Slot R K S))). slot_at at l) t.sits ∙ get_or-set_same p.slots at (Some after) None t.there, t.client.connection ∙ (ap (λ (s : Slot R K S). s.connection) is ∙ seat.3))
    | inr ne ↦ (seat.0, seat.1, ap (λ (l : List (Option (Slot R K S))). slot_at seat.0 l) t.sits ∙ (get_or-set_other p.slots at seat.0 (Some after) None ne ∙ seat.2), seat.3)
  ]

  -- it had its turn itself, or what is behind the last reply of another stayed
  seated_changed : {p q : Position A R K S} {at : ℕ} {before after : Slot R K S} → GivesTurn condition unread taken held p q at before after
      → ((n : ℕ) → (n ≡ before.connection → ⊥) → behind_at q.hub.connections.items n ≡ behind_at p.hub.connections.items n) → AllSeated p → AllSeated q
  seated_changed {p = p} {q = q} {at = at} {before = before} t others all number content = elim (cases_eq number before.connection) [
    | inl e ↦ seated_turned number t (at, before, t.sat, sym e)
    | inr ne ↦ seated_turned number t (all number (sym (ap is_content (others number ne)) ∙ content))
  ]

  step_seats : {p q : Position A R K S} {more : List HostAction} → HostStep condition unread taken held p q more → AllSeated p → AllSeated q
  step_seats {p = p} {q = q} (refused r) all = λ number content. seated_as p q number r.sits (all number (sym (ap is_content (r.behind number)) ∙ content))
  step_seats {p = p} {q = q} (asks r) all = λ number content. seated_as p q number r.sits (all number (elim r.behind [
    | inl same ↦ sym (ap is_content (same number)) ∙ content
    | inr ahead ↦ sym (ahead_contents condition p.hub q.hub ahead number).0 ∙ content
  ]))
  step_seats {p = p} {q = q} (comes {at = at} {slot = new} r) all = λ number content.
      let seat = all number (sym (ap is_content (r.behind number)) ∙ content) in (
        seat.0,
        seat.1,
        ap (λ (l : List (Option (Slot R K S))). slot_at seat.0 l) r.sits ∙ (get_or-set_other p.slots at seat.0 (Some new) None
            (λ e. no_some seat.1 (sym r.free ∙ (subst (λ (n : ℕ). slot_at n p.slots ≡ Some seat.1) e seat.2))) ∙ seat.2),
        seat.3,
      )
  step_seats (rests t r) all = seated_changed t (λ n ne. ap (λ (h : Hub A). behind_at h.connections.items n) r.same) all
  step_seats (offers t o) all = seated_changed t (λ n ne. o.behind n) all
  step_seats (refuses t r) all = seated_changed t (λ n ne. r.behind n) all
  step_seats (delays t d) all = seated_changed t d.keeps.others all
  step_seats (sends t s) all = seated_changed t s.sends.others all
  step_seats (answers t a) all = seated_changed t a.others all
  step_seats {p = p} {q = q} (leaves {at = at} {slot = gone} r) all = λ number content. elim (cases_eq number gone.connection) [
    | inl e ↦ absurd (true_false (sym content ∙ ap is_content (r.behind number ∙ ap (λ (b : Bool). if b then Nothing else behind_at p.hub.connections.items number) (eq-eqb number gone.connection e))))
    | inr ne ↦
        let seat = all number (sym (ap is_content (r.behind number ∙ ap (λ (b : Bool). if b then Nothing else behind_at p.hub.connections.items number) (ne_eqb number gone.connection ne))) ∙ content) in (
          seat.0,
          seat.1,
          ap (λ (l : List (Option (Slot R K S))). slot_at seat.0 l) r.gone ∙ (get_or-set_other p.slots at seat.0 None None
              (λ e. ne (sym seat.3 ∙ ap (λ (x : Slot R K S). x.connection) (some_same seat.1 gone (sym (subst (λ (n : ℕ). slot_at n p.slots ≡ Some seat.1) e seat.2) ∙ r.sat)))) ∙ seat.2),
          seat.3,
        )
  ]

  -- so it is where nothing was owed at first
  pub steps_seat : {p q : Position A R K S} {actions : List HostAction} → OwesNone p.hub → Steps condition unread taken held p actions q → AllSeated q
  steps_seat {p = p} unowed begins = λ number content. absurd (true_false (sym content ∙ ap is_content (unowed number)))
  steps_seat unowed (goes_on s t) = step_seats t (steps_seat unowed s)
