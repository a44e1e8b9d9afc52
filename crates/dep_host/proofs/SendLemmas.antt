-- Who is at a place is sent what is owed of a content.
use Rattle.std.proofs.Common.{◌≡◌, ◌⊎◌, inl, inr, ◌<◌, ℕ, Bool, true, false, if◌then◌else◌, List, Option, None, Some, refl, sym, ap, subst, ◌∙◌, length, set}
use Rattle.std.proofs.lemmas.Bool.{ne_eqb}
use Rattle.dep_types.specs.Conditions.{Condition}
use Rattle.dep_hub.specs.Claims.{is_content}
use Rattle.dep_hub.specs.RepresentsOwing.{KeepsBack, unsent, prepares_still, begins_to_prepare, waits_still, begins_to_wait, lacks_memory, behind_at, is_part, is_unsent}
use Rattle.dep_hub.specs.WorkingAhead.{RestsAhead}
use Rattle.dep_hub.proofs.PreparingLemmas.{ahead_contents}
use Rattle.dep_hub.specs.declared.hub.Hub.{Hub}
use Rattle.dep_exchange.specs.declared.next.Next.{Next}
use Rattle.dep_exchange.specs.declared.next.Next.TheVariants.{More, Waiting, Closed, Cut, NoSuch}
use Rattle.dep_hub.specs.declared.rest.Behind.{Behind}
use Rattle.dep_hub.specs.declared.rest.Behind.TheVariants.{Nothing, Content, Broken, Waits, Prepares, Prepared}
use Rattle.dep_hub.specs.declared.sent_on.SentOn.{SentOn}
use Rattle.dep_hub.specs.declared.sent_on.SentOn.TheVariants.{Part, All, Broken as BrokenOff}
use Rattle.dep_slot.specs.declared.connection_state.Phase.{Phase}
use Rattle.dep_slot.specs.declared.connection_state.Phase.TheVariants.{Open, Answering, Sending, SendingLast, Last, Draining, Over}
use Rattle.dep_slot.specs.declared.slot.Slot.{Slot}
use Rattle.dep_slot.specs.ConnectionStates.{is_ended, is_sending, SendsStill}
use Rattle.dep_slot.specs.Slots.{SameBehind, phase_answered, phase_sent}
use Rattle.dep_host.specs.Actions.{Position, slot_at, HostAction}
use Rattle.dep_host.specs.Hosting.{HostStep, refused, asks, comes, rests, offers, delays, sends, refuses, answers, leaves, GivesTurn, Steps, begins, goes_on}
use Rattle.dep_host.proofs.ReportLemmas.{Tidy, steps_tidy, slot_set, some_same, no_some}

-- by what is behind its last reply and how far it is: a content is sent where one is behind it, unless it is over, and none was broken off of who is read
pub record Agrees (b : Behind) (p : Phase) : Type 0 where
  pub content : (is_sending p ≡ is_content b) ⊎ (p ≡ Over)
  pub unbroken : p ≡ Open → b ≡ Broken → ⊥

agrees_as : (b c : Behind) (p : Phase) → c ≡ b → Agrees b p → Agrees c p
agrees_as b c p same h = subst (λ (x : Behind). Agrees x p) (sym same) h

-- of a phase in which nothing is read
agrees_unread : (b : Behind) (p : Phase) → is_sending p ≡ is_content b → (p ≡ Open → ⊥) → Agrees b p
agrees_unread b p content unread = record { content = inl content; unbroken = λ is_open broken. unread is_open }

over_unread : (p : Phase) → p ≡ Over → p ≡ Open → ⊥
over_unread p over is_open = let bad : Over ≡ Open = sym over ∙ is_open in cc

-- it went on as it was
agrees_still : (b : Behind) (p q : Phase) → Agrees b p → SendsStill p q → (q ≡ Open → p ≡ Open) → Agrees b q
agrees_still b p q h (inl over) opens = record { content = inr over; unbroken = λ is_open broken. over_unread q over is_open }
agrees_still b p q h (inr (same, going)) opens = record {
  content = elim h.content [
    | inl content ↦ inl (same ∙ content)
    | inr over ↦ absurd (going over)
  ];
  unbroken = λ is_open broken. h.unbroken (opens is_open) broken;
}

sends_answered : (next : Next) (content : Bool) → (next ≡ NoSuch → ⊥) → is_sending (phase_answered next content) ≡ content
sends_answered More true known = refl
sends_answered More false known = refl
sends_answered Waiting true known = refl
sends_answered Waiting false known = refl
sends_answered Closed true known = refl
sends_answered Closed false known = refl
sends_answered Cut true known = refl
sends_answered Cut false known = refl
sends_answered NoSuch content known = absurd (known refl)

sends_sent : (p : Phase) (answer : SentOn) → is_sending p ≡ true → is_sending (phase_sent p answer) ≡ is_part answer
sends_sent p Part sending = sending
sends_sent p BrokenOff sending = refl
sends_sent Open All sending = refl
sends_sent Answering All sending = refl
sends_sent Sending All sending = refl
sends_sent SendingLast All sending = refl
sends_sent Last All sending = refl
sends_sent Draining All sending = refl
sends_sent Over All sending = refl

unread_sent : (p : Phase) (answer : SentOn) → is_sending p ≡ true → phase_sent p answer ≡ Open → ⊥
unread_sent p BrokenOff sending is_open = let bad : Last ≡ Open = is_open in cc
unread_sent p Part sending is_open = let bad : true ≡ false = sym sending ∙ ap is_sending is_open in cc
unread_sent Open All sending is_open = let bad : Last ≡ Open = is_open in cc
unread_sent Answering All sending is_open = let bad : Last ≡ Open = is_open in cc
unread_sent Sending All sending is_open = let bad : Answering ≡ Open = is_open in cc
unread_sent SendingLast All sending is_open = let bad : Last ≡ Open = is_open in cc
unread_sent Last All sending is_open = let bad : Last ≡ Open = is_open in cc
unread_sent Draining All sending is_open = let bad : Last ≡ Open = is_open in cc
unread_sent Over All sending is_open = let bad : Last ≡ Open = is_open in cc

-- whose phase is this was sent no content
was_open : (p : Phase) (b : Behind) → p ≡ Open → Agrees b p → false ≡ is_content b
was_open p b is_open h = elim h.content [
  | inl content ↦ sym (ap is_sending is_open) ∙ content
  | inr over ↦ absurd (over_unread p over is_open)
]

was_answering : (p : Phase) (b c : Behind) → p ≡ Answering → Agrees b p → is_content c ≡ is_content b → false ≡ is_content c
was_answering p b c answering h same = elim h.content [
  | inl content ↦ sym (ap is_sending answering) ∙ (content ∙ sym same)
  | inr over ↦ absurd (let bad : Over ≡ Answering = sym over ∙ answering in cc)
]

sent_all : (b : Behind) → is_unsent b ≡ false → is_content b ≡ false
sent_all Nothing u = refl
sent_all Broken u = refl
sent_all (Waits claim) u = refl
sent_all (Prepares left) u = refl
sent_all Prepared u = refl
sent_all (Content r) u = let bad : true ≡ false = u in cc

-- a content is being sent where one was, where a request is kept back
kept_content : {A : Type 0} {condition : A → Condition} {t k : Option (List ℕ)} {f g : ℕ} (old new : Hub A) (n : ℕ) → KeepsBack condition t k f g old new n
    → is_content (behind_at new.connections.items n) ≡ is_content (behind_at old.connections.items n)
kept_content old new n k = elim k.why [
  | unsent u same ↦ ap is_content same
  | prepares_still u same ↦ ap is_content same
  | begins_to_prepare was names now ↦ ap is_content now ∙ sym (ap is_content was)
  | waits_still claim was now held ↦ ap is_content now ∙ sym (ap is_content was)
  | begins_to_wait claim u has now held ↦ ap is_content now ∙ sym (sent_all (behind_at old.connections.items n) u.0)
  | lacks_memory u pending has now ↦ ap is_content now ∙ sym (sent_all (behind_at old.connections.items n) u.0)
]

-- or a request was prepared
agrees_asked : {A : Type 0} (condition : A → Condition) (old new : Hub A) (n : ℕ) (p : Phase) → SameBehind old new ⊎ RestsAhead condition old new
    → Agrees (behind_at old.connections.items n) p → Agrees (behind_at new.connections.items n) p
agrees_asked condition old new n p (inl same) h = agrees_as _ _ p (same n) h
agrees_asked condition old new n p (inr w) h =
    let same = ahead_contents condition old new w n in
    record {
      content = elim h.content [
        | inl content ↦ inl (content ∙ sym same.0)
        | inr over ↦ inr over
      ];
      unbroken = λ is_open broken. h.unbroken is_open (same.1 broken);
    }

module _ {A R K S : Type 0} (condition : A → Condition) (unread : R → Option (List ℕ)) (taken : K → Option (List ℕ)) (held : S → Option (List ℕ)) where
  -- so it is with who is at each place
  abbrev pub AllAgree : Position A R K S → Type 0
  AllAgree q = (at : ℕ) (slot : Slot R K S) → slot_at at q.slots ≡ Some slot → Agrees (behind_at q.hub.connections.items slot.connection) slot.state.phase

  all_same : (p q : Position A R K S) → q.slots ≡ p.slots → ((n : ℕ) → behind_at q.hub.connections.items n ≡ behind_at p.hub.connections.items n) → AllAgree p → AllAgree q
  all_same p q slots behind all at slot sits = agrees_as _ _ slot.state.phase (behind slot.connection) (all at slot (subst (λ (l : List (Option (Slot R K S))). slot_at at l ≡ Some slot) slots sits))

  -- one place changes, and what is behind the replies of those at others stays
  all_set : (p q : Position A R K S) (at : ℕ) (x : Option (Slot R K S)) → at < length p.slots → q.slots ≡ set p.slots at x
      → ((s : Slot R K S) → x ≡ Some s → Agrees (behind_at q.hub.connections.items s.connection) s.state.phase)
      → ((j : ℕ) (t : Slot R K S) → (j ≡ at → ⊥) → slot_at j p.slots ≡ Some t → behind_at q.hub.connections.items t.connection ≡ behind_at p.hub.connections.items t.connection)
      → AllAgree p → AllAgree q
  all_set p q at x there sits here others all j t h = elim (slot_set p.slots at j x t there (subst (λ (l : List (Option (Slot R K S))). slot_at j l ≡ Some t) sits h)) [
    | inl e ↦ here t e.1
    | inr o ↦ agrees_as _ _ t.state.phase (others j t o.0 o.1) (all j t o.1)
  ]

  -- it has its turn
  all_turned : {p q : Position A R K S} {at : ℕ} {before after : Slot R K S} {actions : List HostAction} → Tidy condition unread taken held p actions → GivesTurn condition unread taken held p q at before after
      → Agrees (behind_at q.hub.connections.items before.connection) after.state.phase
      → ((n : ℕ) → (n ≡ before.connection → ⊥) → behind_at q.hub.connections.items n ≡ behind_at p.hub.connections.items n) → AllAgree p → AllAgree q
  all_turned {p = p} {q = q} {at = at} {before = before} {after = after} tidy t agrees others all = all_set p q at (Some after) t.there t.sits
      (λ s e. subst (λ (u : Slot R K S). Agrees (behind_at q.hub.connections.items u.connection) u.state.phase) (some_same after s e)
      (subst (λ (n : ℕ). Agrees (behind_at q.hub.connections.items n) after.state.phase) (sym t.client.connection) agrees))
      (λ j u ne h. others u.connection (λ same. ne (tidy.apart j at u before h t.sat same))) all

  step_agrees : {p q : Position A R K S} {actions more : List HostAction} → Tidy condition unread taken held p actions → HostStep condition unread taken held p q more → AllAgree p → AllAgree q
  step_agrees {p = p} {q = q} tidy (refused r) all = all_same p q r.sits r.behind all
  step_agrees {p = p} {q = q} tidy (asks r) all = λ at slot sits.
      agrees_asked condition p.hub q.hub slot.connection slot.state.phase r.behind (all at slot (subst (λ (l : List (Option (Slot R K S))). slot_at at l ≡ Some slot) r.sits sits))
  step_agrees {p = p} {q = q} tidy (comes {at = at} {slot = slot} r) all = all_set p q at (Some slot) r.there r.sits
      (λ s e. subst (λ (u : Slot R K S). Agrees (behind_at q.hub.connections.items u.connection) u.state.phase) (some_same slot s e) (agrees_as Nothing _ slot.state.phase r.unowed
      (record { content = inl (ap is_sending r.opens); unbroken = λ is_open broken. let bad : Nothing ≡ Broken = broken in cc })))
      (λ j t ne h. r.behind t.connection) all
  step_agrees {p = p} {q = q} tidy (rests {before = before} {after = after} t r) all =
      let same = λ (n : ℕ). ap (λ (h : Hub A). behind_at h.connections.items n) r.same in
      all_turned tidy t (agrees_as _ _ after.state.phase (same before.connection) (agrees_still _ before.state.phase after.state.phase (all _ before t.sat) r.sends_still r.opens)) (λ n ne. same n) all
  step_agrees {p = p} {q = q} tidy (offers {before = before} {after = after} t o) all = all_turned tidy t
      (agrees_as _ _ after.state.phase (o.behind before.connection) (agrees_unread _ after.state.phase (ap is_sending o.answers_next ∙ was_open before.state.phase _ o.read.waits (all _ before t.sat))
      (λ is_open. let bad : Answering ≡ Open = sym o.answers_next ∙ is_open in cc))) (λ n ne. o.behind n) all
  step_agrees {p = p} {q = q} tidy (refuses {before = before} {after = after} t r) all = all_turned tidy t
      (agrees_as _ _ after.state.phase (r.behind before.connection) (agrees_unread _ after.state.phase (r.unsent ∙ was_open before.state.phase _ r.read.waits (all _ before t.sat))
      (λ is_open. let bad : false ≡ true = sym (ap is_ended is_open) ∙ r.ends in cc))) (λ n ne. r.behind n) all
  step_agrees {p = p} {q = q} tidy (answers {before = before} {after = after} t a) all = all_turned tidy t
      (record { content = inl (ap is_sending a.goes ∙ sends_answered a.next _ a.known); unbroken = λ is_open broken. a.unbroken broken }) a.others all
  step_agrees {p = p} {q = q} tidy (delays {before = before} {after = after} t d) all = all_turned tidy t
      (agrees_unread _ after.state.phase (ap is_sending d.stays ∙ was_answering before.state.phase _ _ d.was_read (all _ before t.sat) (kept_content p.hub q.hub before.connection d.keeps))
      (λ is_open. let bad : Answering ≡ Open = sym d.stays ∙ is_open in cc)) d.keeps.others all
  step_agrees {p = p} {q = q} tidy (sends {before = before} {after = after} t s) all = all_turned tidy t
      (agrees_unread _ after.state.phase (ap is_sending s.goes ∙ (sends_sent before.state.phase s.answer s.was_sending ∙ sym s.sends.left))
      (λ is_open. unread_sent before.state.phase s.answer s.was_sending (sym s.goes ∙ is_open))) s.sends.others all
  step_agrees {p = p} {q = q} tidy (leaves {at = at} {slot = slot} r) all = all_set p q at None r.there r.gone (λ s e. absurd (no_some s e))
      (λ j t ne h. r.behind t.connection ∙ ap (λ (b : Bool). if b then Nothing else behind_at p.hub.connections.items t.connection)
      (ne_eqb t.connection slot.connection (λ same. ne (tidy.apart j at t slot h r.sat same)))) all

  pub steps_agree : {p q : Position A R K S} {actions : List HostAction} → ((at : ℕ) → slot_at at p.slots ≡ None) → Steps condition unread taken held p actions q → AllAgree q
  steps_agree empty begins = λ at slot sits. absurd (no_some slot (sym (empty at) ∙ sits))
  steps_agree empty (goes_on s t) = step_agrees (steps_tidy condition unread taken held empty s) t (steps_agree empty s)
