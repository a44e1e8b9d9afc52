-- Every stream has a spelling.
use Rattle.std.proofs.Common.{◌≡◌, ◌⊎◌, ℕ, suc, zero, ◌+◌, ◌<◌, ◌≤◌, Bool, true, false, List, [], ◌∷◌, ◌++◌, length, take, drop, Option, Some, None, Result, Ok, Err, refl, sym, ap, subst, ◌∙◌, append_assoc, length-append, arith, inl, inr, if◌then◌else◌}
use Rattle.std.proofs.lemmas.Bool.{cases_lt}
use Rattle.std.proofs.lemmas.List.{take-append-drop, length-take-le}
use Rattle.dep_head.specs.Head.{HeadParts, IsHeadText, head_end, head_limit}
use Rattle.dep_head.proofs.HeadEnd.{end_within, end_take, none_front, front_before}
use Rattle.dep_types.specs.declared.refusal.Refusal.TheVariants.{BadRequest}
use Rattle.dep_body.specs.Framing.{framing}
use Rattle.dep_body.specs.declared.frame.Framing.{Framing}
use Rattle.dep_body.specs.declared.frame.FrameFault.{FrameFault}
use Rattle.dep_message.specs.Heads.{is_head_only, closes, is_due, awaits_continue}
use Rattle.dep_message.specs.Places.{Place, Open, Shut, left_to_read}
use Rattle.dep_message.specs.Stream.{Item, Fault, Continue, Request, after_item, IsItemText, First, ReadsItems, Waits, Spells, no_head, bad_framing, frame_refusal}
use Rattle.dep_message.specs.Giving.{BeginsWith}
use Rattle.dep_message.specs.Working.{IsBegun}
use Rattle.dep_message.specs.declared.message.Message.{Message}
use Rattle.dep_body.proofs.BodyCases.{BodyCase, is_whole, is_faulty, is_part, body_cases}
use Rattle.dep_message.proofs.Bodies.{waiting_head, waits_behind, body_fault, whole_request}
use Rattle.dep_message.proofs.Taking.{not_reported, some_left, less_reported, less_behind}

-- what can't be refused
abbrev NotNot : Type 0 → Type 0
NotNot P = (P → ⊥) → ⊥

either : (P : Type 0) → NotNot (P ⊎ (P → ⊥))
either P never = never (inr (λ p. never (inl p)))

-- an item stands first in the bytes, or none is complete
abbrev FirstOrWaits : ℕ → Bool → List ℕ → Type 0
FirstOrWaits limit continued bytes = ((item : Item) × (next : Place) × First limit continued bytes item next) ⊎ Waits limit (Open continued bytes)

module _ (limit : ℕ) (continued : Bool) (bytes : List ℕ) where
  stands_first : (item : Item) → BeginsWith (λ text. IsItemText limit continued text item) bytes → FirstOrWaits limit continued bytes
  stands_first item b = inl (item, after_item item b.0 b.1, record { text = b.0; behind = b.1; whole = b.2; spelled = b.3; goes_on = refl })

  behind_head : (n : ℕ) (head : HeadParts) (frame : Framing) → IsBegun limit continued (take n bytes) head frame → BodyCase limit frame (drop n bytes)
      → FirstOrWaits limit continued bytes
  behind_head n head frame begun (is_whole text behind content is body) =
      let m : Message = record { head = head; content = content } in
      stands_first (Request m) (
        take n bytes ++ text,
        behind,
        sym (take-append-drop n bytes) ∙ (ap (λ t. take n bytes ++ t) is ∙ sym (append_assoc (take n bytes) text behind)),
        whole_request limit continued (take n bytes) text m frame begun body,
      )
  behind_head n head frame begun (is_faulty text behind fault is shown) =
      stands_first (Fault (frame_refusal fault) (is_head_only head))
      (subst (BeginsWith (λ text. IsItemText limit continued text (Fault (frame_refusal fault) (is_head_only head))))
      (ap (λ t. take n bytes ++ t) (sym is) ∙ take-append-drop n bytes)
      (body_fault limit continued (take n bytes) text behind head frame fault begun shown))
  behind_head n head frame begun (is_part part) = inr (waits_behind limit continued bytes n head frame begun part)

  good_head : (n : ℕ) (head : HeadParts) (frame : Framing) → IsHeadText (take n bytes) head → framing limit head ≡ Ok frame → (due : Bool)
      → is_due continued head frame ≡ due → FirstOrWaits limit continued bytes
  good_head n head frame is_head framed true due = stands_first Continue (waiting_head limit continued bytes n head frame is_head framed due)
  good_head n head frame is_head framed false due =
      behind_head n head frame (record { is_head = is_head; framed = framed; due_is = due }) (body_cases limit frame (drop n bytes))

  some_head : (n : ℕ) (head : HeadParts) → IsHeadText (take n bytes) head → (r : Result Framing FrameFault) → framing limit head ≡ r
      → FirstOrWaits limit continued bytes
  some_head n head is_head (Err fault) bad =
      stands_first (Fault (frame_refusal fault) (is_head_only head)) (take n bytes, drop n bytes, sym (take-append-drop n bytes), bad_framing fault is_head bad)
  some_head n head is_head (Ok frame) framed = good_head n head frame is_head framed (is_due continued head frame) refl

  -- the limit is reached without an end
  long_head : head_end (take head_limit bytes) ≡ None → head_limit ≤ length bytes → FirstOrWaits limit continued bytes
  long_head none long =
      stands_first (Fault BadRequest false)
      (take head_limit bytes, drop head_limit bytes, sym (take-append-drop head_limit bytes), no_head (inr (none, length-take-le head_limit bytes long)))

  ended : (n : ℕ) → head_end bytes ≡ Some n → n ≤ head_limit → NotNot (FirstOrWaits limit continued bytes)
  ended n e small never =
      let size : length (take n bytes) ≡ n = length-take-le n bytes (end_within bytes n e).1 in
      either ((head : HeadParts) × IsHeadText (take n bytes) head) (λ h. elim h [
        | inl some ↦ never (some_head n some.0 some.1 (framing limit some.0) refl)
        | inr none ↦ never (stands_first (Fault BadRequest false)
            (take n bytes, drop n bytes, sym (take-append-drop n bytes), no_head (inl (end_take bytes n e, omega (arith, size), λ head t. none (head, t)))))
      ])

  first_or_waits : (o : Option ℕ) → head_end bytes ≡ o → NotNot (FirstOrWaits limit continued bytes)
  first_or_waits None e never = elim (cases_lt (length bytes) head_limit) [
    | inl short ↦ never (inr (inl (e, short)))
    | inr long ↦ never (long_head (none_front (take head_limit bytes) (drop head_limit bytes) (ap head_end (take-append-drop head_limit bytes) ∙ e)) long)
  ]
  first_or_waits (Some n) e never = elim (cases_lt head_limit n) [
    | inl large ↦ (
        let within : n ≤ length bytes = (end_within bytes n e).1 in
        let long : head_limit ≤ length bytes = omega arith in
        let size : length (take head_limit bytes) ≡ head_limit = length-take-le head_limit bytes long in
        never (long_head (front_before (take head_limit bytes) (drop head_limit bytes) n (ap head_end (take-append-drop head_limit bytes) ∙ e) (omega (arith, size))) long)
        )
    | inr small ↦ ended n e small never
  ]

-- ---- an item uses bytes, or tells a client to go on for once

first_less : (limit : ℕ) (continued : Bool) (bytes : List ℕ) (item : Item) (next : Place) → First limit continued bytes item next
    → left_to_read next < left_to_read (Open continued bytes)
first_less limit continued bytes (Fault refusal head_only) next f =
    subst (λ (p : Place). left_to_read p < left_to_read (Open continued bytes)) (sym f.goes_on) (some_left continued (length bytes + length bytes))
first_less limit continued bytes Continue next f =
    let unreported = not_reported continued (awaits_continue f.spelled.head f.spelled.frame) f.spelled.has_head.due_is in
    rw (f.goes_on, unreported, ← f.whole) (less_reported (length bytes))
first_less limit continued bytes (Request m) next f =
    let four = (end_within f.spelled.has_head.front (length f.spelled.has_head.front) f.spelled.has_head.is_head.ends).0 in
    let size : length f.text ≡ length f.spelled.has_head.front + length f.spelled.body =
    ap length f.spelled.has_head.whole ∙ length-append f.spelled.has_head.front f.spelled.body in
    subst (λ (p : Place). left_to_read p < left_to_read (Open continued bytes)) (sym f.goes_on)
    (subst (λ (b : List ℕ). left_to_read (if closes m.head then Shut else Open false f.behind) < length b + length b + (if continued then 1 else 2)) (sym f.whole)
    (less_behind (closes m.head) continued f.text f.behind (omega (arith, four, size))))

-- ---- one item after another

abbrev Spelled : ℕ → Place → Type 0
Spelled limit from = (items : List Item) × (left : Place) × ReadsItems limit from items left × Waits limit left

spelled_from : (n limit : ℕ) (from : Place) → left_to_read from < n → NotNot (Spelled limit from)
spelled_from zero limit from l never = absurd (omega arith)
spelled_from (suc n) limit Shut l never = never ([], Shut, refl, tt)
spelled_from (suc n) limit (Open continued bytes) l never =
    first_or_waits limit continued bytes (head_end bytes) refl (λ c. elim c [
      | inl first ↦ (
          let less : left_to_read first.1 < left_to_read (Open continued bytes) = first_less limit continued bytes first.0 first.1 first.2 in
          spelled_from n limit first.1 (omega arith) (λ s. never (first.0 ∷ s.0, s.1, (first.1, first.2, s.2), s.3))
          )
      | inr waits ↦ never ([], Open continued bytes, refl, waits)
    ])

-- it isn't so that a stream has no spelling
pub every_spelling : (limit : ℕ) (stream : List ℕ) → ((items : List Item) (left : Place) → Spells limit stream items left → ⊥) → ⊥
every_spelling limit stream none =
    spelled_from (suc (left_to_read (Open false stream))) limit (Open false stream) (omega arith)
    (λ s. none s.0 s.1 (record { reads = s.2; waits = s.3 }))
