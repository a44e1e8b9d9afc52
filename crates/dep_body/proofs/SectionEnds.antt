-- Trailers end at their first empty line.
use Rattle.std.proofs.Common.{◌≡◌, ℕ, suc, zero, ◌+◌, ◌<◌, Bool, true, false, ◌&&◌, List, [], ◌∷◌, ◌++◌, length, All, Option, Some, None, nat_eq, if◌then◌else◌, refl, sym, ap, ◌∙◌, arith, inl, inr, append_assoc, length-append}
use Rattle.std.proofs.lemmas.List.Elements.{All-head, All-tail}
use Rattle.std.specs.List.{starts_with}
use Rattle.std.specs.Option.{option_map}
use Rattle.dep_head.specs.Head.{head_end, empty_line}
use Rattle.dep_head.proofs.MarkEnds.{end_if, end_is, ends_by, none_suc, some_none}
use Rattle.dep_body.specs.Lines.{crlf, line_text, line_end}
use Rattle.dep_body.specs.Body.{IsTrailer, lines_text, IsSection, IsBegunSection}
use Rattle.dep_body.specs.Trailers.{section_end}
use Rattle.dep_body.proofs.Splits.{text_length, line_first}

abbrev begins : List ℕ → Bool
begins bytes = starts_with nat_eq bytes crlf

begins_empty : List ℕ → Bool
begins_empty bytes = starts_with nat_eq bytes empty_line

no_and : (t : Bool) → (t && false) ≡ false
no_and true = refl
no_and false = refl

less : (p q x : Bool) → (p && (q && true)) ≡ false → (p && (q && x)) ≡ false
less true true x f = absurd (let no : true ≡ false = f in cc)
less true false x f = refl
less false q x f = refl

-- what doesn't begin with CR LF doesn't begin with CR LF CR LF
not_empty : (bytes : List ℕ) → begins bytes ≡ false → begins_empty bytes ≡ false
unfolding begins_empty
not_empty [] f = refl
not_empty (a ∷ []) f = no_and (nat_eq 13 a)
not_empty (a ∷ b ∷ bytes) f = less (nat_eq 13 a) (nat_eq 10 b) (starts_with nat_eq bytes crlf) f

-- the choice of `head_end`, for a test that is given
head_if : Bool → List ℕ → Option ℕ
head_if t bytes = if t then Some 4 else option_map suc (head_end bytes)

head_step : (a : ℕ) (bytes : List ℕ) → begins_empty (a ∷ bytes) ≡ false → head_end (a ∷ bytes) ≡ option_map suc (head_end bytes)
unfolding head_end begins_empty head_if
head_step a bytes f = ap (λ t. head_if t bytes) f

-- bytes without an end
none_later : (t : Bool) (bytes : List ℕ) → end_if t crlf bytes ≡ None → (t ≡ false) × (line_end bytes ≡ None)
unfolding end_if
none_later true bytes e = absurd (some_none 2 e)
none_later false bytes e = (refl, none_suc (line_end bytes) e)

-- an end that is n bytes later
shift : ℕ → Option ℕ → Option ℕ
shift zero o = o
shift (suc n) o = option_map suc (shift n o)

shift_none : (n : ℕ) → shift n None ≡ None
unfolding shift
shift_none zero = refl
shift_none (suc n) = ap (option_map suc) (shift_none n)

shift_some : (n k : ℕ) → shift n (Some k) ≡ Some (n + k)
unfolding shift
shift_some zero k = ap Some (let e : k ≡ 0 + k = omega arith in e)
shift_some (suc n) k = ap (option_map suc) (shift_some n k) ∙ ap Some (let e : suc (n + k) ≡ suc n + k = omega arith in e)

line_step : (a : ℕ) (line z : List ℕ) → line_end (line_text (a ∷ line) ++ z) ≡ Some (length (a ∷ line) + 2)
    → (begins (line_text (a ∷ line) ++ z) ≡ false) × (line_end (line_text line ++ z) ≡ Some (length line + 2))
line_step a line z e =
    elim (ends_by crlf a (length (a ∷ line) + 2) (line_text line ++ z) e) [
      | inl h ↦ absurd (let two : length (a ∷ line) + 2 ≡ 2 = h.1 in omega arith)
      | inr h ↦ let same : h.0 ≡ length line + 2 = omega (arith, h.3) in (h.1, h.2 ∙ ap Some same)
    ]

-- no CR LF CR LF begins within a line
skip : (line z : List ℕ) → line_end (line_text line ++ z) ≡ Some (length line + 2) → head_end (line_text line ++ z) ≡ shift (length line) (head_end (crlf ++ z))
unfolding shift
skip [] z e = refl
skip (a ∷ line) z e =
    let both = line_step a line z e in
    head_step a (line_text line ++ z) (not_empty (a ∷ (line_text line ++ z)) both.0) ∙ ap (option_map suc) (skip line z both.1)

-- behind a line's CR LF stands an empty line, or what ends later
crlf_if : (t : Bool) (z : List ℕ) → head_if t (10 ∷ z) ≡ shift 2 (if t then Some 2 else head_end z)
unfolding head_if shift head_end
crlf_if true z = refl
crlf_if false z = refl

head_is : (z : List ℕ) → head_end (crlf ++ z) ≡ head_if (begins z) (10 ∷ z)
unfolding head_end head_if
head_is z = refl

section_is : (z : List ℕ) → section_end z ≡ (if begins z then Some 2 else head_end z)
section_is z = refl

crlf_step : (z : List ℕ) → head_end (crlf ++ z) ≡ shift 2 (section_end z)
crlf_step z = head_is z ∙ crlf_if (begins z) z ∙ ap (shift 2) (sym (section_is z))

begins_line : (line z : List ℕ) → IsTrailer line → begins (line_text line ++ z) ≡ false
begins_line [] z h = absurd (let some : 0 < 0 = h.1 in omega arith)
begins_line (a ∷ line) z h = (line_step a line z (line_first (a ∷ line) z h.0)).0

-- a trailer line only moves the end
step : (line z : List ℕ) → IsTrailer line → section_end (line_text line ++ z) ≡ shift (length line) (shift 2 (section_end z))
step line z h =
    section_is (line_text line ++ z) ∙ ap (λ (t : Bool). if t then Some 2 else head_end (line_text line ++ z)) (begins_line line z h)
    ∙ skip line z (line_first line z h.0) ∙ ap (shift (length line)) (crlf_step z)

whole_lines : (lines : List (List ℕ)) → All IsTrailer lines → section_end (lines_text lines ++ crlf) ≡ Some (length (lines_text lines ++ crlf))
whole_lines [] h = refl
whole_lines (l ∷ ls) h =
    let split = append_assoc (line_text l) (lines_text ls) crlf in
    let size : length (line_text l ++ (lines_text ls ++ crlf)) ≡ length l + 2 + length (lines_text ls ++ crlf) =
    length-append (line_text l) (lines_text ls ++ crlf) ∙ ap (λ n. n + length (lines_text ls ++ crlf)) (text_length l) in
    let sum : length l + (2 + length (lines_text ls ++ crlf)) ≡ length ((line_text l ++ lines_text ls) ++ crlf) = omega (arith, size, ap length split) in
    ap section_end split ∙ step l (lines_text ls ++ crlf) (All-head IsTrailer l ls h)
    ∙ ap (λ o. shift (length l) (shift 2 o)) (whole_lines ls (All-tail IsTrailer l ls h))
    ∙ ap (shift (length l)) (shift_some 2 (length (lines_text ls ++ crlf))) ∙ shift_some (length l) (2 + length (lines_text ls ++ crlf)) ∙ ap Some sum

head_none : (z : List ℕ) → line_end z ≡ None → head_end z ≡ None
unfolding head_end
head_none [] e = refl
head_none (a ∷ z) e =
    let both = none_later (begins (a ∷ z)) z (sym (end_is crlf a z) ∙ e) in
    head_step a z (not_empty (a ∷ z) both.0) ∙ ap (option_map suc) (head_none z both.1)

begins_none : (z : List ℕ) → line_end z ≡ None → begins z ≡ false
begins_none [] e = refl
begins_none (a ∷ z) e = (none_later (begins (a ∷ z)) z (sym (end_is crlf a z) ∙ e)).0

begun_lines : (lines : List (List ℕ)) (last : List ℕ) → All IsTrailer lines → line_end last ≡ None → section_end (lines_text lines ++ last) ≡ None
begun_lines [] last h e = section_is last ∙ ap (λ (t : Bool). if t then Some 2 else head_end last) (begins_none last e) ∙ head_none last e
begun_lines (l ∷ ls) last h e =
    ap section_end (append_assoc (line_text l) (lines_text ls) last) ∙ step l (lines_text ls ++ last) (All-head IsTrailer l ls h)
    ∙ ap (λ o. shift (length l) (shift 2 o)) (begun_lines ls last (All-tail IsTrailer l ls h) e)
    ∙ ap (shift (length l)) (shift_none 2) ∙ shift_none (length l)

pub section_whole : (text : List ℕ) (lines : List (List ℕ)) → IsSection text lines → section_end text ≡ Some (length text)
section_whole text lines h = ap section_end h.text_is ∙ whole_lines lines h.are ∙ ap (λ t. Some (length t)) (sym h.text_is)

pub section_begun : (text : List ℕ) → IsBegunSection text → section_end text ≡ None
section_begun text h = ap section_end h.text_is ∙ begun_lines h.lines h.last h.are h.no_end
