-- What stands first in bytes behind the line of value 0: trailers of one kind at most.
use Rattle.std.proofs.Common.{◌≡◌, ℕ, ◌+◌, ◌-◌, ◌<◌, ◌≤◌, List, [], ◌∷◌, ◌++◌, length, All, Some, None, refl, sym, ap, ◌∙◌, arith, append_assoc, length-append}
use Rattle.std.proofs.lemmas.List.Elements.{All-head, All-tail}
use Rattle.dep_body.specs.Lines.{crlf, line_text, line_end}
use Rattle.dep_body.specs.Body.{IsTrailer, lines_text, section_limit}
use Rattle.dep_body.specs.declared.frame.FrameFault.{FrameFault}
use Rattle.dep_head.proofs.MarkEnds.{some_none}
use Rattle.dep_body.proofs.LineEnds.{end_crlf, end_front}
use Rattle.dep_body.proofs.Splits.{lines_same, rests_same, no_line, no_line_all, no_line_crlf}

-- what stands first in bytes, and how many of them it is
pub data Verdict : Type 0 where
  Ended : (used : ℕ) → Verdict
  Failed : (fault : FrameFault) (used : ℕ) → Verdict
  Waits : Verdict
  Goes : Verdict

-- the trailers end
pub record Ends (bytes : List ℕ) (lines : List (List ℕ)) : Type 0 where
  pub behind : List ℕ
  pub are : All IsTrailer lines
  pub bytes_are : bytes ≡ lines_text lines ++ (crlf ++ behind)
  pub small : length (lines_text lines) + 2 ≤ section_limit

-- they are too long
pub record Long (bytes : List ℕ) : Type 0 where
  pub lines : List (List ℕ)
  pub last : List ℕ
  pub behind : List ℕ
  pub are : All IsTrailer lines
  pub bytes_are : bytes ≡ lines_text lines ++ (last ++ behind)
  pub no_end : line_end last ≡ None
  pub long : length (lines_text lines) + length last ≡ section_limit

-- they go on
pub record Begun (bytes : List ℕ) : Type 0 where
  pub lines : List (List ℕ)
  pub last : List ℕ
  pub are : All IsTrailer lines
  pub bytes_are : bytes ≡ lines_text lines ++ last
  pub no_end : line_end last ≡ None
  pub short : length (lines_text lines) + length last < section_limit

-- no trailer line stands first in the bytes and within the room
NoLine : ℕ → List ℕ → Type 0
NoLine room bytes = (line x : List ℕ) → IsTrailer line → length line + 2 ≤ room → bytes ≡ line_text line ++ x → ⊥

line_size : (l : List ℕ) (ls : List (List ℕ)) → length (lines_text (l ∷ ls)) ≡ length l + 2 + length (lines_text ls)
line_size l ls = length-append (line_text l) (lines_text ls) ∙ ap (λ n. n + length (lines_text ls)) (length-append l crlf)

-- two lists of lines that no line follows
pub record Same (ms ns : List (List ℕ)) (x y : List ℕ) : Type 0 where
  pub lines : ms ≡ ns
  pub rest : x ≡ y

same_lines : (size r s : ℕ) (ms ns : List (List ℕ)) (x y : List ℕ) → All IsTrailer ms → All IsTrailer ns
    → size + (length (lines_text ms) + r) ≡ section_limit → size + (length (lines_text ns) + s) ≡ section_limit
    → NoLine r x → NoLine s y → lines_text ms ++ x ≡ lines_text ns ++ y → Same ms ns x y
unfolding NoLine
same_lines size r s [] [] x y a b h k p q e = record { lines = refl; rest = e }
same_lines size r s [] (n ∷ ns) x y a b h k p q e =
    absurd (p n (lines_text ns ++ y) (All-head IsTrailer n ns b) (omega (arith, h, k, line_size n ns)) (e ∙ append_assoc (line_text n) (lines_text ns) y))
same_lines size r s (m ∷ ms) [] x y a b h k p q e =
    absurd (q m (lines_text ms ++ x) (All-head IsTrailer m ms a) (omega (arith, h, k, line_size m ms)) (sym e ∙ append_assoc (line_text m) (lines_text ms) x))
same_lines size r s (m ∷ ms) (n ∷ ns) x y a b h k p q e =
    let f : line_text m ++ (lines_text ms ++ x) ≡ line_text n ++ (lines_text ns ++ y) =
    sym (append_assoc (line_text m) (lines_text ms) x) ∙ e ∙ append_assoc (line_text n) (lines_text ns) y in
    let first = lines_same m n _ _ (All-head IsTrailer m ms a).0 (All-head IsTrailer n ns b).0 f in
    let rest = rests_same m n _ _ (All-head IsTrailer m ms a).0 (All-head IsTrailer n ns b).0 f in
    let long : length m ≡ length n = ap length first in
    let later =
    same_lines (size + (length m + 2)) r s ms ns x y (All-tail IsTrailer m ms a) (All-tail IsTrailer n ns b)
    (omega (arith, h, line_size m ms)) (omega (arith, k, line_size n ns, long)) p q rest in
    record { lines = ap (λ l. l ∷ ms) first ∙ ap (λ ls. n ∷ ls) later.lines; rest = later.rest }

ends_no_line : (room : ℕ) (behind : List ℕ) → NoLine room (crlf ++ behind)
unfolding NoLine
ends_no_line room behind line x t fits e = no_line_crlf line x behind t.0 t.1 e

long_no_line : (last behind : List ℕ) → line_end last ≡ None → NoLine (length last) (last ++ behind)
unfolding NoLine
long_no_line last behind none line x t fits e = no_line line x last behind t.0 none fits e

begun_no_line : (room : ℕ) (last : List ℕ) → line_end last ≡ None → NoLine room last
unfolding NoLine
begun_no_line room last none line x t fits e = no_line_all line x last t.0 none e

left : (a b : ℕ) → a + b ≤ section_limit → (r : ℕ) × (0 + (a + r) ≡ section_limit)
left a b h = (section_limit - a, omega arith)

pub ends_ends : (bytes : List ℕ) (ms ns : List (List ℕ)) → Ends bytes ms → Ends bytes ns → ms ≡ ns
ends_ends bytes ms ns h k =
    let r = left _ _ h.small in
    let s = left _ _ k.small in
    (same_lines 0 r.0 s.0 ms ns _ _ h.are k.are r.1 s.1 (ends_no_line r.0 h.behind) (ends_no_line s.0 k.behind) (sym h.bytes_are ∙ k.bytes_are)).lines

no_crlf : (last behind more : List ℕ) → line_end last ≡ None → 2 ≤ length last → last ++ behind ≡ crlf ++ more → ⊥
no_crlf last behind more none long e =
    let found : line_end last ≡ Some 2 = end_front last behind 2 (ap line_end e ∙ end_crlf more) long in
    some_none 2 (sym found ∙ none)

pub ends_long : (bytes : List ℕ) (ms : List (List ℕ)) → Ends bytes ms → Long bytes → ⊥
ends_long bytes ms h k =
    let r = left _ _ h.small in
    let same = same_lines 0 r.0 (length k.last) ms k.lines _ _ h.are k.are r.1 (omega (arith, k.long)) (ends_no_line r.0 h.behind) (long_no_line k.last k.behind k.no_end) (sym h.bytes_are ∙ k.bytes_are) in
    no_crlf k.last k.behind h.behind k.no_end (omega (arith, k.long, h.small, ap (λ ls. length (lines_text ls)) same.lines)) (sym same.rest)

pub ends_begun : (bytes : List ℕ) (ms : List (List ℕ)) → Ends bytes ms → Begun bytes → ⊥
ends_begun bytes ms h k =
    let r = left _ _ h.small in
    let s = left (length (lines_text k.lines)) (length k.last) (omega (arith, k.short)) in
    let same = same_lines 0 r.0 s.0 ms k.lines _ _ h.are k.are r.1 s.1 (ends_no_line r.0 h.behind) (begun_no_line s.0 k.last k.no_end) (sym h.bytes_are ∙ k.bytes_are) in
    some_none 2 (sym (end_crlf h.behind) ∙ ap line_end same.rest ∙ k.no_end)

pub long_begun : (bytes : List ℕ) → Long bytes → Begun bytes → ⊥
long_begun bytes h k =
    let s = left (length (lines_text k.lines)) (length k.last) (omega (arith, k.short)) in
    let same = same_lines 0 (length h.last) s.0 h.lines k.lines _ _ h.are k.are (omega (arith, h.long)) s.1 (long_no_line h.last h.behind h.no_end) (begun_no_line s.0 k.last k.no_end) (sym h.bytes_are ∙ k.bytes_are) in
    let whole : length h.last + length h.behind ≡ length k.last = sym (length-append h.last h.behind) ∙ ap length same.rest in
    absurd (omega (arith, whole, h.long, k.short, ap (λ ls. length (lines_text ls)) same.lines))
