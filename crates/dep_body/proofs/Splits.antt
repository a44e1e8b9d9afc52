-- Bytes that begin with a line begin with one alone.
use Rattle.std.proofs.Common.{◌≡◌, ℕ, ◌+◌, ◌<◌, ◌≤◌, List, ◌++◌, length, take, drop, Some, None, sym, ap, ◌∙◌, arith, append_assoc, length-append}
use Rattle.std.proofs.Math.Seq.{take-append_seam, drop-append_seam}
use Rattle.dep_body.specs.Lines.{crlf, line_text, line_end, IsLine}
use Rattle.dep_head.proofs.MarkEnds.{end_more, some_none}
use Rattle.dep_body.proofs.LineEnds.{end_front, end_crlf}

pub fronts_same : (a b x y : List ℕ) → length a ≡ length b → a ++ x ≡ b ++ y → a ≡ b
fronts_same a b x y n e = sym (take-append_seam a x) ∙ ap (λ k. take k (a ++ x)) n ∙ ap (take (length b)) e ∙ take-append_seam b y

pub backs_same : (a b x y : List ℕ) → length a ≡ length b → a ++ x ≡ b ++ y → x ≡ y
backs_same a b x y n e = sym (drop-append_seam a x) ∙ ap (λ k. drop k (a ++ x)) n ∙ ap (drop (length b)) e ∙ drop-append_seam b y

-- where a line ends first
pub line_first : (line x : List ℕ) → IsLine line → line_end (line_text line ++ x) ≡ Some (length line + 2)
line_first line x h = end_more crlf (line_text line) x (length line + 2) h

lengths_same : (a b x y : List ℕ) → IsLine a → IsLine b → line_text a ++ x ≡ line_text b ++ y → length a ≡ length b
lengths_same a b x y h k e =
    let same : length a + 2 ≡ length b + 2 = cc (sym (line_first a x h) ∙ ap line_end e ∙ line_first b y k) in
    omega arith

pub text_length : (a : List ℕ) → length (line_text a) ≡ length a + 2
text_length a = length-append a crlf

pub lines_same : (a b x y : List ℕ) → IsLine a → IsLine b → line_text a ++ x ≡ line_text b ++ y → a ≡ b
lines_same a b x y h k e =
    fronts_same a b (crlf ++ x) (crlf ++ y) (lengths_same a b x y h k e) (sym (append_assoc a crlf x) ∙ e ∙ append_assoc b crlf y)

pub rests_same : (a b x y : List ℕ) → IsLine a → IsLine b → line_text a ++ x ≡ line_text b ++ y → x ≡ y
rests_same a b x y h k e =
    backs_same (line_text a) (line_text b) x y (omega (arith, text_length a, text_length b, lengths_same a b x y h k e)) e

-- bytes without an end, of at least the line's length, don't begin with a line
pub no_line : (line x last behind : List ℕ) → IsLine line → line_end last ≡ None → length line + 2 ≤ length last
    → last ++ behind ≡ line_text line ++ x → ⊥
no_line line x last behind h none long e =
    let found : line_end last ≡ Some (length line + 2) = end_front last behind (length line + 2) (ap line_end e ∙ line_first line x h) long in
    some_none (length line + 2) (sym found ∙ none)

-- and no bytes without an end are a line and more
pub no_line_all : (line x last : List ℕ) → IsLine line → line_end last ≡ None → last ≡ line_text line ++ x → ⊥
no_line_all line x last h none e =
    some_none (length line + 2) (sym (line_first line x h) ∙ sym (ap line_end e) ∙ none)

-- CR LF alone begins no line that isn't empty
pub no_line_crlf : (line x behind : List ℕ) → IsLine line → 0 < length line → crlf ++ behind ≡ line_text line ++ x → ⊥
no_line_crlf line x behind h some e =
    let same : 2 ≡ length line + 2 = cc (sym (end_crlf behind) ∙ ap line_end e ∙ line_first line x h) in absurd (omega arith)
