-- A line without an end, and one byte more.
use Rattle.std.proofs.Common.{◌≡◌, ℕ, ◌+◌, ◌==◌, Bool, true, false, List, [], ◌∷◌, ◌++◌, length, length-append, if◌then◌else◌, refl, sym, ap, subst, ◌∙◌, arith, append_assoc, append-nil, None}
use Rattle.std.specs.List.{fold}
use Rattle.std.proofs.lemmas.List.Sums.{fold-append}
use Rattle.dep_body.specs.Lines.{line_end, line_text, IsLine}
use Rattle.dep_body.specs.Standing.{IsBegunLine}
use Rattle.dep_body.proofs.LineEnds.{end_nil, end_none_byte, end_found_byte}

no_last : (front : List ℕ) (a : ℕ) → [] ≡ front ++ a ∷ [] → ⊥
no_last [] a e = cc
no_last (x ∷ front) a e = cc

last_same : (xs ys : List ℕ) (a b : ℕ) → xs ++ a ∷ [] ≡ ys ++ b ∷ [] → a ≡ b
last_same [] [] a b e = cc
last_same [] (y ∷ ys) a b e = let rest : [] ≡ ys ++ b ∷ [] = cc in absurd (no_last ys b rest)
last_same (x ∷ xs) [] a b e = let rest : xs ++ a ∷ [] ≡ [] = cc in absurd (no_last xs a (sym rest))
last_same (x ∷ xs) (y ∷ ys) a b e = let rest : xs ++ a ∷ [] ≡ ys ++ b ∷ [] = cc in last_same xs ys a b rest

pub begun_none : IsBegunLine [] [] false
begun_none = record { bytes_are = refl; plain = λ e front h. no_last front 13 h; no_end = end_nil }

-- a CR at the end tells that the state is behind a CR
after_cr_is : (bytes line front : List ℕ) (cr : Bool) → IsBegunLine bytes line cr → bytes ≡ front ++ 13 ∷ [] → cr ≡ true
after_cr_is bytes line front true h e = refl
after_cr_is bytes line front false h e = absurd (h.plain refl front (sym (h.bytes_are ∙ append-nil line) ∙ e))

pub begun_cr : (bytes line : List ℕ) (cr : Bool) → IsBegunLine bytes line cr → IsBegunLine (bytes ++ 13 ∷ []) bytes true
begun_cr bytes line cr h = record {
  bytes_are = refl;
  plain = λ e. absurd (let f : true ≡ false = e in cc);
  no_end = end_none_byte bytes 13 h.no_end (λ front is ten. absurd (omega arith));
}

pub begun_plain : (bytes line : List ℕ) (cr : Bool) (b : ℕ) → IsBegunLine bytes line cr → (b ≡ 13 → ⊥) → (cr ≡ true → b ≡ 10 → ⊥)
    → IsBegunLine (bytes ++ b ∷ []) (bytes ++ b ∷ []) false
begun_plain bytes line cr b h other no_end = record {
  bytes_are = sym (append-nil (bytes ++ b ∷ []));
  plain = λ e front is. other (last_same bytes front b 13 is);
  no_end = end_none_byte bytes b h.no_end (λ front is ten. no_end (after_cr_is bytes line front cr h is) ten);
}

-- LF behind a CR ends the line
pub begun_line : (bytes line : List ℕ) → IsBegunLine bytes line true → IsLine line
begun_line bytes line h = end_found_byte line (subst (λ s. line_end s ≡ None) h.bytes_are h.no_end)

pub begun_text : (bytes line : List ℕ) → IsBegunLine bytes line true → bytes ++ 10 ∷ [] ≡ line_text line
begun_text bytes line h = ap (λ s. s ++ 10 ∷ []) h.bytes_are ∙ append_assoc line (13 ∷ []) (10 ∷ [])

pub begun_length : (bytes line : List ℕ) → IsBegunLine bytes line true → length bytes + 1 ≡ length line + 2
begun_length bytes line h =
    let e : length bytes ≡ length line + 1 = ap length h.bytes_are ∙ length-append line (13 ∷ []) in omega arith

-- what a line's bytes make of a state, its CR included
fold_bytes : {B : Type 0} (f : B → ℕ → B) (a : B) (bytes line : List ℕ) (cr : Bool) → bytes ≡ line ++ (if cr then 13 ∷ [] else [])
    → fold f a bytes ≡ (if cr then f (fold f a line) 13 else fold f a line)
fold_bytes f a bytes line true e = ap (fold f a) e ∙ fold-append f a line (13 ∷ [])
fold_bytes f a bytes line false e = ap (fold f a) (e ∙ append-nil line)

by_byte : {B : Type 0} (test : Bool) (f : B → ℕ → B) (a : B) (bytes : List ℕ) (b : ℕ)
    → (if test then fold f a bytes else f (fold f a bytes) b) ≡ fold f a (if test then bytes else bytes ++ b ∷ [])
by_byte true f a bytes b = refl
by_byte false f a bytes b = sym (fold-append f a bytes (b ∷ []))

-- and with one byte more, which is kept back where it is a CR
pub reading_more : {B : Type 0} (f : B → ℕ → B) (a : B) (bytes line : List ℕ) (cr : Bool) (b : ℕ) → bytes ≡ line ++ (if cr then 13 ∷ [] else [])
    → (if b == 13 then (if cr then f (fold f a line) 13 else fold f a line) else f (if cr then f (fold f a line) 13 else fold f a line) b)
    ≡ fold f a (if b == 13 then bytes else bytes ++ b ∷ [])
reading_more f a bytes line cr b e = ap (λ x. if b == 13 then x else f x b) (sym (fold_bytes f a bytes line cr e)) ∙ by_byte (b == 13) f a bytes b
