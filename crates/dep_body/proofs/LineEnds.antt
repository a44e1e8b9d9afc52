-- Where the first CR LF of bytes ends.
use Rattle.std.proofs.Common.{◌≡◌, ℕ, suc, ◌+◌, ◌≤◌, Bool, true, false, List, [], ◌∷◌, ◌++◌, length, Some, None, nat_eq, refl, ap, ◌∙◌, arith, inl, inr}
use Rattle.std.proofs.lemmas.Bool.{cases_Bool}
use Rattle.std.proofs.lemmas.Bool.Decides.{nat_tests}
use Rattle.std.specs.List.{starts_with}
use Rattle.std.specs.Option.{option_map}
use Rattle.dep_head.specs.Marks.{mark_end}
use Rattle.dep_head.proofs.MarkEnds.{end_if, end_within, none_or, none_suc}
use Rattle.dep_head.proofs.MarkEnds as marks
use Rattle.dep_body.specs.Lines.{line_end, crlf, IsLine}

-- whether bytes begin with CR LF
abbrev begins : List ℕ → Bool
begins bytes = starts_with nat_eq bytes crlf

pub end_nil : line_end [] ≡ None
unfolding mark_end
end_nil = refl

pub end_one : (a : ℕ) → line_end (a ∷ []) ≡ None
end_one a = none_or _ (λ n e. let w = end_within crlf (a ∷ []) n e in omega (arith, w.0, w.1))

pub end_crlf : (more : List ℕ) → line_end (13 ∷ 10 ∷ more) ≡ Some 2
unfolding mark_end
end_crlf more = refl

-- an end that lies in a front is the front's
pub end_front : (bytes more : List ℕ) (n : ℕ) → line_end (bytes ++ more) ≡ Some n → n ≤ length bytes → line_end bytes ≡ Some n
end_front bytes more n e l = marks.end_front crlf bytes more n (omega arith) e l

-- one byte more ends a line only where CR LF stands at its end
none_if : (t : Bool) (bytes : List ℕ) (byte : ℕ) → end_if t crlf bytes ≡ None → (line_end bytes ≡ None → line_end (bytes ++ byte ∷ []) ≡ None)
    → end_if t crlf (bytes ++ byte ∷ []) ≡ None
unfolding end_if
none_if true bytes byte e k = cc
none_if false bytes byte e k = ap (option_map suc) (k (none_suc (line_end bytes) e))

two_plain : (a byte : ℕ) → ((front : List ℕ) → a ∷ [] ≡ front ++ 13 ∷ [] → byte ≡ 10 → ⊥) → begins (a ∷ byte ∷ []) ≡ false
two_plain a byte h =
    elim (cases_Bool (nat_eq 13 a)) [
      | inl t ↦
          let is : a ≡ 13 = grind (arith, nat_tests) in
          elim (cases_Bool (nat_eq 10 byte)) [
            | inl u ↦ let so : byte ≡ 10 = grind (arith, nat_tests) in absurd (h [] (ap (λ x. x ∷ []) is) so)
            | inr v ↦ rw (t, v) refl
          ]
      | inr f ↦ rw f refl
    ]

pub end_none_byte : (bytes : List ℕ) (byte : ℕ) → line_end bytes ≡ None → ((front : List ℕ) → bytes ≡ front ++ 13 ∷ [] → byte ≡ 10 → ⊥)
    → line_end (bytes ++ byte ∷ []) ≡ None
unfolding mark_end end_if
end_none_byte [] byte e h = end_one byte
end_none_byte (a ∷ []) byte e h = ap (λ t. end_if t crlf (byte ∷ [])) (two_plain a byte h) ∙ ap (option_map suc) (end_one byte)
end_none_byte (a ∷ b ∷ bytes) byte e h =
    none_if (begins (a ∷ b ∷ bytes)) (b ∷ bytes) byte e
    (λ n. end_none_byte (b ∷ bytes) byte n (λ front is. h (a ∷ front) (ap (λ l. a ∷ l) is)))

found_if : (t : Bool) (bytes : List ℕ) (n : ℕ) → end_if t crlf (bytes ++ 13 ∷ []) ≡ None
    → (line_end (bytes ++ 13 ∷ []) ≡ None → line_end (bytes ++ crlf) ≡ Some n) → end_if t crlf (bytes ++ crlf) ≡ Some (suc n)
unfolding end_if
found_if true bytes n e k = cc
found_if false bytes n e k = ap (option_map suc) (k (none_suc (line_end (bytes ++ 13 ∷ [])) e))

-- a line without an end that a CR ends is a line once LF comes
pub end_found_byte : (line : List ℕ) → line_end (line ++ 13 ∷ []) ≡ None → IsLine line
unfolding mark_end end_if
end_found_byte [] e = refl
end_found_byte (a ∷ []) e = found_if (begins (a ∷ 13 ∷ [])) [] 2 e (λ n. refl)
end_found_byte (a ∷ b ∷ bytes) e =
    let found = found_if (begins (a ∷ b ∷ bytes)) (b ∷ bytes) (length (b ∷ bytes) + 2) e (end_found_byte (b ∷ bytes)) in
    let same : suc (length (b ∷ bytes) + 2) ≡ length (a ∷ b ∷ bytes) + 2 = omega arith in
    found ∙ ap Some same
