-- What the first field adds to the values of a name.
use Rattle.std.proofs.Common.{◌≡◌, ℕ, suc, cond, List, [], ◌∷◌, map, filter, refl, ap, arith, inl, inr}
use Rattle.std.proofs.lemmas.Bool.{cases_Bool}
use Rattle.std.proofs.lemmas.Slice.Eq.{bytes_eq-Decides}
use Rattle.std.specs.Char.{to_ascii_lowercase}
use Rattle.httparse.specs.declared.spans.HeaderSpan.{HeaderSpan}
use Rattle.dep_head.specs.Head.{values_of, is_named}
use Rattle.dep_head.specs.Spans.{AreWithin}

pub values_of-nil : (name : List ℕ) → values_of [] name ≡ []
unfolding values_of
values_of-nil name = refl

pub values_of-named : (field : List ℕ × List ℕ) (fields : List (List ℕ × List ℕ)) (name : List ℕ)
    → map to_ascii_lowercase field.0 ≡ map to_ascii_lowercase name → values_of (field ∷ fields) name ≡ field.1 ∷ values_of fields name
unfolding values_of
values_of-named field fields name same =
    ap (λ b. map (λ f. f.1) (cond b (field ∷ filter (is_named name) fields) (filter (is_named name) fields))) ((bytes_eq-Decides _ _).1 same)

pub values_of-other : (field : List ℕ × List ℕ) (fields : List (List ℕ × List ℕ)) (name : List ℕ)
    → (map to_ascii_lowercase field.0 ≡ map to_ascii_lowercase name → ⊥) → values_of (field ∷ fields) name ≡ values_of fields name
unfolding values_of
values_of-other field fields name other =
    elim (cases_Bool (is_named name field)) [
      | inl t ↦ absurd (other ((bytes_eq-Decides _ _).0 t))
      | inr f ↦ ap (λ b. map (λ f. f.1) (cond b (field ∷ filter (is_named name) fields) (filter (is_named name) fields))) f
    ]

-- the spans after the first lie in the text
pub AreWithin-rest : (text : List ℕ) (first : HeaderSpan) (rest : List HeaderSpan) → AreWithin text (first ∷ rest) → AreWithin text rest
AreWithin-rest text first rest h = λ k d below. h (suc k) d (omega arith)
