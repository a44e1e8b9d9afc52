-- A text between quotation marks, and the members of several fields.
use Rattle.std.proofs.Common.{◌≡◌, ◌∙◌, ◌==◌, ◌≤◌, ◌&&◌, ◌||◌, ◌++◌, ◌∷◌, ℕ, List, [], length, Bool, true, false, cond, nat_lt, bytes_eq, sym, ap, refl, ne_eqb, arith, inl, inr}
use Rattle.std.specs.List.{join_with_byte, list_any, onto_first}
use Rattle.std.proofs.lemmas.Bool.{cases_Bool}
use Rattle.std.proofs.lemmas.List.Splits.{slice_split-cons_yes, slice_split-cons_no, length-slice_split}
use Rattle.dep_octets.specs.Octets.{members, members_of, parts, trimmed}
use Rattle.dep_fields.specs.Tags.{in_quotation_marks}

and_false : (p : Bool) → (p && false) ≡ false
and_false true = refl
and_false false = refl

and_swap : (p q r : Bool) → (p && (q && r)) ≡ (q && (p && r))
and_swap true q r = refl
and_swap false true r = refl
and_swap false false r = refl

longer_left : (a : List ℕ) (x : ℕ) → bytes_eq (a ++ x ∷ []) [] ≡ false
longer_left [] x = refl
longer_left (c ∷ a) x = refl

longer_right : (b : List ℕ) (y : ℕ) → bytes_eq [] (b ++ y ∷ []) ≡ false
longer_right [] y = refl
longer_right (d ∷ b) y = refl

same_end : (a b : List ℕ) (x y : ℕ) → bytes_eq (a ++ x ∷ []) (b ++ y ∷ []) ≡ ((x == y) && bytes_eq a b)
same_end [] [] x y = refl
same_end [] (d ∷ b) x y = ap (λ (e : Bool). (x == d) && e) (longer_right b y) ∙ and_false (x == d) ∙ sym (and_false (x == y))
same_end (c ∷ a) [] x y = ap (λ (e : Bool). (c == y) && e) (longer_left a x) ∙ and_false (c == y) ∙ sym (and_false (x == y))
same_end (c ∷ a) (d ∷ b) x y = ap (λ (e : Bool). (c == d) && e) (same_end a b x y) ∙ and_swap (c == d) (x == y) (bytes_eq a b)

pub quotes : (text behind between inner : List ℕ) (first last : ℕ) → text ≡ first ∷ behind → behind ≡ between ++ last ∷ []
    → bytes_eq text (in_quotation_marks inner) ≡ ((first == 34) && ((last == 34) && bytes_eq between inner))
quotes text behind between inner first last is has =
    ap (λ (t : List ℕ). bytes_eq t (in_quotation_marks inner)) (is ∙ ap (λ (t : List ℕ). first ∷ t) has)
    ∙ ap (λ (e : Bool). (first == 34) && e) (same_end between inner last 34)

pub unquoted : (p r : Bool) (last : ℕ) → (last ≡ 34 → ⊥) → (p && ((last == 34) && r)) ≡ false
unquoted p r last other = rw (ne_eqb last 34 other) (and_false p)

pub quoted : (r : Bool) (first last : ℕ) → first ≡ 34 → last ≡ 34 → ((first == 34) && ((last == 34) && r)) ≡ r
quoted r first last e f = rw (e, f) refl

-- ---- the members of several fields

onto_append : (x : ℕ) (a b : List (List ℕ)) → 1 ≤ length a → onto_first x (a ++ b) ≡ onto_first x a ++ b
onto_append x [] b h = absurd (omega (arith, h))
onto_append x (first ∷ a) b h = refl

parts_append : (xs ys : List ℕ) → parts (xs ++ 44 ∷ ys) ≡ parts xs ++ parts ys
parts_append [] ys = slice_split-cons_yes (λ b. b == 44) 44 ys refl
parts_append (x ∷ xs) ys = elim (cases_Bool (x == 44)) [
  | inl here ↦
      slice_split-cons_yes (λ b. b == 44) x (xs ++ 44 ∷ ys) here
      ∙ ap (λ ps. [] ∷ ps) (parts_append xs ys)
      ∙ ap (λ ps. ps ++ parts ys) (sym (slice_split-cons_yes (λ b. b == 44) x xs here))
  | inr other ↦
      slice_split-cons_no (λ b. b == 44) x (xs ++ 44 ∷ ys) other
      ∙ ap (onto_first x) (parts_append xs ys)
      ∙ onto_append x (parts xs) (parts ys) (omega (arith, length-slice_split (λ b. b == 44) xs))
      ∙ ap (λ ps. ps ++ parts ys) (sym (slice_split-cons_no (λ b. b == 44) x xs other))
]

or_grouped : (a b c : Bool) → (a || (b || c)) ≡ ((a || b) || c)
or_grouped true b c = refl
or_grouped false b c = refl

or_nothing : (a : Bool) → a ≡ (a || false)
or_nothing true = refl
or_nothing false = refl

no_members : members [] ≡ []
unfolding trimmed
no_members = refl

some_of_two : (p : List ℕ → Bool) (a b : List (List ℕ)) → list_any p (members_of (a ++ b)) ≡ (list_any p (members_of a) || list_any p (members_of b))
some_of_two p [] b = refl
some_of_two p (first ∷ a) b = elim (nat_lt 0 (length (trimmed first))) as (λ kept. nat_lt 0 (length (trimmed first)) ≡ kept → list_any p (cond kept (trimmed first ∷ members_of (a ++ b)) (members_of (a ++ b))) ≡ (list_any p (cond kept (trimmed first ∷ members_of a) (members_of a)) || list_any p (members_of b))) [
  | true ↦ λ e. ap (λ r. p (trimmed first) || r) (some_of_two p a b) ∙ or_grouped (p (trimmed first)) (list_any p (members_of a)) (list_any p (members_of b))
  | false ↦ λ e. some_of_two p a b
] refl

-- some member of one comma list is some member of one of its fields
pub some_joined : (p : List ℕ → Bool) (texts : List (List ℕ)) → list_any p (members (join_with_byte 44 texts)) ≡ list_any (λ t. list_any p (members t)) texts
some_joined p [] = ap (list_any p) no_members
some_joined p (t ∷ []) = or_nothing (list_any p (members t))
some_joined p (t ∷ u ∷ more) =
    ap (λ ps. list_any p (members_of ps)) (parts_append t (join_with_byte 44 (u ∷ more)))
    ∙ some_of_two p (parts t) (parts (join_with_byte 44 (u ∷ more)))
    ∙ ap (λ r. list_any p (members t) || r) (some_joined p (u ∷ more))
