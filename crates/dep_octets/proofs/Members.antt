-- The parts of a list, from the first comma on, and what they add to its members.
use Rattle.std.proofs.Common.{◌≡◌, ◌+◌, ◌≤◌, ◌==◌, ℕ, Bool, true, false, not, List, [], ◌∷◌, length, take, drop, nat_lt, Some, None, refl, arith, inl, inr, lt-ltb, le-ltb, All, rules}
use Rattle.std.proofs.lemmas.Bool.{cases_lt, cases_Bool}
use Rattle.std.proofs.lemmas.List.Splits.{slice_split_first, slice_split_none}
use Rattle.std.specs.List.{position, position_or_len, prefix_len}
use Rattle.dep_octets.specs.Octets.{parts, trimmed, members_of}

none_of : (p : ℕ → Bool) (xs : List ℕ) → length xs ≤ prefix_len (λ x. not (p x)) xs → All (λ x. p x ≡ false) xs
none_of p [] h = search rules
none_of p (x ∷ xs) h = elim (cases_Bool (p x)) [
  | inl passes ↦ let bad = rw passes at h in absurd (omega (arith, bad))
  | inr fails ↦ let rest = rw fails at h in let later = none_of p xs (omega (arith, rest)) in search (rules, fails, later)
]

pub parts_at : (text : List ℕ) (i : ℕ) → position (λ b. b == 44) text ≡ Some i → parts text ≡ take i text ∷ parts (drop (i + 1) text)
parts_at text i h =
    let p : ℕ → Bool = λ b. b == 44 in
    elim (cases_lt (position_or_len p text) (length text)) [
      | inl lt ↦
          let is = rw (lt-ltb _ _ lt) at h in
          let same : position_or_len p text ≡ i = cc is in
          rw same at (slice_split_first p text 0 lt)
      | inr ge ↦ let is = rw (le-ltb _ _ ge) at h in cc is
    ]

pub parts_none : (text : List ℕ) → position (λ b. b == 44) text ≡ None → parts text ≡ text ∷ []
parts_none text h =
    let p : ℕ → Bool = λ b. b == 44 in
    elim (cases_lt (position_or_len p text) (length text)) [
      | inl lt ↦ let is = rw (lt-ltb _ _ lt) at h in cc is
      | inr ge ↦ slice_split_none p text (none_of p text ge)
    ]

pub members_of-empty : (part : List ℕ) (more : List (List ℕ)) → length (trimmed part) ≡ 0 → members_of (part ∷ more) ≡ members_of more
members_of-empty part more h =
    let none : nat_lt 0 (length (trimmed part)) ≡ false = le-ltb 0 _ (omega (arith, h)) in
    rw none refl

pub members_of-next : (part : List ℕ) (more : List (List ℕ)) → (length (trimmed part) ≡ 0 → ⊥) → members_of (part ∷ more) ≡ trimmed part ∷ members_of more
members_of-next part more h =
    let some : nat_lt 0 (length (trimmed part)) ≡ true = lt-ltb 0 _ (omega (arith, h)) in
    rw some refl

pub members_of-nil : members_of [] ≡ []
members_of-nil = refl
