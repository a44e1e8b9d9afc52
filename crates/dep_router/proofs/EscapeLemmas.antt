-- What the first octets decode to: an escape alone is one octet, and other octets stay as many.
use Rattle.std.proofs.Common.{◌≡◌, ◌<◌, ◌+◌, ◌*◌, ℕ, List, [], ◌∷◌, length, take, drop, slice_index_or, refl, arith, inl, inr}
use Rattle.std.proofs.lemmas.Bool.{cases_Bool}
use Rattle.std.specs.Char.{digit_value}
use Rattle.percent_encoding.specs.Percent.{percent_decode, is_escape}

-- where the front decodes to one octet, all of it represents that octet
pub decodes_whole : (path : List ℕ) (octet : ℕ) → 0 < length path → percent_decode (take 3 path) ≡ octet ∷ [] → percent_decode path ≡ octet ∷ percent_decode (drop (length (take 3 path)) path)
unfolding percent_decode
decodes_whole [] octet some one = absurd (omega (arith, some))
decodes_whole (a ∷ []) octet some one = one
decodes_whole (a ∷ b ∷ []) octet some one = cc
decodes_whole (a ∷ b ∷ c ∷ rest) octet some one = elim (cases_Bool (is_escape a b c)) [
  | inl escape ↦ let is = rw escape at one in rw escape (cc is)
  | inr plain ↦ let is = rw plain at one in cc is
]

-- where it doesn't, the first octet represents itself
pub decodes_first : (path : List ℕ) → 0 < length path → ((octet : ℕ) → percent_decode (take 3 path) ≡ octet ∷ [] → ⊥) → percent_decode path ≡ slice_index_or path 0 0 ∷ percent_decode (drop 1 path)
unfolding percent_decode
decodes_first [] some other = absurd (omega (arith, some))
decodes_first (a ∷ []) some other = absurd (other a refl)
decodes_first (a ∷ b ∷ []) some other = refl
decodes_first (a ∷ b ∷ c ∷ rest) some other = elim (cases_Bool (is_escape a b c)) [
  | inl escape ↦ absurd (other (16 * digit_value b + digit_value c) (rw escape refl))
  | inr plain ↦ rw plain refl
]
