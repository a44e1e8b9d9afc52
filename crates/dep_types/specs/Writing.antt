-- What a write does to the bytes that an outlet holds, and to its count of failures.
use Rattle.std.specs.Prelude.{◌≡◌, ◌≢◌, ℕ, ◌+◌, ◌-◌, ◌^◌, min, List, [], ◌++◌, Option}
use Rattle.std.specs.Io.KnownBytes.{Appends}

-- the prefix of some bytes, with something behind it
pub record IsProperPrefix (front whole : List ℕ) : Type 0 where
  pub rest : List ℕ
  pub joined : whole ≡ front ++ rest
  pub short : rest ≢ []

-- the outlet took a proper prefix of these bytes
abbrev pub TakesPart : Option (List ℕ) → Option (List ℕ) → List ℕ → Type 0
TakesPart old new bytes = (part : List ℕ) × IsProperPrefix part bytes × Appends old new part

-- a count after one more: the greatest number of 64 bits stays
abbrev pub next_count : ℕ → ℕ
next_count count = min (count + 1) (2 ^ 64 - 1)

-- one more failed
abbrev pub HasRisen : ℕ → ℕ → Type 0
HasRisen old new = new ≡ next_count old
