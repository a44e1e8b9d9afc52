-- Maps by number and by name, and first refusals.
use Rattle.std.specs.Prelude.{Bool, true, false, List, [], ◌∷◌, Option, Some, None, option_map}
use Rattle.std.specs.Ordering.{nat_cmp}
use Rattle.std.specs.Cmp.Lexicographic.{slice_cmp}
use Rattle.std.specs.Coded.{Coded, coded_ℕ, coded_list}
use Rattle.std.specs.FinMap as map
use Rattle.std.specs.FinSet as set

-- a finite map from numbers
abbrev pub Numbered : Type 0 → Type 0
Numbered X = map.FinMap nat_cmp X

-- a finite map from names, in the order of their bytes
abbrev pub Named : Type 0 → Type 0
Named X = map.FinMap (slice_cmp nat_cmp) X

-- a finite set of numbers
abbrev pub Numbers : Type 0
Numbers = set.FinSet nat_cmp

abbrev pub numbered_code : {X : Type 0} → Coded X → Coded (Numbered X)
numbered_code x = map.code coded_ℕ x

abbrev pub named_code : {X : Type 0} → Coded X → Coded (Named X)
named_code x = map.code (coded_list coded_ℕ) x

-- the first of these that there is
abbrev pub first_of : {X : Type 0} → List (Option X) → Option X
first_of [] = None
first_of (None ∷ rest) = first_of rest
first_of (Some x ∷ rest) = Some x

-- a value that has to be read where it is there
abbrev pub optional : {X Y : Type 0} → (X → Option Y) → Option X → Option (Option Y)
optional read None = Some None
optional read (Some x) = option_map (λ y. Some y) (read x)

-- the value, read on
infixl 10 ◌>>=◌
abbrev pub ◌>>=◌ : {X Y : Type 0} → Option X → (X → Option Y) → Option Y
None >>= f = None
Some x >>= f = f x

-- a test that has to hold before what follows
abbrev pub provided : {X : Type 0} → Bool → Option X → Option X
provided true next = next
provided false next = None
