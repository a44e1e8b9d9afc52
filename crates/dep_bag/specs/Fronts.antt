-- What stands behind a prefix of a text.
use Rattle.std.specs.Prelude.{◌≡◌, ◌≢◌, ℕ, List, Option, MatchOption}

-- what makes the text behind the front, if something does
abbrev pub IsBehind : (front_with : List ℕ → List ℕ) → (text : List ℕ) → Option (List ℕ) → Type 0
IsBehind front_with text found = MatchOption found ((rest : List ℕ) → text ≢ front_with rest)
    (λ rest. text ≡ front_with rest)
