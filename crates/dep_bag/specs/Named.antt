-- How the path of a file with a good name is written.
use Rattle.std.specs.Prelude.{ℕ, ◌==◌, List, [], ◌∷◌, flat_map, codes, if◌then◌else◌}

-- only percent signs are written otherwise
abbrev pub percent_byte : ℕ → List ℕ
percent_byte b = if b == 37 then codes "%25" else b ∷ []

-- a path with its percent signs written so
abbrev pub percent_encoded : List ℕ → List ℕ
percent_encoded path = flat_map percent_byte path
