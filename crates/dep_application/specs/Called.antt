-- The name by which the program was called.
use Rattle.std.specs.Prelude.{◌≡◌, ◌⊎◌, ◌++◌, ℕ, List, codes}

-- the last part of the path, behind its last slash, is `swordd_host`
abbrev pub IsHostName : (path : List ℕ) → Type 0
IsHostName path =
    (path ≡ codes "swordd_host") ⊎ ((folder : List ℕ) × (path ≡ folder ++ codes "/swordd_host"))
