-- Outlets that hold bytes back.
use Rattle.std.specs.Prelude.{◌≡◌, ◌⊎◌, ℕ, Bool, true, List, []}

-- an outlet that holds these bytes back holds none, or has given up
abbrev pub IsFlushed : (held : List ℕ) → (has_failed : Bool) → Type 0
IsFlushed held has_failed = (held ≡ []) ⊎ (has_failed ≡ true)
