-- Vectors that grow at their end.
use Rattle.std.specs.Prelude.{◌≡◌, List, ◌++◌, Vec}

-- these items were added behind the others
abbrev pub Grows : {X Z : Type 0} → (old new : Vec X Z) → (more : List X) → Type 0
Grows old new more = new.items ≡ old.items ++ more
