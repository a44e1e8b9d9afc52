-- Whether a number stands twice, as the numbers come.
use Rattle.std.specs.Prelude.{ℕ, ◌==◌, ◌||◌, Bool, false, List, [], ◌∷◌}

-- a number that stands twice among these, or is one of those before
unfoldable pub stands_again : (before : ℕ → Bool) → List ℕ → Bool
stands_again before [] = false
stands_again before (u ∷ us) = before u || stands_again (λ k. before k || u == k) us
