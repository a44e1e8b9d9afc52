-- A loop that looks at one item after another.
use Rattle.std.proofs.Common.{◌≡◌, ◌<◌, ◌+◌, ℕ, Bool, true, false, List, get_or, length, refl, subst, arith}
use Rattle.std.proofs.Math.Dec.{ltb}
use Rattle.std.proofs.lemmas.Bool.{ltb-true, ltb-false}
use Rattle.std.proofs.lemmas.List.{get_or_default}

-- what holds of each item before the nth, and of that one, holds of one item more
pub one_more : {X : Type 0} (P : ℕ → X → Type 0) (xs : List X) (n : ℕ) (x : X) → n < length xs
    → ((i : ℕ) (none : X) → i < n → P i (get_or xs i none)) → P n (get_or xs n x)
    → (i : ℕ) (none : X) → i < n + 1 → P i (get_or xs i none)
one_more P xs n x inside before this i none within = go (ltb i n) refl
  where
    go : (earlier : Bool) → ltb i n ≡ earlier → P i (get_or xs i none)
    go true is = before i none (ltb-true i n is)
    go false is =
        let same : n ≡ i = omega (arith, ltb-false i n is, within) in
        subst (λ j. P j (get_or xs j none)) same (subst (P n) (get_or_default xs n x none inside) this)
