-- Files and their digests, one after another.
use Rattle.std.proofs.Common.{[], ◌∷◌, ◌++◌, List}
use Rattle.std.specs.List.{AllZip}

module _ {A B : Type 0} (R : A → B → Type 0) where
  pub one_more : (xs : List A) (ys : List B) (x : A) (y : B) → AllZip R xs ys → R x y → AllZip R (xs ++ x ∷ []) (ys ++ y ∷ [])
  one_more [] [] x y all its = (its, tt)
  one_more [] (b ∷ ys) x y all its = absurd all
  one_more (a ∷ xs) [] x y all its = absurd all
  one_more (a ∷ xs) (b ∷ ys) x y all its = (all.0, one_more xs ys x y all.1 its)
