-- Which paths end in the name.
use Rattle.std.proofs.Common.{◌≡◌, ◌≢◌, ◌↔◌, inl, inr, ℕ, ◌-◌, Bool, List, ◌++◌, IsTrue, codes, length, take}
use Rattle.std.specs.List.{ends_with}
use Rattle.std.proofs.Math.Dec.{eqb}
use Rattle.std.proofs.lemmas.Bool.Decides.{Decides-eqb}
use Rattle.std.proofs.lemmas.Slice.Eq.{ends_is}
use Rattle.dep_application.specs.Called.{IsHostName}

module _ (path : List ℕ) (r : Bool) (other : path ≢ codes "swordd_host") (front : (folder : List ℕ) → path ≡ folder ++ codes "/swordd_host" → IsTrue r) where
  ends : IsHostName path → IsTrue r
  ends (inl same) = absurd (other same)
  ends (inr behind) = front behind.0 behind.1

-- a path that isn't the name alone
pub is_behind : (path : List ℕ) (r : Bool) → path ≢ codes "swordd_host" → r ≡ ends_with eqb path (codes "/swordd_host")
    → IsTrue r ↔ IsHostName path
is_behind path r other e =
    let it = ends_is Decides-eqb path (codes "/swordd_host") r e in
    ((λ t. inr (take (length path - length (codes "/swordd_host")) path, it.0 t)), ends path r other it.1)
