-- Octets that are hashed while they come.
use Rattle.std.specs.Prelude.{◌≤◌, ℕ, List, length, take}
use Rattle.dep_fixity.specs.Fixity.{HashesMessage}
use Rattle.dep_fixity.specs.declared.hashed.Hashed.{Hashed}

-- the hasher was given the first of the octets, as many as are counted
pub record IsHashed (hashed : Hashed) (octets : List ℕ) : Type 0 where
  pub within : hashed.count ≤ length octets
  pub holds : HashesMessage hashed.hasher (take hashed.count octets)
