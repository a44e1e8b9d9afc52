-- What a log is told of the clients that come, and how that grows.
use Rattle.std.specs.Prelude.{◌≡◌, ℕ, List, ◌++◌, Option, None, Some}
use Rattle.std.specs.declared.net.ip_addr.IpAddr.{IpAddr}
use Rattle.dep_slot.specs.declared.log.Rejection.{Rejection}
use Rattle.dep_slot.specs.declared.log.Closing.{Closing}

-- a client was let in, over the connection of a number, or it was rejected, or that connection was
-- closed for a reason
pub data Note : Type 0 where
  LetIn : (connection : ℕ) → (address : IpAddr) → Note
  Rejected : (address : IpAddr) → (refusal : Rejection) → Note
  LetGo : (connection : ℕ) → (reason : Closing) → Note

-- what is shown grows by these, where it is shown
abbrev pub GrowsWhereShown : {X : Type 0} → Option (List X) → Option (List X) → List X → Type 0
GrowsWhereShown None new more = Unit {0}
GrowsWhereShown (Some xs) None more = ⊥
GrowsWhereShown (Some xs) (Some ys) more = ys ≡ xs ++ more
