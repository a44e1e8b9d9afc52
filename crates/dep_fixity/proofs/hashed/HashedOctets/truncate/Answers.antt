use Rattle.std.proofs.Common.{sym, subst}
use Rattle.dep_fixity.specs.Hashing.{IsHashed}
use Rattle.dep_fixity.proofs.hashed.HashedOctets.truncate.Goals as goal

pub invariant_of-self : goal.invariant_of-self
invariant_of-self c =
    subst (IsHashed c.cut_to.new.self) (sym c.truncate.ensures.items) (c.cut_to.ensures c.self.inside.octets.items c.self.invariant)
