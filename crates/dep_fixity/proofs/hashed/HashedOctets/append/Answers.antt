use Rattle.dep_fixity.proofs.HashedLemmas.{kept_or_more}
use Rattle.dep_fixity.proofs.hashed.HashedOctets.append.Goals as goal

pub invariant_of-self : goal.invariant_of-self
invariant_of-self c =
    kept_or_more c.self.inside.hashed c.self.inside.octets.items c.args.piece.now _ c.extend.result c.extend.ensures.ok c.extend.ensures.err c.self.invariant
