use Rattle.std.proofs.Common.{arith}
use Rattle.dep_fixity.proofs.HashedLemmas.{with_next}
use Rattle.dep_fixity.proofs.hashed.Hashed.go_on.Goals as goal

pub returns-then-self-end-clause-hashed : goal.returns-then-self-end-clause-hashed
returns-then-self-end-clause-hashed c =
    with_next c.args.octets.now c.args.self.now _ c.requires.hashed (omega (arith, c.if-self-end.true)) c.requires.within
    (c.update.ensures _ c.requires.hashed.holds)
