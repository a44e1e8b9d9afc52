use Rattle.std.proofs.Common.{arith}
use Rattle.dep_fixity.proofs.HashedLemmas.{with_less}
use Rattle.dep_fixity.proofs.hashed.Hashed.cut_to.Goals as goal

pub returns-else-self-count : goal.returns-else-self-count
returns-else-self-count c = λ octets is. with_less c.args.self.now octets c.args.count (omega arith) is
