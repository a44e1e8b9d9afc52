use Rattle.std.proofs.Common.{refl}
use Rattle.dep_hub.proofs.HoldingLemmas.{rests_on}
use Rattle.dep_hub.proofs.hub.Hub.is_open.Goals as goal

pub returns-clause-rests : goal.returns-clause-rests
returns-clause-rests g c =
    rests_on g.A.Archive.condition c.args.self.now _ refl refl refl (g.met.A.Archive.settled c.args.self.now.store) c.is_open.ensures.rests
