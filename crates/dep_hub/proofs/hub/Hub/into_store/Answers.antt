use Rattle.std.proofs.Common.{refl}
use Rattle.dep_hub.proofs.HubLemmas.{rests, leaves_as_before}
use Rattle.dep_hub.proofs.hub.Hub.into_store.Goals as goal

pub returns-clause-stop : goal.returns-clause-stop
returns-clause-stop g c first records h =
    rests g.A.Archive.condition c.args.self (g.met.A.Archive.settled c.args.self.store) first records h

pub returns-clause-rests : goal.returns-clause-rests
returns-clause-rests g c w at =
    leaves_as_before g.A.Archive.condition c.args.self _ refl (g.met.A.Archive.settled c.args.self.store) w at
