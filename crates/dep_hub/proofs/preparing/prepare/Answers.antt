use Rattle.dep_hub.proofs.PreparingLemmas.{ended}
use Rattle.dep_hub.proofs.preparing.prepare.Goals as goal

pub returns-in-None-clause-step : goal.returns-in-None-clause-step
returns-in-None-clause-step g c = ended c.args.connection.now.behind c.requires
