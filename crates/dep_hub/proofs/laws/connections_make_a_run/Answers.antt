use Rattle.dep_hub.proofs.HoldingLemmas.{connect_adds, close_adds}
use Rattle.dep_hub.proofs.laws.connections_make_a_run.Goals as goal

pub returns-clause-connects : goal.returns-clause-connects
returns-clause-connects g c old new n first records held h config store moves =
    connect_adds g.A.Archive.condition old new n first records held h config store moves

pub returns-clause-closes : goal.returns-clause-closes
returns-clause-closes g c old new n first records held h config store moves =
    close_adds g.A.Archive.condition old new n first records held h config store moves
