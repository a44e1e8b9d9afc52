use Rattle.dep_server.proofs.MovesLead.{run_leads}
use Rattle.dep_server.proofs.laws.moves_make_the_state.Goals as goal

pub returns : goal.returns
returns c = λ r. run_leads r.config r.run
