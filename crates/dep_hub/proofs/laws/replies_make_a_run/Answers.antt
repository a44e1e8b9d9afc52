use Rattle.dep_hub.proofs.KeptLemmas.{replies_add}
use Rattle.dep_hub.proofs.laws.replies_make_a_run.Goals as goal

pub returns : goal.returns
returns g c = replies_add g.A.Archive.condition
