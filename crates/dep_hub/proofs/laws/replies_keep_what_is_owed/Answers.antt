use Rattle.dep_hub.proofs.KeptLemmas.{replies_keep}
use Rattle.dep_hub.proofs.laws.replies_keep_what_is_owed.Goals as goal

pub returns : goal.returns
returns g c = replies_keep g.A.Archive.condition
