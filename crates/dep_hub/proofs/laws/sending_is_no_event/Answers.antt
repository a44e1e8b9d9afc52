use Rattle.dep_hub.proofs.KeptLemmas.{sending_represents}
use Rattle.dep_hub.proofs.laws.sending_is_no_event.Goals as goal

pub returns : goal.returns
returns g c = sending_represents g.A.Archive.condition
