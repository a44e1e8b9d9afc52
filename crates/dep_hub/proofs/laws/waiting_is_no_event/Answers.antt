use Rattle.dep_hub.proofs.PendingLemmas.{contents_stay, waiting_represents}
use Rattle.dep_hub.proofs.laws.waiting_is_no_event.Goals as goal

pub returns : goal.returns
returns g c = record {
  represents = waiting_represents g.A.Archive.condition;
  contents = contents_stay g.A.Archive.condition;
}
