use Rattle.dep_hub.proofs.PreparingLemmas.{ahead_contents, ahead_represents}
use Rattle.dep_hub.proofs.laws.working_ahead_is_no_event.Goals as goal

pub returns : goal.returns
returns g c = record {
  represents = ahead_represents g.A.Archive.condition;
  contents = ahead_contents g.A.Archive.condition;
}
