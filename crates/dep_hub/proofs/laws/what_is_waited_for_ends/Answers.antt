use Rattle.dep_hub.proofs.PendingLemmas.{answers_at_once, awaits_content, awaits_taker}
use Rattle.dep_hub.proofs.laws.what_is_waited_for_ends.Goals as goal

pub returns : goal.returns
returns g c = record {
  content = awaits_content g.A.Archive.condition;
  taker = awaits_taker g.A.Archive.condition;
  at_once = answers_at_once g.A.Archive.condition;
}
