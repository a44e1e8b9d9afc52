use Rattle.dep_hub.proofs.PreparingLemmas.{ahead_ends, ahead_takes_turns, prepares_once}
use Rattle.dep_hub.proofs.laws.what_is_prepared_ends.Goals as goal

pub returns : goal.returns
returns g c = record {
  fewer = ahead_ends g.A.Archive.condition;
  turns = ahead_takes_turns g.A.Archive.condition;
  once = prepares_once g.A.Archive.condition;
}
