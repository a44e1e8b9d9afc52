use Rattle.dep_server.proofs.CalmLemmas.{alike}
use Rattle.dep_server.proofs.StreamLemmas.{same_items, same_steps}
use Rattle.dep_server.proofs.laws.cuts_move_schedule_points.Goals as goal

pub returns : goal.returns
returns c = record {
  items = same_items;
  end = λ a b begin streams schedule_points. alike a b begin (same_steps a.steps b.steps (same_items a b begin streams) schedule_points);
}
