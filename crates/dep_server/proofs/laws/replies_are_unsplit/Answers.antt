use Rattle.std.proofs.Common.{refl}
use Rattle.dep_head.specs.Head.{head_end}
use Rattle.dep_server.proofs.HeadLemmas.{step_unsplit}
use Rattle.dep_server.proofs.laws.replies_are_unsplit.Goals as goal

pub returns : goal.returns
unfolding head_end
returns c = record {
  steps = λ x checked sound. step_unsplit x.config checked x.state x.item x.moment sound;
  fixed = (refl, refl);
}
