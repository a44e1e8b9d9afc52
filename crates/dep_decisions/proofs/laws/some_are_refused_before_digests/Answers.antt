use Rattle.dep_decisions.specs.LookUps.{in_state}
use Rattle.dep_decisions.proofs.BeforeDigests.{refused_before}
use Rattle.dep_decisions.proofs.laws.some_are_refused_before_digests.Goals as goal

pub returns : goal.returns
returns c = λ config s op r e. refused_before config (in_state s) op r e
