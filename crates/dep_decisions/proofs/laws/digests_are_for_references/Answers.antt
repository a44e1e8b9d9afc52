use Rattle.dep_decisions.specs.LookUps.{in_state}
use Rattle.dep_decisions.proofs.BeforeDigests.{for_references}
use Rattle.dep_decisions.proofs.laws.digests_are_for_references.Goals as goal

pub returns : goal.returns
returns c = λ config s op other. for_references config (in_state s) op other
