use Rattle.dep_decisions.specs.Decisions.{decision}
use Rattle.dep_decisions.specs.Effects.{effect}
use Rattle.dep_decisions.specs.LookUps.{in_state}
use Rattle.dep_decisions.proofs.Passed.{has_room}
use Rattle.dep_decisions.proofs.Accepted.{decision_fit}
use Rattle.dep_decisions.proofs.GivenOnce.{given_once}
use Rattle.dep_decisions.proofs.laws.numbers_are_given_once.Goals as goal

pub returns : goal.returns
unfolding effect
returns c config s op fit accepted sound =
    given_once s op.content sound (decision config op) (decision_fit config s op fit accepted) (has_room config (in_state s) op accepted)
