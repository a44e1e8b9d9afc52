use Rattle.std.proofs.Common.{◌∙◌, None, ap}
use Rattle.dep_answers.specs.Steps.{Stepped, is_head}
use Rattle.dep_answers.proofs.RefusedSteps.{step_refused, nothing_stored}
use Rattle.dep_answers.proofs.laws.refused_requests_change_nothing.Goals as goal

pub returns-clause-state : goal.returns-clause-state
returns-clause-state c config s op r refused = ap (λ (t : Stepped). t.state) (step_refused config s op r refused)

pub returns-clause-reply : goal.returns-clause-reply
returns-clause-reply c config s op r refused = ap (λ (t : Stepped). t.front) (step_refused config s op r refused)

pub returns-clause-alone : goal.returns-clause-alone
returns-clause-alone c config s op r refused =
    ap (λ (t : Stepped). t.stored) (step_refused config s op r refused) ∙ nothing_stored s r None (is_head op.target.method)
