use Rattle.std.proofs.Common.{ℕ, subst}
use Rattle.std.proofs.lemmas.Result.{IfOk-weaker}
use Rattle.dep_answers.specs.Reporting.{SaysLength}
use Rattle.dep_answers.proofs.bags.measured_manifest.Goals as goal

pub returns-in-Some-clause-says : goal.returns-in-Some-clause-says
returns-in-Some-clause-says c =
    IfOk-weaker c.measured_reply.result _ _
    (λ said says files e. subst (λ (size : ℕ). SaysLength size c.args.delivery said) (c.in-Some.ensures files e) says)
    c.measured_reply.ensures.says
