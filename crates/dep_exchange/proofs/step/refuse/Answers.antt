use Rattle.std.proofs.Common.{◌∙◌}
use Rattle.std.proofs.lemmas.Result.{IfOk-weaker}
use Rattle.std.specs.Option.{option_copied}
use Rattle.dep_exchange.proofs.StepLemmas.{refusal_ready}
use Rattle.dep_exchange.proofs.step.refuse.Goals as goal

pub returns : goal.returns
returns c =
    let delivery = c.new-delivery.result in
    IfOk-weaker c.refused.result _ _
    (λ p says s clock. refusal_ready s delivery p c.args.why.refusal (option_copied c.args.allow) c.args.why.is_head_only c.args.closes
    (c.new-delivery.ensures.clock ∙ clock) c.new-delivery.ensures.head_only c.new-delivery.ensures.closes says)
    c.refused.ensures.says
