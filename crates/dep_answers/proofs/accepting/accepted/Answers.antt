use Rattle.std.proofs.Common.{◌≡◌, ◌∙◌, true, false, refl, sym, ap}
use Rattle.std.proofs.lemmas.Result.{IfOk-weaker}
use Rattle.dep_types.specs.Methods.{is_safe}
use Rattle.dep_types.specs.declared.config.Config.{Config}
use Rattle.dep_types.specs.declared.target.Method.{Method}
use Rattle.dep_answers.specs.Replies.{answer_to}
use Rattle.dep_answers.specs.Reported.{reported_change}
use Rattle.dep_answers.proofs.ShownReplies.{says_as, shows_safe}
use Rattle.dep_answers.proofs.ReportedLemmas.{change_is}
use Rattle.dep_answers.proofs.accepting.accepted.Goals as goal

pub returns-then-is_safe-clause-says : goal.returns-then-is_safe-clause-says
returns-then-is_safe-clause-says c =
    let r = c.args.target.now.resource in
    let m = c.args.target.now.method in
    IfOk-weaker c.show.result _ _
    (λ said says s sound. shows_safe c.args.service.now s c.args.shown.now c.args.delivery said r m (sym c.is_safe.ensures ∙ c.if-is_safe.true) c.requires (says s sound))
    c.show.ensures.says

pub returns-clause-says : goal.returns-clause-says
returns-clause-says c =
    let r = c.args.target.now.resource in
    let m = c.args.target.now.method in
    let other : (safe : Method) → is_safe safe ≡ true → m ≡ safe → ⊥ =
    λ safe is same. let both : true ≡ false = sym is ∙ ap (λ (k : Method). is_safe k) (sym same) ∙ sym c.is_safe.ensures ∙ c.if-is_safe.false in cc in
    IfOk-weaker c.say.result _ _
    (λ said says s sound e. says_as s _ (answer_to c.args.service.now s r m) c.args.delivery said
    (c.in_ok-changed.ensures
    ∙ ap (λ (config : Config). reported_change config m r c.args.shown.now) c.config.ensures
    ∙ change_is c.args.service.now s sound m r c.args.shown.now (other _ refl) (other _ refl) e) (says s))
    c.say.ensures.says
