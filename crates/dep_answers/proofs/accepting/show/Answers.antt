use Rattle.std.proofs.Common.{◌∙◌, ℕ, List, ap, sym}
use Rattle.std.proofs.lemmas.Result.{IfOk-weaker}
use Rattle.dep_types.specs.declared.target.Resource.TheVariants as resource
use Rattle.dep_answers.specs.Replies.{shown_answer}
use Rattle.dep_answers.proofs.ShownReplies.{says_as, shows}
use Rattle.dep_answers.proofs.ReportedLemmas.{text_is}
use Rattle.dep_answers.proofs.accepting.show.Goals as goal

pub returns-in-File-clause-says : goal.returns-in-File-clause-says
returns-in-File-clause-says c =
    IfOk-weaker c.file_reply.result _ _
    (λ p says s sound. shows c.args.service.now s c.args.shown.now c.args.delivery p c.args.resource.now (resource.File c.in-File.field-0 c.in-File.field-1) c.in-File.is
    (λ e. says s (record { object = c.in-File.field-0; file = c.in-File.field-1 }) e))
    c.file_reply.ensures.says

pub returns-in-BagFile-clause-says : goal.returns-in-BagFile-clause-says
returns-in-BagFile-clause-says c =
    IfOk-weaker c.bag_reply.result _ _
    (λ p says s sound. shows c.args.service.now s c.args.shown.now c.args.delivery p c.args.resource.now (resource.BagFile c.in-BagFile.field-0 c.as_slice.result.now)
    (c.in-BagFile.is ∙ ap (λ (path : List ℕ). resource.BagFile c.in-BagFile.field-0 path) (sym c.as_slice.ensures))
    (λ e. says s c.in-BagFile.field-0 sound e))
    c.bag_reply.ensures.says

pub returns-in_ok-text-in_default-clause-says : goal.returns-in_ok-text-in_default-clause-says
returns-in_ok-text-in_default-clause-says c =
    let r = c.args.resource.now in
    IfOk-weaker c.say.result _ _
    (λ said says s sound e. says_as s _ (shown_answer c.args.service.now s r) c.args.delivery said
    (c.in_ok-text-in_default.ensures
    ∙ text_is c.args.service.now s sound r c.args.delivery.is_head_only c.args.shown.now c.in_default.not-File c.in_default.not-BagFile e) (says s))
    c.say.ensures.says
