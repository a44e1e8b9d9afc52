use Rattle.std.proofs.Common.{◌∙◌, sym, ap, subst, List, ℕ, Option, Some, None, map}
use Rattle.std.proofs.lemmas.Result.{IfOk-weaker}
use Rattle.dep_types.specs.declared.rows.FileRow.{FileRow}
use Rattle.dep_manifest.specs.Lengths.{OfLength}
use Rattle.dep_manifest.specs.Reported.{row_path}
use Rattle.dep_bag.specs.Parts.{tag_file_at}
use Rattle.dep_bag.specs.declared.part.BagPart.{BagPart}
use Rattle.dep_answers.specs.Answers.{ReplyContent, answer}
use Rattle.dep_answers.specs.Bags.{shown_in_bag}
use Rattle.dep_answers.specs.Reporting.{SaysLength}
use Rattle.dep_answers.specs.Reported.{content_of}
use Rattle.dep_answers.specs.declared.answer.Form.{Form}
use Rattle.dep_answers.proofs.BagLemmas.{text_shown, file_shown, nothing_shown}
use Rattle.dep_answers.proofs.ManifestLengths.{manifest_measured, measured_there, same_view}
use Rattle.dep_answers.proofs.NumberedReplies.{no_payload}
use Rattle.dep_answers.proofs.ShownReplies.{nothing_said, says_as}
use Rattle.dep_answers.proofs.bags.tag_file_reply.Goals as goal

pub returns-in-Some-clause-says : goal.returns-in-Some-clause-says
returns-in-Some-clause-says c =
    IfOk-weaker c.measured_manifest.result _ _
    (λ said says s n o sound of there is.
    let at = measured_there (tag_file_at c.args.path.now) c.args.delivery.is_head_only c.in-Some.algorithm (sym c.in-Some.is ∙ c.measured.ensures) in
    manifest_measured s n o c.args.path.now c.args.delivery said c.in-Some.algorithm c.args.view.now at.0 at.1 is
    (subst (λ (rows : List FileRow). OfLength c.in-Some.algorithm (map row_path rows) (λ (size : ℕ). SaysLength size c.args.delivery said)) c.as_slice.ensures says))
    c.measured_manifest.ensures.says

-- what is not measured is written by the same view
pub returns-in-Some-Bytes-clause-says : goal.returns-in-Some-Bytes-clause-says
returns-in-Some-Bytes-clause-says c =
    let path = c.args.path.now in
    let reported = ap (λ (x : BagPart). Some x) (sym c.in-Some-Bytes.field-0-is) ∙ (sym c.in-Some-Bytes.is ∙ c.in_ok-text.ensures) in
    IfOk-weaker c.say_text.result _ _
    (λ p says s n o sound of there is. says_as s _ (answer 200 (shown_in_bag n o path) None None) c.args.delivery p
    (ap (λ (f : Form). answer 200 (Some (content_of f c.in-Some-Bytes.text)) None None) c.form_at.ensures
    ∙ ap (λ (x : Option ReplyContent). answer 200 x None None)
    (sym (text_shown n o c.args.view.now path c.in-Some-Bytes.text (is ∙ same_view n o (tag_file_at path) c.args.delivery.is_head_only (sym c.in_default.is ∙ c.measured.ensures)) reported)))
    (says s))
    c.say_text.ensures.says

pub returns-in-Some-Stored-clause-says : goal.returns-in-Some-Stored-clause-says
returns-in-Some-Stored-clause-says c = λ s n o sound of there is.
    let path = c.args.path.now in
    let reported = ap (λ (x : BagPart). Some x) (sym c.in-Some-Stored.field-0-is) ∙ (sym c.in-Some-Stored.is ∙ c.in_ok-text.ensures) in
    let found = file_shown n o c.args.view.now path c.in-Some-Stored.field-0-0 (is ∙ same_view n o (tag_file_at path) c.args.delivery.is_head_only (sym c.in_default.is ∙ c.measured.ensures)) reported in
    absurd (no_payload s sound n o there path of (record { object = n; file = c.in-Some-Stored.field-0-0 }) found.0.media found.0.content found.1.1)

pub returns-in-None-clause-says : goal.returns-in-None-clause-says
returns-in-None-clause-says c = λ s n o sound of there is.
    let path = c.args.path.now in
    let reported = sym c.in-None.is ∙ c.in_ok-text.ensures in
    nothing_said (answer 200 (shown_in_bag n o path) None None)
    (ap (λ (x : Option ReplyContent). answer 200 x None None)
    (sym (nothing_shown n o c.args.view.now path (is ∙ same_view n o (tag_file_at path) c.args.delivery.is_head_only (sym c.in_default.is ∙ c.measured.ensures)) reported)))
