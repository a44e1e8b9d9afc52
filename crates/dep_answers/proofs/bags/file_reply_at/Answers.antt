use Rattle.std.proofs.Common.{◌∙◌, sym, ap, bytes_eq, None, Some}
use Rattle.std.proofs.lemmas.Result.{IfOk-weaker}
use Rattle.dep_types.specs.declared.rows.FileRow.{FileRow}
use Rattle.dep_manifest.specs.Reported.{row_path}
use Rattle.dep_answers.specs.Answers.{answer, file_reply}
use Rattle.dep_answers.specs.Reported.{bag_answer}
use Rattle.dep_answers.proofs.NumberedReplies.{there_answer, elsewhere_answer}
use Rattle.dep_answers.proofs.ShownReplies.{nothing_said, says_as, says_row}
use Rattle.dep_answers.proofs.bags.file_reply_at.Goals as goal

pub returns-then-is_payload_path-clause-says : goal.returns-then-is_payload_path-clause-says
returns-then-is_payload_path-clause-says c =
    IfOk-weaker c.stored_reply.result _ _
    (λ said says s n f it sound of there is.
    let at = ap (λ (r : FileRow). bytes_eq c.args.path.now (row_path r)) (sym is) ∙ sym c.is_payload_path.ensures ∙ c.if-is_payload_path.true in
    says_as s (answer 200 (Some (file_reply n f it)) None None) (bag_answer s n c.args.path.now) c.args.delivery said
    (there_answer c.args.path.now f of s sound n it there at)
    (says_row c.args.row.now None c.args.delivery said says s n f it there is))
    c.stored_reply.ensures.says

pub returns-else-is_payload_path-clause-says : goal.returns-else-is_payload_path-clause-says
returns-else-is_payload_path-clause-says c = λ s n f it sound of there is.
    let at = ap (λ (r : FileRow). bytes_eq c.args.path.now (row_path r)) (sym is) ∙ sym c.is_payload_path.ensures ∙ c.if-is_payload_path.false in
    nothing_said (bag_answer s n c.args.path.now) (elsewhere_answer c.args.path.now f of s sound n it there at)
