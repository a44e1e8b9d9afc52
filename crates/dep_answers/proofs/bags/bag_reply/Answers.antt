use Rattle.std.proofs.Common.{◌∙◌, sym, ap, ℕ, List, Option, Some, None}
use Rattle.std.proofs.lemmas.Result.{IfOk-weaker}
use Rattle.dep_answers.specs.Answers.{Document, ReplyContent, answer}
use Rattle.dep_answers.specs.Bags.{shown_in_bag}
use Rattle.dep_answers.specs.Reported.{bag_answer}
use Rattle.dep_answers.proofs.NumberedReplies.{file_read, nothing_read, object_read, row_read, texts_read}
use Rattle.dep_answers.proofs.ShownReplies.{nothing_said, says_as, tag_reply_is}
use Rattle.dep_answers.proofs.bags.bag_reply.Goals as goal

pub returns-in-Object-clause-says : goal.returns-in-Object-clause-says
returns-in-Object-clause-says c =
    IfOk-weaker c.tag_file_reply.result _ _
    (λ said says s n sound e.
    let read = object_read s n c.args.path.now c.args.delivery.is_head_only c.args.shown.now c.in-Object.view c.in-Object.is e in
    tag_reply_is s n c.args.path.now c.args.delivery said read.1.0 read.1.1.0 (says s n read.1.0 sound read.0 read.1.1.0 read.1.1.1))
    c.tag_file_reply.ensures.says

pub returns-in-ObjectRow-clause-says : goal.returns-in-ObjectRow-clause-says
returns-in-ObjectRow-clause-says c =
    IfOk-weaker c.reply_by_row.result _ _
    (λ said says s n sound e.
    let read = row_read s n c.args.path.now c.args.delivery.is_head_only c.args.shown.now c.in-ObjectRow.field-0 c.in-ObjectRow.is e in
    tag_reply_is s n c.args.path.now c.args.delivery said read.1.0 read.1.1.0 (says s n read.1.0 sound read.0 read.1.1.0 read.1.1.1))
    c.reply_by_row.ensures.says

pub returns-in_ok-bag_metadata_doc-in-Metadata-clause-says : goal.returns-in_ok-bag_metadata_doc-in-Metadata-clause-says
returns-in_ok-bag_metadata_doc-in-Metadata-clause-says c =
    IfOk-weaker c.say_text.result _ _
    (λ said says s n sound e.
    let read = texts_read s n c.args.path.now c.args.delivery.is_head_only c.args.shown.now c.in-Metadata.object c.in-Metadata.metadata c.in-Metadata.is e in
    tag_reply_is s n c.args.path.now c.args.delivery said read.0 read.1.0
    (says_as s _ (answer 200 (shown_in_bag n read.0 c.args.path.now) None None) c.args.delivery said
    (ap (λ (bytes : List ℕ). answer 200 (Some (Document bytes)) None None) (c.from_vec-document.ensures ∙ c.in_ok-bag_metadata_doc-in-Metadata.ensures) ∙ ap (λ (x : Option ReplyContent). answer 200 x None None) (sym read.1.1)) (says s)))
    c.say_text.ensures.says

pub returns-in-File-clause-says : goal.returns-in-File-clause-says
returns-in-File-clause-says c =
    IfOk-weaker c.file_reply_at.result _ _
    (λ said says s n sound e.
    let read = file_read s n c.args.path.now c.args.delivery.is_head_only c.args.shown.now c.in-File.row c.in-File.is e in
    says s n read.0 read.2 sound read.1 read.3 read.4)
    c.file_reply_at.ensures.says

pub returns-in_default-clause-says : goal.returns-in_default-clause-says
returns-in_default-clause-says c = λ s n sound e.
    nothing_said (bag_answer s n c.args.path.now)
    (nothing_read s n c.args.path.now c.args.delivery.is_head_only c.args.shown.now c.in_default.not-Object c.in_default.not-Files c.in_default.not-ObjectRow c.in_default.not-Metadata
    c.in_default.not-File sound e)
