use Rattle.std.proofs.lemmas.Result.{IfOk-weaker}
use Rattle.dep_answers.proofs.ShownReplies.{file_reply_is}
use Rattle.dep_answers.proofs.stored.file_reply.Goals as goal

pub returns-in-File-clause-says : goal.returns-in-File-clause-says
returns-in-File-clause-says c =
    IfOk-weaker c.stored_reply.result _ _
    (λ said says s id e. file_reply_is s id c.in-File.row c.args.shown.now c.args.delivery said c.in-File.is e says)
    c.stored_reply.ensures.says
