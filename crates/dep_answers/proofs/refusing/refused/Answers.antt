use Rattle.std.proofs.Common.{◌∙◌, ap, subst, List, ℕ, Some, None}
use Rattle.std.specs.Option.{option_copied}
use Rattle.dep_answers.specs.Answers.{Answer, Document}
use Rattle.dep_answers.specs.Performing.{IsReply}
use Rattle.dep_answers.proofs.refusing.refused.Goals as goal

pub returns-clause-says : goal.returns-clause-says
returns-clause-says c = λ s.
    let content = c.document.ensures ∙ ap (λ (bytes : List ℕ). Document bytes) c.in_ok-error_doc.ensures in
    subst (λ (a : Answer). IsReply s a c.args.delivery c.in_ok-reply.field-0)
    (λ i. record { status = c.from.ensures i; content = Some (content i); tag = None; location = None; allow = option_copied c.args.allow })
    (c.in_ok-reply.ensures.says s)
