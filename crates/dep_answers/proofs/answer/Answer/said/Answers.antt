use Rattle.std.proofs.Common.{◌∙◌, sym}
use Rattle.dep_answers.proofs.ReplyLemmas.{ends_by}
use Rattle.dep_answers.proofs.answer.Answer.said.Goals as goal

pub returns-clause-ends : goal.returns-clause-ends
returns-clause-ends c =
    ends_by c.args.self.now c.args.delivery _ (sym c.is_silent.ensures ∙ c.if-is_silent.false) c.in_ok-spell.ensures.front c.in_ok-spell.ensures.status
