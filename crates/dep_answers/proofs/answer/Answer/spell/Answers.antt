use Rattle.std.proofs.Common.{◌∙◌, ◌++◌, ℕ, List, ap, refl}
use Rattle.dep_reply.specs.Head.{ReplyHead, head_text}
use Rattle.dep_answers.specs.Answers.{document_of}
use Rattle.dep_answers.specs.Replies.{front_text, unless_head_only}
use Rattle.dep_answers.proofs.ReplyLemmas.{text_reply}
use Rattle.dep_answers.proofs.answer.Answer.spell.Goals as goal

pub returns-clause-says : goal.returns-clause-says
returns-clause-says c = λ s.
    text_reply s c.args.self.now c.args.delivery _
    (c.in_ok-add_text.ensures.text
    ∙ ap (λ (l : List ℕ). l ++ unless_head_only c.args.delivery.is_head_only (document_of c.args.self.now.content))
    (c.in_ok-front.ensures ∙ ap (λ (h : ReplyHead). head_text h) c.head.ensures))
    c.add_text.ensures.stored refl

pub returns-clause-front : goal.returns-clause-front
unfolding front_text
returns-clause-front c =
    c.in_ok-add_text.ensures.text
    ∙ ap (λ (l : List ℕ). l ++ unless_head_only c.args.delivery.is_head_only (document_of c.args.self.now.content))
    (c.in_ok-front.ensures ∙ ap (λ (h : ReplyHead). head_text h) c.head.ensures)
