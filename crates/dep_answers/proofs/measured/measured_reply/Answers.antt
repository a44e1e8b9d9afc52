use Rattle.std.proofs.Common.{refl, ◌∙◌, ap, List, ℕ, None, []}
use Rattle.dep_reply.specs.Head.{head_text}
use Rattle.dep_answers.specs.Performing.{measured_head}
use Rattle.dep_answers.proofs.ReplyLemmas.{length_ready, length_ends}
use Rattle.dep_answers.proofs.measured.measured_reply.Goals as goal

pub returns : goal.returns
returns c =
    let front = c.in_ok-measured_front.ensures ∙ ap (λ (media : List ℕ). head_text (measured_head media c.args.size None c.args.delivery)) (c.media.ensures []) in
    record {
      says = length_ready c.args.size c.args.delivery _ front refl;
      ends = length_ends c.args.size c.args.delivery _ front (refl, refl);
    }
