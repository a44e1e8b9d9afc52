use Rattle.std.proofs.Common.{refl, ◌∙◌, sym, ap, ℕ, List}
use Rattle.dep_types.specs.declared.rows.FileRow.{FileRow}
use Rattle.dep_reply.specs.Head.{head_text}
use Rattle.dep_answers.specs.Performing.{measured_head}
use Rattle.dep_answers.proofs.ReplyLemmas.{stored_ends, stored_ready}
use Rattle.dep_answers.proofs.stored.stored_reply.Goals as goal

pub returns : goal.returns
returns c =
    let row = c.args.row.now in
    let front = c.in_ok-measured_front.ensures ∙ ap (λ (media : List ℕ). head_text (measured_head media row.size c.args.tag c.args.delivery)) c.as_str.ensures in
    record {
      says = λ s file there is. stored_ready s file row c.args.tag c.args.delivery _ there is front
          (c.content_behind.ensures file.content (sym (ap (λ (row : FileRow). row.size) is)));
      ends = stored_ends row c.args.tag c.args.delivery _ front (refl, refl);
    }
