use Rattle.std.proofs.Common.{List, ap, length, decimal, ◌∙◌}
use Rattle.std.specs.Prelude.{sum_by}
use Rattle.std.proofs.lemmas.List.Elements.{same_from_all_zip}
use Rattle.std.proofs.lemmas.Result.{IfOk-weaker}
use Rattle.dep_moment.specs.Civil.{day_text}
use Rattle.dep_types.specs.declared.rows.FileRow.{FileRow}
use Rattle.dep_manifest.proofs.Written.{info_pieces}
use Rattle.dep_manifest.proofs.tag_files.information.Goals as goal

pub returns : goal.returns
unfolding day_text
returns c =
    let rows = c.as_slice-rows.ensures in
    IfOk-weaker c.concat.result _ _
    (λ made pieces. info_pieces c.args.view.now.object.changed _ _ _ _ _ made.items
    (c.civil_date-day.ensures ∙ ap day_text c.new.ensures)
    (c.as_bytes.ensures.value ∙ (c.format.ensures.text ∙ ap decimal (c.octets_of.ensures ∙ ap (sum_by (λ (row : FileRow). row.size)) rows)))
    (c.as_bytes-2.ensures.value ∙ (c.format-2.ensures.text ∙ ap (λ (all : List FileRow). decimal (length all)) rows))
    (same_from_all_zip _ _ _ pieces (λ x y e. e)))
    c.concat.ensures.ok
