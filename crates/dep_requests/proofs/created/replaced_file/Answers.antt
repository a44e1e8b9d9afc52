use Rattle.std.proofs.Common.{ℕ, Some, ap, ◌∙◌}
use Rattle.dep_types.specs.Rows.{file_row}
use Rattle.dep_types.specs.declared.rows.FileRow.{FileRow}
use Rattle.dep_answers.specs.declared.read_set.Shown.TheVariants as shown
use Rattle.dep_decisions.specs.Effects.{file_from}
use Rattle.dep_requests.proofs.Steps.{number_is}
use Rattle.dep_requests.proofs.created.replaced_file.Goals as goal

pub returns : goal.returns
returns c = record {
  reported = λ s n o reported object.
      let view = c.args.change.now.view.now in
      let number = number_is s n o view.object object.0 c.in_ok-object.field-0 c.in_ok-object.ensures.reported in
      ap (λ (row : FileRow). Some (shown.File row))
      (c.in_ok-row.ensures.reported s reported ∙ ap (λ (k : ℕ). file_row k c.args.file (file_from s c.args.change.now.content.now c.args.new.now)) number);
}
