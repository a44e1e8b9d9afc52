use Rattle.std.proofs.Common.{sym, ◌∙◌}
use Rattle.dep_answers.specs.declared.read_set.Shown.TheVariants as shown
use Rattle.dep_types.specs.Rows.{file_row}
use Rattle.dep_types.specs.State.{file_at}
use Rattle.dep_types.specs.declared.rows.FileRow.{FileRow}
use Rattle.dep_tables.proofs.Chains.{reads_err, reads_ok}
use Rattle.dep_views.proofs.Shows.{none_shown, shown_failed, some_shown}
use Rattle.dep_views.proofs.shown.show_file.Goals as goal

pub returns-in-Some : goal.returns-in-Some
returns-in-Some g c = record {
  does = record {
    map = record {
      found = λ clean inside ours s are sound reported.
          let id = c.args.id in
          some_shown (file_row id.object id.file) (λ (r : FileRow). shown.File r) shown.Nothing (file_at s id.object id.file) c.in-Some.row (sym c.in-Some.is ∙ c.in_ok-row.ensures.does.map clean ours s are);
      keeps = reads_ok c.in_ok-row.ensures.does.keeps;
    };
  };
}

pub returns-in-None : goal.returns-in-None
returns-in-None g c = record {
  does = record {
    map = record {
      found = λ clean inside ours s are sound reported.
          let id = c.args.id in
          none_shown (file_row id.object id.file) (λ (r : FileRow). shown.File r) shown.Nothing (file_at s id.object id.file) (sym c.in-None.is ∙ c.in_ok-row.ensures.does.map clean ours s are);
      keeps = reads_ok c.in_ok-row.ensures.does.keeps;
    };
  };
}

pub returns-in_err-row : goal.returns-in_err-row
returns-in_err-row g c = record { does = shown_failed c.from_residual.ensures.0 (reads_err c.from_residual.ensures.0 c.in_err-row.ensures.does.keeps) }
