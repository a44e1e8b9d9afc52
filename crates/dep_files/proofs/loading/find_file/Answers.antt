use Rattle.std.proofs.Common.{◌∙◌}
use Rattle.dep_tables.specs.Tables.{tables_of}
use Rattle.dep_row_maps.proofs.Calling.{queried_ok, reads_failed}
use Rattle.dep_row_maps.proofs.Readings.{file_read}
use Rattle.dep_files.proofs.loading.find_file.Goals as goal

pub returns : goal.returns
returns g c = record {
  does = queried_ok c.in_ok-find_file.ensures.does
      (λ clean ours s are.
      c.of_object.ensures ∙ file_read (tables_of (g.T.Statements.state c.args.tx.now)) s are ours.trees.ordered.1.1.1.1.0 c.args.file c.in_ok-find_file.field-0 (c.in_ok-find_file.ensures.does.ok clean ours) c.args.object);
}

pub returns-in_err-find_file : goal.returns-in_err-find_file
returns-in_err-find_file g c = record { does = reads_failed c.from_residual.ensures.1 c.in_err-find_file.ensures.does.keeps }
