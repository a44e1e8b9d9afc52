use Rattle.std.proofs.Common.{ap, ◌∙◌}
use Rattle.std.proofs.lemmas.Result.{IfOk-from_err}
use Rattle.dep_tables.proofs.Chains.{reads_err, reads_ok}
use Rattle.dep_tables.proofs.Results.{if_then}
use Rattle.dep_tables.specs.Tables.{tables_of}
use Rattle.dep_row_maps.specs.Stored.{grouped}
use Rattle.dep_row_maps.proofs.Readings.{texts_read}
use Rattle.dep_objects.proofs.gathering.load_metadata.Goals as goal

pub returns : goal.returns
returns g c = record {
  does = record {
    found = λ clean inside ours s are.
        let read = texts_read (tables_of (g.T.Statements.state c.args.tx.now)) s are c.args.object c.in_ok-metadata_of.field-0.items (c.in_ok-metadata_of.ensures.does.ok clean ours) in
        if_then c.gathered.result c.gathered.ensures.reported (λ metadata is. is ∙ ap grouped read.1);
    keeps = reads_ok c.in_ok-metadata_of.ensures.does.keeps;
  };
}

pub returns-in_err-metadata_of : goal.returns-in_err-metadata_of
returns-in_err-metadata_of g c = record {
  does = record {
    found = λ clean inside ours s are. IfOk-from_err c.from_residual.result _ c.from_residual.ensures.0;
    keeps = reads_err c.from_residual.ensures.0 c.in_err-metadata_of.ensures.does.keeps;
  };
}
