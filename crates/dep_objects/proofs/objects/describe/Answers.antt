use Rattle.std.proofs.lemmas.Result.{IfOk-from_err}
use Rattle.dep_tables.proofs.Chains.{reads_err, reads_ok}
use Rattle.dep_objects.proofs.Puts.{described}
use Rattle.dep_objects.proofs.objects.describe.Goals as goal

pub returns : goal.returns
returns g c = record {
  does = record {
    found = λ clean inside ours s are sound has. described s c.args.row.object c.args.row c.in_ok-metadata.metadata sound has (c.in_ok-metadata.ensures.does.found clean inside ours s are);
    keeps = reads_ok c.in_ok-metadata.ensures.does.keeps;
  };
}

pub returns-in_err-metadata : goal.returns-in_err-metadata
returns-in_err-metadata g c = record {
  does = record {
    found = λ clean inside ours s are sound has. IfOk-from_err c.from_residual.result _ c.from_residual.ensures.0;
    keeps = reads_err c.from_residual.ensures.0 c.in_err-metadata.ensures.does.keeps;
  };
}
