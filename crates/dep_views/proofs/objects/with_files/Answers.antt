use Rattle.std.proofs.lemmas.Result.{IfOk-from_err}
use Rattle.dep_tables.proofs.Chains.{reads_ok, reads_err}
use Rattle.dep_views.proofs.Reported.{described_row, viewed}
use Rattle.dep_views.proofs.objects.with_files.Goals as goal

pub returns : goal.returns
returns g c =
    let n = c.args.described.row.object in
    record {
      map = record {
        found = λ clean inside ours s are sound ahead described.
            let its = c.in_ok-hashed.ensures.does.found clean inside ours s are (described_row s c.args.described described) ahead in
            viewed s n c.args.described c.in_ok-hashed.hashed.rows c.in_ok-hashed.hashed.sha512s described its.0 its.1;
        keeps = reads_ok c.in_ok-hashed.ensures.does.keeps;
      };
      files = c.in_ok-hashed.ensures.left;
    }

pub returns-in_err-hashed : goal.returns-in_err-hashed
returns-in_err-hashed g c = record {
  map = record {
    found = λ clean inside ours s are sound ahead described. IfOk-from_err c.from_residual.result _ c.from_residual.ensures.0;
    keeps = reads_err c.from_residual.ensures.0 c.in_err-hashed.ensures.does.keeps;
  };
  files = c.in_err-hashed.ensures.left;
}
