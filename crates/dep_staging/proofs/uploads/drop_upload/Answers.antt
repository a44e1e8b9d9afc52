use Rattle.dep_tables.specs.Tables.{tables_of}
use Rattle.dep_tables.proofs.Results.{ok_then}
use Rattle.dep_staging.proofs.UploadCalls.{dropped}
use Rattle.dep_row_maps.proofs.Changing.{tables_after, tables_kept}
use Rattle.dep_row_maps.proofs.Calling.{changes_failed}
use Rattle.dep_staging.proofs.uploads.drop_upload.Goals as goal

pub returns : goal.returns
returns g c =
    let all = tables_after c.in_ok-delete_blocks.ensures.does c.forget_upload.ensures.does in
    record {
      does = record {
        map = λ clean inside ours s are.
            ok_then c.forget_upload.result (all.ok clean inside ours)
            (λ seen. dropped (tables_of (g.T.Statements.state c.args.tx.now)) (tables_of (g.T.Statements.state c.forget_upload.new.tx)) s c.args.upload are seen.rows);
        keeps = tables_kept all;
      };
    }

pub returns-in_err-delete_blocks : goal.returns-in_err-delete_blocks
returns-in_err-delete_blocks g c = record {
  does = changes_failed c.from_residual.ensures.1 (λ s. tt)
      c.in_err-delete_blocks.ensures.does.stays;
}
