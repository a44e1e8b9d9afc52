use Rattle.dep_tables.proofs.Results.{ok_then}
use Rattle.dep_tables.specs.Tables.{tables_of}
use Rattle.dep_objects.proofs.Puts.{object_gone}
use Rattle.dep_row_maps.proofs.Changing.{tables_after, tables_by, tables_kept}
use Rattle.dep_row_maps.proofs.Calling.{changes_failed}
use Rattle.dep_objects.proofs.objects.delete_object.Goals as goal

pub returns : goal.returns
returns g c =
    let all = tables_after (tables_by c.in_ok-delete_metadata.ensures.does) (tables_by c.delete_object.ensures.does) in
    record {
      does = record {
        map = λ clean inside ours s are files.
            ok_then c.delete_object.result (all.ok clean inside ours)
            (λ seen. object_gone (tables_of (g.T.Statements.state c.args.tx.now)) (tables_of (g.T.Statements.state c.delete_object.new.tx)) s c.args.object are files seen.rows);
        keeps = tables_kept all;
      };
    }

pub returns-in_err-delete_metadata : goal.returns-in_err-delete_metadata
returns-in_err-delete_metadata g c = record {
  does =
      changes_failed c.from_residual.ensures.1 (λ s files. tt)
      c.in_err-delete_metadata.ensures.does.keeps.stays;
}
