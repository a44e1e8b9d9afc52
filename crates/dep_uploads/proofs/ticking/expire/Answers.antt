use Rattle.std.proofs.Common.{sym, subst}
use Rattle.std.specs.FinMap as finmap
use Rattle.dep_tables.specs.Tables.{Tables, tables_of}
use Rattle.dep_tables.proofs.Results.{ok_then}
use Rattle.dep_row_maps.specs.TablesAre.{TablesAre}
use Rattle.dep_row_maps.proofs.Whole.{timed_out_put}
use Rattle.dep_uploads.specs.Expiring.{timed_out}
use Rattle.dep_row_maps.proofs.Changing.{changes_then, inside_after, tables_by, tables_kept}
use Rattle.dep_row_maps.proofs.Calling.{changes_failed}
use Rattle.dep_uploads.proofs.ticking.expire.Goals as goal

pub returns : goal.returns
returns g c = record {
  does = record {
    map = λ clean inside ours s are.
        let mid = g.T.Statements.state c.drop_upload.new.tx in
        let before = inside_after c.in_ok-drop_upload.ensures.does.keeps c.insert_timed_out.ensures.does.keeps.stays clean inside ours in
        let gone = c.in_ok-drop_upload.ensures.does.map before.clean inside ours s are in
        ok_then c.insert_timed_out.result (c.insert_timed_out.ensures.does.ok clean before.inside before.ours)
        (λ leads. subst (λ (t : Tables). TablesAre t (timed_out c.args.upload s)) (sym leads.rows) (timed_out_put (tables_of mid) (record s { uploads = finmap.remove s.uploads c.args.upload }) gone c.args.upload));
    keeps = changes_then c.in_ok-drop_upload.ensures.does.keeps (tables_kept (tables_by c.insert_timed_out.ensures.does));
  };
}

pub returns-in_err-drop_upload : goal.returns-in_err-drop_upload
returns-in_err-drop_upload g c = record {
  does =
      changes_failed c.from_residual.ensures.1 (λ s. tt)
      c.in_err-drop_upload.ensures.does.keeps.stays;
}
