use Rattle.dep_tables.proofs.Results.{ok_then}
use Rattle.dep_tables.specs.Tables.{tables_of}
use Rattle.dep_objects.proofs.Appending.{metadata_set}
use Rattle.dep_row_maps.proofs.Changing.{tables_after, tables_by, tables_kept}
use Rattle.dep_row_maps.proofs.Calling.{changes_failed}
use Rattle.dep_objects.proofs.metadata.set_metadata.Goals as goal

pub returns : goal.returns
returns g c =
    let all = tables_after (tables_by c.in_ok-delete_metadata.ensures.does) c.put_entries.ensures.does in
    record {
      does = record {
        map = λ clean inside ours s are o there.
            let old = tables_of (g.T.Statements.state c.args.tx.now) in
            ok_then c.put_entries.result (all.ok clean inside ours)
            (λ seen. metadata_set old (tables_of (g.T.Statements.state c.put_entries.new.tx)) s c.args.object o c.args.metadata.now c.entries.result.now are ours.trees.ordered.1.1.1.0 there c.entries.ensures
            seen.rows);
        keeps = tables_kept all;
      };
    }

pub returns-in_err-delete_metadata : goal.returns-in_err-delete_metadata
returns-in_err-delete_metadata g c = record {
  does =
      changes_failed c.from_residual.ensures.1 (λ s o there. tt)
      c.in_err-delete_metadata.ensures.does.keeps.stays;
}
