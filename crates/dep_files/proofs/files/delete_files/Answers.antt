use Rattle.std.proofs.lemmas.Result.{IfOk-from_err}
use Rattle.std.proofs.Common.{List, ap, ◌∙◌, map}
use Rattle.dep_types.specs.declared.rows.FileRow.{FileRow}
use Rattle.dep_tables.specs.Edits.{without_file_rows}
use Rattle.dep_tables.specs.Tables.{tables_of}
use Rattle.dep_tables.proofs.Results.{ok_then}
use Rattle.dep_tables.proofs.Chains.{stays_then}
use Rattle.dep_row_maps.specs.Laws.{without_contents}
use Rattle.dep_row_maps.proofs.ListedFiles.{files_read, files_from_none}
use Rattle.dep_row_maps.specs.ReadLaws.{file_rows}
use Rattle.dep_row_maps.specs.TablesAre.{files_at}
use Rattle.dep_files.proofs.Behind.{behind}
use Rattle.dep_files.proofs.FileCalls.{files_gone}
use Rattle.dep_row_maps.proofs.Changing.{changes_err, changes_then, reads_change, tables_after, tables_by, tables_kept}
use Rattle.dep_files.proofs.files.delete_files.Goals as goal

pub returns : goal.returns
returns g c =
    let rest = tables_after c.in_ok-delete_contents.ensures.does (tables_by c.delete_files.ensures.does) in
    record {
      does = record {
        map = λ clean inside ours s are o there.
            let old = g.T.Statements.state c.args.tx.now in
            let seen = behind c.in_ok-rows.ensures.does.keeps rest.stays clean ours s are in
            let found = c.in_ok-rows.rows.items in
            let is = files_read (tables_of old) s are c.args.object 0 found (c.in_ok-rows.ensures.does.ok seen.clean ours) ∙ files_from_none (file_rows c.args.object (files_at s.objects c.args.object)) in
            let without = λ (rows : List FileRow). without_contents (map (λ (r : FileRow). r.file) rows) in
            let same = ap (λ rows. without rows (tables_of (g.T.Statements.state c.files_of.new.tx))) c.as_slice.ensures.value ∙ ap (without found) seen.tables in
            ok_then c.delete_files.result (rest.ok clean (c.in_ok-rows.ensures.does.keeps.stays.inside seen.clean inside) seen.ours)
            (λ gone. files_gone (tables_of old) (tables_of (g.T.Statements.state c.delete_files.new.tx)) s c.args.object o found are ours.trees.ordered.1.1.1.1.0 there is (gone.rows ∙ ap (without_file_rows c.args.object) same));
        keeps = changes_then (reads_change c.in_ok-rows.ensures.does.keeps) (tables_kept rest);
      };
    }

pub returns-in_err-delete_contents : goal.returns-in_err-delete_contents
returns-in_err-delete_contents g c = record {
  does = record {
    map = λ clean inside ours s are o there. IfOk-from_err c.from_residual-in_err-delete_contents.result _ c.from_residual-in_err-delete_contents.ensures.0;
    keeps = changes_err c.from_residual-in_err-delete_contents.ensures.0 (stays_then c.in_ok-rows.ensures.does.keeps.stays c.delete_contents.ensures.does.stays);
  };
}

pub returns-in_err-rows : goal.returns-in_err-rows
returns-in_err-rows g c = record {
  does = record {
    map = λ clean inside ours s are o there. IfOk-from_err c.from_residual.result _ c.from_residual.ensures.0;
    keeps = changes_err c.from_residual.ensures.0 c.in_err-rows.ensures.does.keeps.stays;
  };
}
