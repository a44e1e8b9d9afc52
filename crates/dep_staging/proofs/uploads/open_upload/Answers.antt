use Rattle.std.proofs.Common.{None, Some, ap, refl, sym, ◌∙◌}
use Rattle.dep_tables.specs.Rowids.{row_at}
use Rattle.dep_tables.specs.Edits.{with_new_upload_row}
use Rattle.dep_tables.specs.Tables.{tables_of}
use Rattle.dep_tables.specs.declared.uploads.UploadColumns.{UploadColumns}
use Rattle.dep_tables.proofs.Results.{if_ok, ok_then}
use Rattle.dep_tables.proofs.Chains.{clean_before}
use Rattle.dep_row_maps.proofs.Changing.{changes_ok, changes_then, tables_by, tables_kept}
use Rattle.dep_staging.proofs.UploadCalls.{none_at, opened}
use Rattle.dep_row_maps.proofs.Calling.{changes_failed}
use Rattle.std.proofs.lemmas.Result.{IfOk-from_err}
use Rattle.dep_staging.proofs.uploads.open_upload.Goals as goal

pub returns-in-Some-clause-does : goal.returns-in-Some-clause-does
returns-in-Some-clause-does g c = record {
  map = λ clean inside ours s are it is empty.
      let old = tables_of (g.T.Statements.state c.args.tx.now) in
      let mid = tables_of (g.T.Statements.state c.insert_upload.new.tx) in
      let new = tables_of (g.T.Statements.state c.insert_sha512.new.tx) in
      let before = clean_before c.insert_sha512.ensures.does.keeps.stays clean in
      let first = c.in_ok-insert_upload.ensures.does.ok before inside ours in
      let free = ap (λ (r : UploadColumns). row_at old.uploads r.upload) (sym c.of_row.ensures) ∙ c.in_ok-insert_upload.ensures.free before inside ours in
      ok_then c.insert_sha512.result (c.insert_sha512.ensures.does.ok clean first.shows.mode first.ours)
      (λ leads. (opened old mid new s c.args.row.now (Some c.in-Some.value) it are ours.trees.ordered.1.1.1.1.1.1.1.1.1.0 c.in-Some.is is empty free
      (first.rows ∙ ap (λ (r : UploadColumns). with_new_upload_row r old) c.of_row.ensures) leads.rows).1);
  keeps =
      changes_then (tables_kept (tables_by c.in_ok-insert_upload.ensures.does)) (tables_kept (tables_by c.insert_sha512.ensures.does));
}

pub returns-in-None-clause-does : goal.returns-in-None-clause-does
returns-in-None-clause-does g c = record {
  map = λ clean inside ours s are it is empty.
      let old = tables_of (g.T.Statements.state c.args.tx.now) in
      let new = tables_of (g.T.Statements.state c.insert_upload.new.tx) in
      let first = c.in_ok-insert_upload.ensures.does.ok clean inside ours in
      let free = ap (λ (r : UploadColumns). row_at old.uploads r.upload) (sym c.of_row.ensures) ∙ c.in_ok-insert_upload.ensures.free clean inside ours in
      (opened old new new s c.args.row.now None it are ours.trees.ordered.1.1.1.1.1.1.1.1.1.0 c.in-None.is is empty free
      (first.rows ∙ ap (λ (r : UploadColumns). with_new_upload_row r old) c.of_row.ensures) refl).1;
  keeps = changes_ok (tables_kept (tables_by c.in_ok-insert_upload.ensures.does));
}

pub returns-in_err-insert_upload-clause-does : goal.returns-in_err-insert_upload-clause-does
returns-in_err-insert_upload-clause-does g c =
    changes_failed c.from_residual.ensures.1 (λ s it is empty. tt)
    c.in_err-insert_upload.ensures.does.keeps.stays

pub returns-in-Some-clause-free : goal.returns-in-Some-clause-free
returns-in-Some-clause-free g c clean inside ours s are =
    let old = tables_of (g.T.Statements.state c.args.tx.now) in
    let before = clean_before c.insert_sha512.ensures.does.keeps.stays clean in
    if_ok c.insert_sha512.result (none_at old s c.args.row.now.upload are (ap (λ (r : UploadColumns). row_at old.uploads r.upload) (sym c.of_row.ensures) ∙ c.in_ok-insert_upload.ensures.free before inside ours))

pub returns-in-None-clause-free : goal.returns-in-None-clause-free
returns-in-None-clause-free g c clean inside ours s are =
    let old = tables_of (g.T.Statements.state c.args.tx.now) in
    none_at old s c.args.row.now.upload are (ap (λ (r : UploadColumns). row_at old.uploads r.upload) (sym c.of_row.ensures) ∙ c.in_ok-insert_upload.ensures.free clean inside ours)

pub returns-in_err-insert_upload-clause-free : goal.returns-in_err-insert_upload-clause-free
returns-in_err-insert_upload-clause-free g c clean inside ours s are = IfOk-from_err c.from_residual.result _ c.from_residual.ensures.0
