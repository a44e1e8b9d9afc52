use Rattle.std.proofs.Common.{ap}
use Rattle.dep_tables.proofs.Chains.{stays_then}
use Rattle.dep_tables.proofs.Results.{ok_then}
use Rattle.dep_tables.specs.Tables.{Tables, tables_of}
use Rattle.dep_files.proofs.FileCalls.{none_under}
use Rattle.dep_files.proofs.Results.{ok_both}
use Rattle.dep_staging.proofs.Moved.{made}
use Rattle.dep_row_maps.proofs.Changing.{inside_after, tables_after, tables_by, tables_kept}
use Rattle.dep_row_maps.proofs.Calling.{changes_failed}
use Rattle.std.proofs.lemmas.Result.{IfOk-from_err}
use Rattle.dep_staging.proofs.assembling.assemble.Goals as goal

pub returns-clause-does : goal.returns-clause-does
returns-clause-does g c =
    let so_far = tables_after (tables_after c.in_ok-move_content.ensures.does c.in_ok-forget_upload.ensures.does) (tables_by c.in_ok-insert_sha512.ensures.does) in
    let all = tables_after so_far (tables_by c.insert_file.ensures.does) in
    record {
      map = λ clean inside ours s are o it file there held whole upload_is row_is its content.
          let before = inside_after (tables_kept so_far) c.insert_file.ensures.does.keeps.stays clean inside ours in
          let old = tables_of (g.T.Statements.state c.args.tx.now) in
          let mid = tables_of (g.T.Statements.state c.insert_sha512.new.tx) in
          let new = tables_of (g.T.Statements.state c.insert_file.new.tx) in
          ok_both c.insert_file.result (all.ok clean inside ours) (c.insert_file.ensures.free clean before.inside before.ours)
          (λ seen free. made old mid new c.args.upload.now c.args.row.now c.args.sha512.now (so_far.ok before.clean inside ours).rows seen.rows
          s o it file are ours.trees.ordered.1.1.1.1.0 ours.trees.ordered.1.1.1.1.1.1.1.1.1.0 there held whole row_is its content free);
      keeps = tables_kept all;
    }

pub returns-clause-free : goal.returns-clause-free
returns-clause-free g c clean inside ours s are =
    let so_far = tables_after (tables_after c.in_ok-move_content.ensures.does c.in_ok-forget_upload.ensures.does) (tables_by c.in_ok-insert_sha512.ensures.does) in
    let before = inside_after (tables_kept so_far) c.insert_file.ensures.does.keeps.stays clean inside ours in
    ok_then c.insert_file.result (c.insert_file.ensures.free clean before.inside before.ours)
    (none_under (tables_of (g.T.Statements.state c.args.tx.now)) (tables_of (g.T.Statements.state c.insert_sha512.new.tx)) s c.args.row.now.file are ours.trees.ordered.1.1.1.1.0 (ap (λ (t : Tables). t.files) (so_far.ok before.clean inside ours).rows))

pub returns-in_err-forget_upload-clause-does : goal.returns-in_err-forget_upload-clause-does
returns-in_err-forget_upload-clause-does g c =
    changes_failed c.from_residual-in_err-forget_upload.ensures.1 (λ s o it file there held whole upload_is row_is its content. tt)
    (stays_then c.in_ok-move_content.ensures.does.stays c.in_err-forget_upload.ensures.does.stays)

pub returns-in_err-insert_sha512-clause-does : goal.returns-in_err-insert_sha512-clause-does
returns-in_err-insert_sha512-clause-does g c =
    changes_failed c.from_residual-in_err-insert_sha512.ensures.1 (λ s o it file there held whole upload_is row_is its content. tt)
    (stays_then (stays_then c.in_ok-move_content.ensures.does.stays c.in_ok-forget_upload.ensures.does.stays) c.in_err-insert_sha512.ensures.does.keeps.stays)

pub returns-in_err-move_content-clause-does : goal.returns-in_err-move_content-clause-does
returns-in_err-move_content-clause-does g c =
    changes_failed c.from_residual.ensures.1 (λ s o it file there held whole upload_is row_is its content. tt)
    c.in_err-move_content.ensures.does.stays

pub returns-in_err-forget_upload-clause-free : goal.returns-in_err-forget_upload-clause-free
returns-in_err-forget_upload-clause-free g c clean inside ours s are = IfOk-from_err c.from_residual-in_err-forget_upload.result _ c.from_residual-in_err-forget_upload.ensures.0

pub returns-in_err-insert_sha512-clause-free : goal.returns-in_err-insert_sha512-clause-free
returns-in_err-insert_sha512-clause-free g c clean inside ours s are = IfOk-from_err c.from_residual-in_err-insert_sha512.result _ c.from_residual-in_err-insert_sha512.ensures.0

pub returns-in_err-move_content-clause-free : goal.returns-in_err-move_content-clause-free
returns-in_err-move_content-clause-free g c clean inside ours s are = IfOk-from_err c.from_residual.result _ c.from_residual.ensures.0
