use Rattle.std.proofs.Common.{ℕ, false, List, length, is_some, refl, sym, ap, ◌∙◌}
use Rattle.std.specs.FinMap as finmap
use Rattle.dep_types.specs.Rows.{upload_row}
use Rattle.dep_types.specs.declared.rows.UploadRow.{UploadRow}
use Rattle.dep_tables.specs.Tables.{tables_of}
use Rattle.dep_tables.proofs.Results.{ok_then}
use Rattle.dep_row_maps.specs.Stored.{segment_row}
use Rattle.dep_decisions.specs.Effects.{with_segment}
use Rattle.dep_operations.specs.Views.{live_upload}
use Rattle.dep_requests.proofs.Staged.{received_before, received_new, received_row, seen_live, with_received}
use Rattle.dep_tables.proofs.Chains.{stays_put}
use Rattle.dep_row_maps.proofs.Changing.{does_failed}
use Rattle.dep_requests.proofs.uploads.receive.Goals as goal

pub returns-in_err-live : goal.returns-in_err-live
returns-in_err-live g c = record { map = λ u. does_failed _ c.from_residual.ensures.0 (stays_put g.T.Statements.lenders g.T.Statements.state c.args.tx.now c.from_residual.result) }

pub returns-then-is_some : goal.returns-then-is_some
returns-then-is_some g c = record {
  map = λ u.
      record {
        done = λ clean inside ours s are reported.
            let view = c.args.change.now.view.now in
            let content = c.args.change.now.content.now in
            let k = c.args.segment in
            let it = reported.1.0 in
            let has = reported.1.1 in
            let live = c.in_ok-live.ensures.reported u (live_upload false u it) (seen_live s u it has.1 view.uploads has.0) in
            let row = received_row s u it has.1 k content c.in_ok-live.live.now live view.clock reported.0.0 in
            let number = ap (λ (r : UploadRow). r.upload) row in
            let before = received_before it.segments k content (sym (ap is_some has.2) ∙ sym c.is_some.ensures ∙ c.if-is_some.true) in
            ok_then c.rewrite_upload.result
            (c.rewrite_upload.ensures.does.map clean inside ours s are it (with_segment s k content it) (ap (finmap.get s.uploads) number ∙ has.1)
            (row ∙ ap (λ (n : ℕ). upload_row n (with_segment s k content it)) (sym number)) before refl)
            (with_received s u it has.1 (tables_of (g.T.Statements.state c.rewrite_upload.new.tx)) k _ content number);
        keeps = c.rewrite_upload.ensures.does.keeps;
      };
}

pub returns : goal.returns
returns g c = record {
  map = λ u.
      record {
        done = λ clean inside ours s are reported.
            let view = c.args.change.now.view.now in
            let content = c.args.change.now.content.now in
            let k = c.args.segment in
            let it = reported.1.0 in
            let has = reported.1.1 in
            let live = c.in_ok-live.ensures.reported u (live_upload false u it) (seen_live s u it has.1 view.uploads has.0) in
            let row = received_row s u it has.1 k content c.in_ok-live.live.now live view.clock reported.0.0 in
            let number = ap (λ (r : UploadRow). r.upload) row in
            let new_one = received_new it.segments k content (sym (ap is_some has.2) ∙ sym c.is_some.ensures ∙ c.if-is_some.false) in
            ok_then c.put_segment.result
            (c.put_segment.ensures.does.map clean inside ours s are it (with_segment s k content it) (ap (finmap.get s.uploads) number ∙ has.1) new_one.0
            (row ∙ ap (λ (n : ℕ). upload_row n (with_segment s k content it)) (sym number)) (ap (λ (bytes : List ℕ). segment_row c.in_ok-live.live.now.row.upload k (length bytes)) c.as_slice.ensures) new_one.1 refl)
            (with_received s u it has.1 (tables_of (g.T.Statements.state c.put_segment.new.tx)) k _ content number);
        keeps = c.put_segment.ensures.does.keeps;
      };
}
