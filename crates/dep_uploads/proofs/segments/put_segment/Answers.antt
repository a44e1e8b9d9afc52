use Rattle.std.proofs.Common.{ap, sym, subst, ◌∙◌}
use Rattle.std.specs.List.{list_any}
use Rattle.std.specs.Prelude.{OnOk}
use Rattle.dep_tables.specs.Rows.{has_segment_key}
use Rattle.dep_tables.specs.Tables.{Tables, tables_of}
use Rattle.dep_tables.proofs.Results.{if_ok}
use Rattle.dep_tables.proofs.Chains.{clean_before, stays_then}
use Rattle.dep_types.specs.State.{with_upload}
use Rattle.dep_row_maps.specs.TablesAre.{TablesAre}
use Rattle.dep_row_maps.proofs.Lens.{get_here, insert_twice}
use Rattle.dep_uploads.proofs.Lacking.{lacked}
use Rattle.dep_staging.proofs.UploadCalls.{received, received_into}
use Rattle.dep_row_maps.proofs.Changing.{changes_then, inside_after, tables_after, tables_by, tables_kept}
use Rattle.dep_row_maps.proofs.Calling.{changes_failed}
use Rattle.dep_uploads.proofs.segments.put_segment.Goals as goal

pub returns-clause-does : goal.returns-clause-does
returns-clause-does g c =
    let rows_put = tables_after c.in_ok-put_blocks.ensures.does (tables_by c.in_ok-insert_segment.ensures.does) in
    record {
      map = λ clean inside ours s are was it there none is its grown kept.
          let before = inside_after (tables_kept rows_put) c.rewrite_upload.ensures.does.keeps.stays clean inside ours in
          let u = c.args.row.now.upload in
          let bytes = g.C.Content.bytes c.args.content.now in
          let mid = received_into was c.args.segment.now.number bytes in
          let put = received (tables_of (g.T.Statements.state c.args.tx.now)) (tables_of (g.T.Statements.state c.insert_segment.new.tx)) s c.args.segment.now u bytes was are
          ours.trees.ordered.1.1.1.1.1.1.0 ours.trees.ordered.1.1.1.1.1.1.1.1.0 there none its (rows_put.ok before.clean inside ours).rows in
          subst (λ m. OnOk c.rewrite_upload.result (TablesAre (tables_of (g.T.Statements.state c.rewrite_upload.new.tx)) (record s { uploads = m }))) (insert_twice s.uploads u mid it)
          (c.rewrite_upload.ensures.does.map clean before.inside before.ours (with_upload s u mid) put mid it (get_here s.uploads u mid) is grown kept);
      keeps = changes_then (tables_kept rows_put) c.rewrite_upload.ensures.does.keeps;
    }

pub returns-clause-free : goal.returns-clause-free
returns-clause-free g c clean inside ours s are =
    let old = g.T.Statements.state c.args.tx.now in
    let clean_two = clean_before c.rewrite_upload.ensures.does.keeps.stays clean in
    let clean_one = clean_before c.insert_segment.ensures.does.keeps.stays clean_two in
    let first = c.in_ok-put_blocks.ensures.does.ok clean_one inside ours in
    let free = c.in_ok-insert_segment.ensures.free clean_two (c.in_ok-put_blocks.ensures.does.stays.inside clean_one inside) first.ours in
    if_ok c.rewrite_upload.result (lacked (tables_of old) s c.args.segment.now are (ap (λ (t : Tables). list_any (has_segment_key c.args.segment.now) t.segments) (sym first.rows) ∙ free))

pub returns-in_err-insert_segment-clause-does : goal.returns-in_err-insert_segment-clause-does
returns-in_err-insert_segment-clause-does g c =
    changes_failed c.from_residual-in_err-insert_segment.ensures.1 (λ s was it there none is its grown kept. tt)
    (stays_then c.in_ok-put_blocks.ensures.does.stays c.in_err-insert_segment.ensures.does.keeps.stays)

pub returns-in_err-put_blocks-clause-does : goal.returns-in_err-put_blocks-clause-does
returns-in_err-put_blocks-clause-does g c =
    changes_failed c.from_residual.ensures.1 (λ s was it there none is its grown kept. tt)
    c.in_err-put_blocks.ensures.does.stays
