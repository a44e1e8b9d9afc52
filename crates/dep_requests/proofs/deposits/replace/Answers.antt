use Rattle.std.proofs.Common.{◌||◌, refl}
use Rattle.std.specs.FinMap as finmap
use Rattle.dep_types.specs.State.{State, Object}
use Rattle.dep_tables.proofs.Chains.{stays_put, stays_then}
use Rattle.dep_tables.specs.Tables.{tables_of}
use Rattle.dep_tables.proofs.Results.{ok_then}
use Rattle.dep_row_maps.specs.TablesAre.{with_object}
use Rattle.dep_row_maps.proofs.Lens.{get_here}
use Rattle.dep_decisions.specs.Effects.{blank, filled, ingested_by, uploads_in, without}
use Rattle.dep_requests.proofs.Carried.{at_object}
use Rattle.dep_requests.proofs.Filled.{ingested_row, blank_again, still_have, deposit_again}
use Rattle.dep_requests.proofs.Steps.{row_is, its_number, at_number, rewritten, there_at, written_again}
use Rattle.dep_row_maps.proofs.Changing.{changes_then, does_failed, inside_after}
use Rattle.dep_requests.proofs.deposits.replace.Goals as goal

pub returns : goal.returns
returns g c = record {
  map = λ n.
      record {
        done = λ clean inside ours s are reported.
            let view = c.args.numbered.now.change.now.view.now in
            let numbers = reported.0 in
            let o = reported.1.0 in
            let object = reported.1.1 in
            let content = c.args.numbered.now.change.now.content.now in
            let emptied = changes_then c.in_ok-delete_files.ensures.does.keeps c.in_ok-clear_metadata.ensures.map.keeps in
            let three = inside_after (changes_then emptied c.in_ok-put_object.ensures.does.keeps) c.fill.ensures.map.keeps.stays clean inside ours in
            let two = inside_after emptied c.put_object.ensures.does.keeps.stays three.clean inside ours in
            let one = inside_after c.in_ok-delete_files.ensures.does.keeps c.clear_metadata.ensures.map.keeps.stays two.clean inside ours in
            let new = g.T.Statements.state c.fill.new.tx in
            let bare = tables_of (g.T.Statements.state c.clear_metadata.new.tx) in
            let blanked = tables_of (g.T.Statements.state c.put_object.new.tx) in
            let row = c.ingested_by-row.result in
            let ingested = o.ingested || c.args.ingests in
            let it : Object = ingested_by c.args.ingests o in
            let row_of = ingested_row n o c.args.ingests c.in_ok-touched_object.field-0 row (row_is s n o view.object object.0 c.in_ok-touched_object.field-0 c.in_ok-touched_object.ensures.reported) c.ingested_by-row.ensures in
            let number = its_number n it row row_of in
            let left : Object = record o { files = finmap.empty } in
            let gone = at_number (tables_of (g.T.Statements.state c.delete_files.new.tx)) s row.object n left number (c.in_ok-delete_files.ensures.does.map one.clean inside ours s are o (there_at s.objects row.object n o number object.1)) in
            let first : State = with_object s n left in
            let head_only : Object = record left { metadata = finmap.empty } in
            let cleared = written_again bare s n left head_only (at_number bare first row.object n head_only number
            (c.in_ok-clear_metadata.ensures.map.done left two.clean one.inside one.ours first gone (there_at first.objects row.object n left number (get_here s.objects n left)))) in
            let second : State = with_object s n head_only in
            let now = c.blank_row.result in
            let clear : Object = blank s ingested in
            let is = blank_again s view.clock view.next numbers.0 numbers.1 now n it row row_of c.blank_row.ensures in
            let put = written_again blanked s n head_only clear (at_number blanked second now.object n clear (its_number n clear now is)
            (c.in_ok-put_object.ensures.does.map three.clean two.inside two.ours second cleared clear (rewritten second n head_only clear now is (get_here s.objects n head_only) refl refl))) in
            let third : State = with_object s n clear in
            at_object s (without s.uploads (uploads_in c.args.numbered.now.deposit.now)) new c.fill.result n o (λ (x : Object). filled s content c.args.numbered.now.deposit.now (x.ingested || c.args.ingests)) object.1
            (ok_then c.fill.result
            (c.fill.ensures.map.done clear clean three.inside three.ours third put
            ((numbers, still_have third.objects s content view.uploads c.args.numbered.now.deposit.now reported.1.2), there_at third.objects row.object n clear number (get_here s.objects n clear)))
            (λ done. deposit_again (tables_of new) s content row.object n clear c.args.numbered.now.deposit.now ingested number done));
        keeps = changes_then (changes_then (changes_then c.in_ok-delete_files.ensures.does.keeps c.in_ok-clear_metadata.ensures.map.keeps) c.in_ok-put_object.ensures.does.keeps) c.fill.ensures.map.keeps;
      };
}

pub returns-in_err-clear_metadata : goal.returns-in_err-clear_metadata
returns-in_err-clear_metadata g c = record { map = λ n. does_failed _ c.from_residual-in_err-clear_metadata.ensures.0 (stays_then c.in_ok-delete_files.ensures.does.keeps.stays c.clear_metadata.ensures.map.keeps.stays) }

pub returns-in_err-put_object : goal.returns-in_err-put_object
returns-in_err-put_object g c = record { map = λ n. does_failed _ c.from_residual-in_err-put_object.ensures.0 (stays_then (stays_then c.in_ok-delete_files.ensures.does.keeps.stays c.in_ok-clear_metadata.ensures.map.keeps.stays) c.put_object.ensures.does.keeps.stays) }

pub returns-in_err-touched_object : goal.returns-in_err-touched_object
returns-in_err-touched_object g c = record { map = λ n. does_failed _ c.from_residual.ensures.0 (stays_put g.T.Statements.lenders g.T.Statements.state c.args.tx.now c.from_residual.result) }

pub returns-in_err-delete_files : goal.returns-in_err-delete_files
returns-in_err-delete_files g c = record { map = λ n. does_failed _ c.from_residual-in_err-delete_files.ensures.0 c.in_err-delete_files.ensures.does.keeps.stays }
