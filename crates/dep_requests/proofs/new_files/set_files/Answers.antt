use Rattle.std.proofs.Common.{refl}
use Rattle.std.specs.FinMap as finmap
use Rattle.dep_types.specs.State.{State, Object}
use Rattle.dep_tables.proofs.Chains.{stays_put, stays_then}
use Rattle.dep_tables.specs.Tables.{tables_of}
use Rattle.dep_tables.proofs.Results.{ok_then}
use Rattle.dep_row_maps.specs.TablesAre.{with_object}
use Rattle.dep_row_maps.proofs.Lens.{get_here}
use Rattle.dep_decisions.specs.Effects.{files_added, uploads_of, with_other_files, without}
use Rattle.dep_requests.proofs.Carried.{at_object}
use Rattle.dep_requests.proofs.Added.{new_files_again}
use Rattle.dep_requests.proofs.Steps.{files_row, number_is, its_number, at_number, rewritten, there_at, written_again}
use Rattle.dep_row_maps.proofs.Changing.{changes_then, does_failed, inside_after}
use Rattle.dep_requests.proofs.new_files.set_files.Goals as goal

pub returns : goal.returns
returns g c = record {
  map = λ n.
      record {
        done = λ clean inside ours s are reported.
            let two = inside_after (changes_then c.in_ok-delete_files.ensures.does.keeps c.in_ok-put_object.ensures.does.keeps) c.put_new_files.ensures.map.keeps.stays clean inside ours in
            let one = inside_after c.in_ok-delete_files.ensures.does.keeps c.put_object.ensures.does.keeps.stays two.clean inside ours in
            let view = c.args.numbered.now.change.now.view.now in
            let content = c.args.numbered.now.change.now.content.now in
            let new = g.T.Statements.state c.put_new_files.new.tx in
            let numbers = reported.0 in
            let o = reported.1.0 in
            let object = reported.1.1 in
            let row = c.in_ok-row.row in
            let number = number_is s n o view.object object.0 row c.in_ok-row.ensures.reported in
            let left : Object = record o { files = finmap.empty } in
            let gone = at_number (tables_of (g.T.Statements.state c.delete_files.new.tx)) s row.object n left number (c.in_ok-delete_files.ensures.does.map one.clean inside ours s are o (there_at s.objects row.object n o number object.1)) in
            let first : State = with_object s n left in
            let now = c.files_changed.result in
            let head_only : Object = with_other_files s finmap.empty o in
            let is = files_row s n o view.object object.0 row c.in_ok-row.ensures.reported view.clock view.next numbers.0 numbers.1 now finmap.empty c.files_changed.ensures in
            let put = written_again (tables_of (g.T.Statements.state c.put_object.new.tx)) s n left head_only (at_number (tables_of (g.T.Statements.state c.put_object.new.tx)) first now.object n head_only (its_number n head_only now is)
            (c.in_ok-put_object.ensures.does.map two.clean one.inside one.ours first gone head_only (rewritten first n left head_only now is (get_here s.objects n left) refl refl))) in
            let second : State = with_object s n head_only in
            at_object s (without s.uploads (uploads_of c.args.numbered.now.files.now)) new c.put_new_files.result n o (λ (x : Object). with_other_files s (files_added s content c.args.numbered.now.files.now finmap.empty) x) object.1
            (ok_then c.put_new_files.result
            (c.put_new_files.ensures.map.done head_only clean two.inside two.ours second put
            ((numbers, reported.1.2), there_at second.objects row.object n head_only number (get_here s.objects n head_only)))
            (λ files_added. new_files_again (tables_of new) s content row.object n head_only head_only c.args.numbered.now.files.now number files_added));
        keeps = changes_then (changes_then c.in_ok-delete_files.ensures.does.keeps c.in_ok-put_object.ensures.does.keeps) c.put_new_files.ensures.map.keeps;
      };
}

pub returns-in_err-put_object : goal.returns-in_err-put_object
returns-in_err-put_object g c = record { map = λ n. does_failed _ c.from_residual-in_err-put_object.ensures.0 (stays_then c.in_ok-delete_files.ensures.does.keeps.stays c.put_object.ensures.does.keeps.stays) }

pub returns-in_err-row : goal.returns-in_err-row
returns-in_err-row g c = record { map = λ n. does_failed _ c.from_residual.ensures.0 (stays_put g.T.Statements.lenders g.T.Statements.state c.args.tx.now c.from_residual.result) }

pub returns-in_err-delete_files : goal.returns-in_err-delete_files
returns-in_err-delete_files g c = record { map = λ n. does_failed _ c.from_residual-in_err-delete_files.ensures.0 c.in_err-delete_files.ensures.does.keeps.stays }
