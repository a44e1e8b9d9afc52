use Rattle.std.proofs.Common.{refl, sym, subst}
use Rattle.std.specs.Prelude.{slice_get}
use Rattle.std.specs.FinMap as finmap
use Rattle.dep_types.specs.State.{State, Object, File}
use Rattle.dep_tables.proofs.Chains.{stays_put, stays_then}
use Rattle.dep_tables.specs.Tables.{tables_of}
use Rattle.dep_tables.proofs.Results.{ok_then}
use Rattle.dep_row_maps.specs.TablesAre.{TablesAre, with_object}
use Rattle.dep_row_maps.proofs.Lens.{get_here}
use Rattle.dep_decisions.specs.Effects.{bytes_from, file_from, with_other_files}
use Rattle.dep_decisions.specs.declared.decision.ContentSource.{ContentSource}
use Rattle.dep_requests.proofs.Carried.{at_object}
use Rattle.dep_requests.specs.Changed.{made_file, with_deposited_file}
use Rattle.dep_requests.specs.Reported.{IsSource}
use Rattle.dep_requests.proofs.Steps.{number_is, at_number, there_at, written_again, file_replaced, files_marked}
use Rattle.dep_row_maps.proofs.Changing.{changes_then, does_failed, inside_after}
use Rattle.dep_requests.proofs.new_files.set_file.Goals as goal

pub returns : goal.returns
returns g c = record {
  map = λ n.
      record {
        done = λ clean inside ours s are reported.
            let content = c.args.change.now.content.now in
            let view = c.args.change.now.view.now in
            let f = c.args.file in
            let as_new = c.args.new.now in
            let new = g.T.Statements.state c.put_new_file.new.tx in
            let two = inside_after (changes_then c.in_ok-put_object.ensures.does.keeps c.in_ok-delete_file.ensures.does.keeps) c.put_new_file.ensures.map.keeps.stays clean inside ours in
            let one = inside_after c.in_ok-put_object.ensures.does.keeps c.delete_file.ensures.does.keeps.stays two.clean inside ours in
            let o = reported.1.0 in
            let object = reported.1.2.0 in
            let source = reported.1.3 in
            let row = c.in_ok-row.row in
            let number = number_is s n o view.object object.0 row c.in_ok-row.ensures.reported in
            let mark : Object = with_other_files s o.files o in
            let put = files_marked (tables_of (g.T.Statements.state c.put_object.new.tx)) s n o view object reported.0 row c.in_ok-row.ensures.reported c.files_changed.result c.files_changed.ensures
            (c.in_ok-put_object.ensures.does.map one.clean inside ours s are mark) in
            let first : State = with_object s n mark in
            let left : Object = with_other_files s (finmap.remove o.files f) o in
            let gone = written_again (tables_of (g.T.Statements.state c.delete_file.new.tx)) s n mark left
            (c.in_ok-delete_file.ensures.does.map two.clean one.inside one.ours first put n mark reported.1.1 (get_here s.objects n mark) reported.1.2.1) in
            let second : State = with_object s n left in
            let made : File = made_file s as_new content in
            let it : Object = with_other_files s (finmap.insert (finmap.remove o.files f) f made) o in
            at_object s s.uploads new c.put_new_file.result n o (λ (x : Object). with_other_files s (finmap.insert x.files f (file_from s content as_new)) x) object.1
            (ok_then c.put_new_file.result
            (c.put_new_file.ensures.map.done left clean two.inside two.ours second gone
            ((reported.0, subst (IsSource second content (slice_get view.uploads 0)) (sym source) refl), there_at second.objects row.object n left number (get_here s.objects n left)))
            (λ there.
            let posted = subst (λ (from : ContentSource). TablesAre (tables_of new) (with_deposited_file second row.object left f (made_file second as_new (bytes_from second content from)) from)) source there in
            subst (λ (from : ContentSource). TablesAre (tables_of new) (with_object s n (with_other_files s (finmap.insert o.files f (made_file s as_new (bytes_from s content from))) o))) (sym source)
            (file_replaced (tables_of new) s n o f made (written_again (tables_of new) s n left it (at_number (tables_of new) second row.object n it number posted)))));
        keeps = changes_then (changes_then c.in_ok-put_object.ensures.does.keeps c.in_ok-delete_file.ensures.does.keeps) c.put_new_file.ensures.map.keeps;
      };
}

pub returns-in_err-delete_file : goal.returns-in_err-delete_file
returns-in_err-delete_file g c = record { map = λ n. does_failed _ c.from_residual-in_err-delete_file.ensures.0 (stays_then c.in_ok-put_object.ensures.does.keeps.stays c.delete_file.ensures.does.keeps.stays) }

pub returns-in_err-row : goal.returns-in_err-row
returns-in_err-row g c = record { map = λ n. does_failed _ c.from_residual.ensures.0 (stays_put g.T.Statements.lenders g.T.Statements.state c.args.tx.now c.from_residual.result) }

pub returns-in_err-put_object : goal.returns-in_err-put_object
returns-in_err-put_object g c = record { map = λ n. does_failed _ c.from_residual-in_err-put_object.ensures.0 c.in_err-put_object.ensures.does.keeps.stays }
