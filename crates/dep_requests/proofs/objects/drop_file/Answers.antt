use Rattle.std.specs.FinMap as finmap
use Rattle.dep_types.specs.State.{State, Object}
use Rattle.dep_tables.proofs.Chains.{stays_put}
use Rattle.dep_tables.specs.Tables.{tables_of}
use Rattle.dep_tables.proofs.Results.{ok_then}
use Rattle.dep_row_maps.specs.TablesAre.{with_object}
use Rattle.dep_row_maps.proofs.Lens.{get_here}
use Rattle.dep_decisions.specs.Effects.{with_other_files}
use Rattle.dep_requests.proofs.Carried.{at_object}
use Rattle.dep_requests.proofs.Steps.{written_again, files_marked}
use Rattle.dep_row_maps.proofs.Changing.{changes_then, does_failed, inside_after}
use Rattle.dep_requests.proofs.objects.drop_file.Goals as goal

pub returns : goal.returns
returns g c = record {
  map = λ n.
      record {
        done = λ clean inside ours s are reported.
            let before = inside_after c.in_ok-put_object.ensures.does.keeps c.delete_file.ensures.does.keeps.stays clean inside ours in
            let o = reported.1.0 in
            let object = reported.1.2.0 in
            let mark : Object = with_other_files s o.files o in
            let put = files_marked (tables_of (g.T.Statements.state c.put_object.new.tx)) s n o c.args.change.now.view.now object reported.0 c.in_ok-row.row c.in_ok-row.ensures.reported c.files_changed.result c.files_changed.ensures
            (c.in_ok-put_object.ensures.does.map before.clean inside ours s are mark) in
            let one : State = with_object s n mark in
            let it : Object = with_other_files s (finmap.remove o.files c.args.file) o in
            at_object s s.uploads (g.T.Statements.state c.delete_file.new.tx) c.delete_file.result n o (λ (x : Object). with_other_files s (finmap.remove x.files c.args.file) x) object.1
            (ok_then c.delete_file.result
            (c.delete_file.ensures.does.map clean before.inside before.ours one put n mark reported.1.1 (get_here s.objects n mark) reported.1.2.1)
            (λ gone. written_again (tables_of (g.T.Statements.state c.delete_file.new.tx)) s n mark it gone));
        keeps = changes_then c.in_ok-put_object.ensures.does.keeps c.delete_file.ensures.does.keeps;
      };
}

pub returns-in_err-row : goal.returns-in_err-row
returns-in_err-row g c = record { map = λ n. does_failed _ c.from_residual.ensures.0 (stays_put g.T.Statements.lenders g.T.Statements.state c.args.tx.now c.from_residual.result) }

pub returns-in_err-put_object : goal.returns-in_err-put_object
returns-in_err-put_object g c = record { map = λ n. does_failed _ c.from_residual-in_err-put_object.ensures.0 c.in_err-put_object.ensures.does.keeps.stays }
