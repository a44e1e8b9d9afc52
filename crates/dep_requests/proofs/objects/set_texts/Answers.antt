use Rattle.dep_types.specs.State.{State, Object}
use Rattle.dep_tables.proofs.Chains.{stays_put}
use Rattle.dep_tables.specs.Tables.{tables_of}
use Rattle.dep_tables.proofs.Results.{ok_then}
use Rattle.dep_row_maps.specs.TablesAre.{with_object}
use Rattle.dep_row_maps.proofs.Lens.{get_here}
use Rattle.dep_decisions.specs.Effects.{with_other_texts}
use Rattle.dep_requests.proofs.Carried.{at_object}
use Rattle.dep_requests.proofs.Steps.{number_is, at_number, there_at, written_again, texts_marked}
use Rattle.dep_row_maps.proofs.Changing.{changes_then, does_failed, inside_after}
use Rattle.dep_requests.proofs.objects.set_texts.Goals as goal

pub returns : goal.returns
returns g c = record {
  map = λ n.
      record {
        done = λ clean inside ours s are reported.
            let before = inside_after c.in_ok-put_object.ensures.does.keeps c.set_metadata.ensures.does.keeps.stays clean inside ours in
            let new = g.T.Statements.state c.set_metadata.new.tx in
            let texts = c.args.metadata.now in
            let view = c.args.change.now.view.now in
            let o = reported.1.0 in
            let object = reported.1.1 in
            let row = c.in_ok-row.row in
            let number = number_is s n o view.object object.0 row c.in_ok-row.ensures.reported in
            let mark : Object = with_other_texts s o.metadata o in
            let put = texts_marked (tables_of (g.T.Statements.state c.put_object.new.tx)) s n o view object reported.0 row c.in_ok-row.ensures.reported c.texts_changed.result c.texts_changed.ensures
            (c.in_ok-put_object.ensures.does.map before.clean inside ours s are mark) in
            let one : State = with_object s n mark in
            at_object s s.uploads new c.set_metadata.result n o (with_other_texts s texts) object.1
            (ok_then c.set_metadata.result
            (c.set_metadata.ensures.does.map clean before.inside before.ours one put mark (there_at one.objects row.object n mark number (get_here s.objects n mark)))
            (λ set. written_again (tables_of new) s n mark (with_other_texts s texts o) (at_number (tables_of new) one row.object n (with_other_texts s texts o) number set)));
        keeps = changes_then c.in_ok-put_object.ensures.does.keeps c.set_metadata.ensures.does.keeps;
      };
}

pub returns-in_err-row : goal.returns-in_err-row
returns-in_err-row g c = record { map = λ n. does_failed _ c.from_residual.ensures.0 (stays_put g.T.Statements.lenders g.T.Statements.state c.args.tx.now c.from_residual.result) }

pub returns-in_err-put_object : goal.returns-in_err-put_object
returns-in_err-put_object g c = record { map = λ n. does_failed _ c.from_residual-in_err-put_object.ensures.0 c.in_err-put_object.ensures.does.keeps.stays }
