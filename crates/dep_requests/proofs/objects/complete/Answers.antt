use Rattle.std.proofs.Common.{true, refl}
use Rattle.dep_types.specs.State.{Object}
use Rattle.dep_tables.specs.Tables.{tables_of}
use Rattle.dep_tables.proofs.Results.{ok_then}
use Rattle.dep_decisions.specs.Effects.{changed, ingested_by}
use Rattle.dep_requests.proofs.Carried.{at_object}
use Rattle.dep_requests.proofs.Steps.{completed_row, its_number, at_number, rewritten}
use Rattle.dep_tables.proofs.Chains.{stays_put}
use Rattle.dep_row_maps.proofs.Changing.{does_failed}
use Rattle.dep_requests.proofs.objects.complete.Goals as goal

pub returns : goal.returns
returns g c = record {
  map = λ n.
      record {
        done = λ clean inside ours s are reported.
            let new = g.T.Statements.state c.put_object.new.tx in
            let view = c.args.change.now.view.now in
            let numbers = reported.0 in
            let o = reported.1.0 in
            let object = reported.1.1 in
            let row = c.in_ok-row.row in
            let found = c.in_ok-row.ensures.reported in
            let it : Object = ingested_by true (changed s o) in
            let is = completed_row s n o view.object object.0 row found view.clock view.next numbers.0 numbers.1 c.completed.result c.completed.ensures in
            at_object s s.uploads new c.put_object.result n o (λ (x : Object). ingested_by true (changed s x)) object.1
            (ok_then c.put_object.result (c.put_object.ensures.does.map clean inside ours s are it (rewritten s n o it _ is object.1 refl refl))
            (λ put. at_number (tables_of new) s c.completed.result.object n it (its_number n it c.completed.result is) put));
        keeps = c.put_object.ensures.does.keeps;
      };
}

pub returns-in_err-row : goal.returns-in_err-row
returns-in_err-row g c = record { map = λ n. does_failed _ c.from_residual.ensures.0 (stays_put g.T.Statements.lenders g.T.Statements.state c.args.tx.now c.from_residual.result) }
