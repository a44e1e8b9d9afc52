use Rattle.std.proofs.Common.{refl, ap, ◌∙◌}
use Rattle.dep_types.specs.State.{State, Object}
use Rattle.dep_types.specs.declared.counters.Counters.{Counters}
use Rattle.dep_tables.specs.Tables.{tables_of}
use Rattle.dep_tables.proofs.Results.{ok_then}
use Rattle.dep_row_maps.specs.TablesAre.{with_object}
use Rattle.dep_row_maps.proofs.Lens.{get_here}
use Rattle.dep_decisions.specs.Effects.{blank}
use Rattle.dep_requests.proofs.Filled.{blank_added, blank_row_is, still_have, deposit_again}
use Rattle.dep_requests.proofs.Steps.{its_number, its_own, at_number, there_at}
use Rattle.dep_row_maps.proofs.Changing.{changes_then, does_failed, inside_after}
use Rattle.dep_requests.proofs.deposits.create.Goals as goal

pub returns : goal.returns
returns g c = record {
  map = record {
    done = λ clean inside ours s are reported.
        let view = c.args.numbered.now.change.now.view.now in
        let numbers = reported.0 in
        let content = c.args.numbered.now.change.now.content.now in
        let mid = g.T.Statements.state c.add_object.new.tx in
        let new = g.T.Statements.state c.fill.new.tx in
        let before = inside_after c.in_ok-add_object.ensures.does.keeps c.fill.ensures.map.keeps.stays clean inside ours in
        let k = view.next.object in
        let n = s.next.object in
        let number = ap (λ (next : Counters). next.object) numbers.1 in
        let now = c.blank_row.result in
        let it : Object = blank s c.args.ingests in
        let is = blank_row_is s view.clock view.next numbers.0 numbers.1 now k c.args.ingests c.blank_row.ensures in
        let to = its_number k it now is ∙ number in
        let put = at_number (tables_of mid) s now.object n it to (blank_added (tables_of mid) s now it (its_own k it now is) refl refl (c.in_ok-add_object.ensures.does.map before.clean inside ours s are)) in
        let one : State = with_object s n it in
        ok_then c.fill.result
        (c.fill.ensures.map.done it clean before.inside before.ours one put
        ((numbers, still_have one.objects s content view.uploads c.args.numbered.now.deposit.now reported.1.1), there_at one.objects k n it number (get_here s.objects n it)))
        (λ done. deposit_again (tables_of new) s content k n it c.args.numbered.now.deposit.now c.args.ingests number done);
    keeps = changes_then c.in_ok-add_object.ensures.does.keeps c.fill.ensures.map.keeps;
  };
}

pub returns-in_err-add_object : goal.returns-in_err-add_object
returns-in_err-add_object g c = record { map = does_failed _ c.from_residual.ensures.0 c.in_err-add_object.ensures.does.keeps.stays }
