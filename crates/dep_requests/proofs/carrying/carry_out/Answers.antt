use Rattle.std.proofs.lemmas.Result.{IfOk-from_err}
use Rattle.std.proofs.Common.{◌≡◌, ◌∙◌, OnOk, Result, refl, sym, ap, subst}
use Rattle.dep_types.specs.Numbers.{counters_after}
use Rattle.dep_types.specs.declared.counters.Counters.{Counters}
use Rattle.dep_types.specs.declared.store_fault.StoreFault.{StoreFault}
use Rattle.dep_tables.specs.Tables.{Tables, tables_of}
use Rattle.dep_tables.proofs.Results.{ok_then}
use Rattle.dep_decisions.specs.Decisions.{numbers_for}
use Rattle.dep_requests.specs.Changed.{with_maps}
use Rattle.dep_requests.proofs.Carried.{numbers_reported, reported, carried, equal_counters, false_true, none_taken, same_counters}
use Rattle.dep_row_maps.proofs.Changing.{changes_then, changes_ok, changes_err, inside_after, tables_by, tables_kept}
use Rattle.dep_row_maps.proofs.Whole.{state_written}
use Rattle.dep_row_maps.specs.TablesAre.{TablesAre, with_counters}
use Rattle.dep_requests.proofs.carrying.carry_out.Goals as goal

pub returns-then-eq-clause-map : goal.returns-then-eq-clause-map
returns-then-eq-clause-map g c = record {
  done = λ clean inside ours s are it.
      let view = c.args.view.now in
      let d = c.args.decision.now in
      let content = c.args.content.now in
      let numbers = numbers_reported s view content d it in
      let made = c.in_ok-change_maps.ensures.map.done clean inside ours s are (numbers, reported s view content d it) in
      let after : c.after_taking-next.result ≡ counters_after s.next (numbers_for d) = c.after_taking-next.ensures ∙ ap (λ (next : Counters). counters_after next c.numbers_for.result) numbers.1 ∙ ap (counters_after s.next) c.numbers_for.ensures in
      let stays : c.after_taking-next.result ≡ view.next = same_counters c.after_taking-next.result view.next (sym c.eq.ensures ∙ c.if-eq.true) in
      carried s content d (tables_of (g.T.Statements.state c.change_maps.new.tx)) s.clock s.next refl (sym numbers.1 ∙ sym stays ∙ after) made;
  keeps = changes_ok c.in_ok-change_maps.ensures.map.keeps;
}

pub returns-clause-map : goal.returns-clause-map
returns-clause-map g c = record {
  done = λ clean inside ours s are it.
      let new = g.T.Statements.state c.write_state.new.tx in
      let mid = g.T.Statements.state c.change_maps.new.tx in
      let before = inside_after c.in_ok-change_maps.ensures.map.keeps c.write_state.ensures.does.keeps.stays clean inside ours in
      let view = c.args.view.now in
      let d = c.args.decision.now in
      let content = c.args.content.now in
      let next = c.after_taking-next.result in
      let numbers = numbers_reported s view content d it in
      let made = c.in_ok-change_maps.ensures.map.done before.clean inside ours s are (numbers, reported s view content d it) in
      let after : next ≡ counters_after s.next (numbers_for d) = c.after_taking-next.ensures ∙ ap (λ (was : Counters). counters_after was c.numbers_for.result) numbers.1 ∙ ap (counters_after s.next) c.numbers_for.ensures in
      ok_then c.write_state.result
      (c.write_state.ensures.does.ok clean before.inside before.ours)
      (λ wrote. carried s content d (tables_of new) view.clock next numbers.0 after
      (subst (λ (t : Tables). TablesAre t (with_counters (with_maps s content d) view.clock next)) (sym wrote.rows) (state_written (tables_of mid) (with_maps s content d) made view.clock next)));
  keeps = changes_then c.in_ok-change_maps.ensures.map.keeps (tables_kept (tables_by c.write_state.ensures.does));
}

pub returns-in_err-change_maps-clause-untouched : goal.returns-in_err-change_maps-clause-untouched
returns-in_err-change_maps-clause-untouched g c show = absurd (subst (λ (r : Result (Unit {0}) StoreFault). OnOk r ⊥) (c.in_err-change_maps.ensures.untouched show).0 tt)

pub returns-then-eq-clause-untouched : goal.returns-then-eq-clause-untouched
returns-then-eq-clause-untouched g c show = (refl, (c.in_ok-change_maps.ensures.untouched show).1)

pub returns-clause-untouched : goal.returns-clause-untouched
returns-clause-untouched g c show =
    let next = c.after_taking-next.result in
    let was = c.args.view.now.next in
    let still = none_taken next was c.numbers_for.result c.after_taking-next.ensures (c.numbers_for.ensures ∙ ap numbers_for show) in
    absurd (false_true (sym c.if-eq.false ∙ c.eq.ensures ∙ equal_counters next was still))

pub returns-in_err-change_maps-clause-map : goal.returns-in_err-change_maps-clause-map
returns-in_err-change_maps-clause-map g c = record {
  done = λ clean inside ours s are reported. IfOk-from_err c.from_residual.result _ c.from_residual.ensures.0;
  keeps = changes_err c.from_residual.ensures.0 c.in_err-change_maps.ensures.map.keeps.stays;
}
