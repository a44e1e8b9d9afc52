use Rattle.std.proofs.Common.{◌≡◌, ap, sym, subst, ◌∙◌}
use Rattle.dep_tables.specs.Tables.{Tables, tables_of}
use Rattle.dep_tables.specs.declared.state.StateRow.{StateRow}
use Rattle.dep_tables.proofs.Results.{ok_then}
use Rattle.dep_row_maps.specs.TablesAre.{TablesAre, with_counters}
use Rattle.dep_row_maps.proofs.Whole.{state_written}
use Rattle.dep_row_maps.proofs.Changing.{changes_put, tables_by, tables_kept}
use Rattle.dep_uploads.proofs.ticking.set_clock.Goals as goal

pub returns-then-clock-row : goal.returns-then-clock-row
returns-then-clock-row g c = record {
  does = record {
    map = λ clean inside ours s are is.
        let same : c.args.clock ≡ s.clock = c.if-clock-row.true ∙ ap (λ (r : StateRow). r.clock) is in
        subst (λ k. TablesAre (tables_of (g.T.Statements.state c.args.tx.now)) (with_counters s k s.next)) (sym same) are;
    keeps = changes_put g.T.Statements.lenders g.T.Statements.state c.args.tx.now _;
  };
}

pub returns : goal.returns
returns g c = record {
  does = record {
    map = λ clean inside ours s are is.
        ok_then c.write_state.result (c.write_state.ensures.does.ok clean inside ours)
        (λ wrote. subst (λ k. TablesAre (tables_of (g.T.Statements.state c.write_state.new.tx)) (with_counters s c.args.clock k)) (ap (λ (r : StateRow). r.next) is)
        (subst (λ (t : Tables). TablesAre t (with_counters s c.args.clock c.args.row.now.next)) (sym wrote.rows) (state_written (tables_of (g.T.Statements.state c.args.tx.now)) s are c.args.clock c.args.row.now.next)));
    keeps = tables_kept (tables_by c.write_state.ensures.does);
  };
}
