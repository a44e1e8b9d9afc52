use Rattle.std.proofs.Common.{◌≡◌, refl, subst}
use Rattle.dep_types.specs.State.{State}
use Rattle.dep_tables.specs.Tables.{tables_of}
use Rattle.dep_row_maps.specs.Stored.{state_row}
use Rattle.dep_row_maps.specs.TablesAre.{TablesAre}
use Rattle.dep_row_maps.proofs.Readings.{state_read}
use Rattle.dep_files.proofs.Behind.{behind}
use Rattle.dep_uploads.proofs.Expired.{tick_is}
use Rattle.dep_tables.proofs.Chains.{stays_then}
use Rattle.dep_row_maps.proofs.Changing.{changes_err, changes_ok, changes_then, inside_after, reads_change}
use Rattle.std.proofs.lemmas.Result.{IfOk-from_err}
use Rattle.dep_uploads.proofs.ticking.tick.Goals as goal

pub returns : goal.returns
returns g c = record {
  does = record {
    done = λ clean inside ours s are zero_free.
        let new = g.T.Statements.state c.expire_idle.new.tx in
        let set_behind = inside_after (changes_then (reads_change c.in_ok-row.ensures.does.keeps) c.in_ok-set_clock.ensures.does.keeps) c.expire_idle.ensures.does.keeps.stays clean inside ours in
        let seen = behind c.in_ok-row.ensures.does.keeps c.set_clock.ensures.does.keeps.stays set_behind.clean ours s are in
        let row = c.in_ok-row.row in
        let clock = c.clock_at-clock.result in
        let is : row ≡ state_row s = state_read (tables_of (g.T.Statements.state c.args.tx.now)) s are row (c.in_ok-row.ensures.does.ok seen.clean ours) in
        let now = c.clock_at-clock.ensures s is in
        let set = c.in_ok-set_clock.ensures.does.map set_behind.clean (c.in_ok-row.ensures.does.keeps.stays.inside seen.clean inside) seen.ours s seen.are is in
        let was : State = record s { clock = clock } in
        let expired = c.in_ok-expire_idle.ensures.does.map clean set_behind.inside set_behind.ours was set in
        (now, subst (TablesAre (tables_of new)) (tick_is c.args.config.now s c.args.moment clock s.next now refl) expired);
    keeps = changes_ok (changes_then (changes_then (reads_change c.in_ok-row.ensures.does.keeps) c.in_ok-set_clock.ensures.does.keeps) c.in_ok-expire_idle.ensures.does.keeps);
  };
}

pub returns-in_err-set_clock : goal.returns-in_err-set_clock
returns-in_err-set_clock g c = record {
  does = record {
    done = λ clean inside ours s are zero_free. IfOk-from_err c.from_residual-in_err-set_clock.result _ c.from_residual-in_err-set_clock.ensures.0;
    keeps = changes_err c.from_residual-in_err-set_clock.ensures.0 (stays_then c.in_ok-row.ensures.does.keeps.stays c.set_clock.ensures.does.keeps.stays);
  };
}

pub returns-in_err-expire_idle : goal.returns-in_err-expire_idle
returns-in_err-expire_idle g c = record {
  does = record {
    done = λ clean inside ours s are zero_free. IfOk-from_err c.from_residual-in_err-expire_idle.result _ c.from_residual-in_err-expire_idle.ensures.0;
    keeps = changes_err c.from_residual-in_err-expire_idle.ensures.0 (stays_then (stays_then c.in_ok-row.ensures.does.keeps.stays c.in_ok-set_clock.ensures.does.keeps.stays) c.expire_idle.ensures.does.keeps.stays);
  };
}

pub returns-in_err-row : goal.returns-in_err-row
returns-in_err-row g c = record {
  does = record {
    done = λ clean inside ours s are zero_free. IfOk-from_err c.from_residual.result _ c.from_residual.ensures.0;
    keeps = changes_err c.from_residual.ensures.0 c.in_err-row.ensures.does.keeps.stays;
  };
}
