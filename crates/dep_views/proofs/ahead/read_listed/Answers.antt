use Rattle.std.proofs.Common.{sym, ◌∙◌}
use Rattle.dep_tables.proofs.Chains.{clean_before, may_err, may_ok, may_read, may_then}
use Rattle.dep_objects.proofs.Puts.{has_row}
use Rattle.dep_views.proofs.Chains.{over_behind}
use Rattle.dep_views.proofs.ahead.read_listed.Goals as goal

pub returns-in-Some : goal.returns-in-Some
returns-in-Some g c =
    let one = c.in_ok-row.ensures.does in
    let more = c.read_files_ahead.ensures.does in
    record {
      does = record {
        map = λ is_open clean ours s are sound ahead.
            let found = sym c.in-Some.is ∙ one.map (clean_before more.keeps.stays clean) ours s are in
            over_behind (may_ok (may_read one.keeps)) more is_open clean ours s are sound (has_row s c.args.object c.in-Some.row found) ahead;
        keeps = may_then (may_read one.keeps) more.keeps;
      };
    }

pub returns-in-None : goal.returns-in-None
returns-in-None g c = record { does = record { map = λ is_open clean ours s are sound ahead. ahead; keeps = may_ok (may_read c.in_ok-row.ensures.does.keeps) } }

pub returns-in_err-row : goal.returns-in_err-row
returns-in_err-row g c = record {
  does = record { map = λ is_open clean ours s are sound ahead. ahead; keeps = may_err c.from_residual.ensures.0 (may_read c.in_err-row.ensures.does.keeps) };
}
