use Rattle.dep_tables.proofs.Chains.{clean_before, may_err, may_ok, may_then}
use Rattle.dep_views.proofs.Chains.{over_behind}
use Rattle.dep_requests.proofs.performing.prepare.Goals as goal

pub returns : goal.returns
returns g c = record {
  does =
      let first = c.in_ok-is_left.ensures.does in
      let more = c.read_rows_ahead.ensures.does in
      record {
        map = λ is_open clean ours s are sound ahead.
            let its = first.map is_open (clean_before more.keeps.stays clean) ours s are sound ahead in
            record { hashes = its.hashes; rows = over_behind (may_ok first.keeps) more is_open clean ours s are sound its.rows };
        keeps = may_then first.keeps more.keeps;
      };
}

pub returns-then-is_left : goal.returns-then-is_left
returns-then-is_left g c = record { does = record { map = c.in_ok-is_left.ensures.does.map; keeps = may_ok c.in_ok-is_left.ensures.does.keeps } }

pub returns-in_err-is_left : goal.returns-in_err-is_left
returns-in_err-is_left g c = record { does = record { map = c.in_err-is_left.ensures.does.map; keeps = may_err c.from_residual.ensures.0 c.in_err-is_left.ensures.does.keeps } }
