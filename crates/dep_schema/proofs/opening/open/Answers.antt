use Rattle.std.proofs.Common.{◌∙◌, Err, ap}
use Rattle.sqlite.specs.Held.{state}
use Rattle.sqlite.proofs.StateLemmas.{clean_if_open}
use Rattle.dep_schema.proofs.Again.{sees_none, finds_tables, survives_live}
use Rattle.dep_schema.proofs.Version.{empty_lacks}
use Rattle.dep_schema.proofs.opening.open.Goals as goal

pub returns-in-Ok : goal.returns-in-Ok
returns-in-Ok g c =
    let old = state g.S.Store c.args.connection in
    let new = state g.S.Store c.prepare.new.connection in
    let store = c.prepare.new.connection.store in
    let reported = c.in-Ok.ensures in
    let live = c.schema-schema.ensures.live in
    record {
      fresh = λ clean none.
          let there = reported.opens clean in
          let empty = sees_none old (live there.opened).0 none in
          (there.fresh empty, there.made (empty_lacks _ empty));
      found = λ clean its known tables held.
          let there = reported.opens clean in
          finds_tables its c.in-Ok.found old new (live there.opened).0 tables held (there.found its known);
      made = λ clean. (reported.opens clean).made;
      still = λ clean. (reported.opens clean).still;
      known = reported.known;
      free = λ clean. (reported.opens clean).free;
      beside = λ clean. (reported.opens clean).beside;
      version = tt;
      reported = λ clean. reported.reported clean;
      ours = tt;
      left = tt;
      opened = λ is_open. (reported.opens (clean_if_open (g.S.Store.view store) (g.met.S.Store.shut_if_dirty store) is_open)).opened;
      mode = c.prepare.ensures.mode;
      crash = survives_live old new live c.prepare.ensures.crash;
    }

pub returns-in-Err : goal.returns-in-Err
returns-in-Err g c =
    let old = state g.S.Store c.args.connection in
    let new = state g.S.Store c.prepare.new.connection in
    let reported = c.in-Err.ensures in
    record {
      fresh = tt;
      found = tt;
      made = tt;
      still = tt;
      known = tt;
      free = tt;
      beside = tt;
      version = λ clean said. c.prepare.ensures.version clean (c.in-Err.is ∙ ap Err said);
      reported = λ clean. reported.reported clean;
      ours = λ clean known. reported.ours clean known;
      left = λ clean is_open. reported.left clean is_open;
      opened = λ is_open. reported.refused is_open;
      mode = c.prepare.ensures.mode;
      crash = survives_live old new c.schema-schema.ensures.live c.prepare.ensures.crash;
    }
