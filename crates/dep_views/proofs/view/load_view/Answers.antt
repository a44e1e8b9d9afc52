use Rattle.std.proofs.Common.{refl}
use Rattle.std.proofs.lemmas.Result.{IfOk-from_err}
use Rattle.dep_tables.proofs.Chains.{clean_before, reads_ok, reads_may_then}
use Rattle.dep_views.proofs.Chains.{finds_failed, read_behind}
use Rattle.dep_views.proofs.view.load_view.Goals as goal

pub returns : goal.returns
returns g c =
    let one = c.in_ok-seen.ensures.map in
    let two = c.in_ok-others.ensures.map in
    record {
      map = record {
        found = λ clean inside ours s are sound.
            let seen = one.found (clean_before two.keeps.stays clean) inside ours s are sound in
            let others = read_behind one.keeps two.keeps.stays two.found clean inside ours s are sound in
            λ i. record {
              view = record {
                clock = (seen i).row.clock;
                next = (seen i).row.next;
                object = (seen i).object;
                file = (others i).file;
                has_path = (seen i).path.has_path;
                uploads = (others i).uploads;
                repeats = (others i).repeats;
                references = c.args.touched.references;
              };
              payload = (seen i).path.payload;
              uploads = c.args.touched.uploads;
            };
        keeps = reads_ok (reads_may_then one.keeps two.keeps);
      };
      references = refl;
    }

pub returns-in_err-seen : goal.returns-in_err-seen
returns-in_err-seen g c = record {
  map = finds_failed _ c.from_residual.ensures.0 c.in_err-seen.ensures.map.keeps;
  references = IfOk-from_err c.from_residual.result _ c.from_residual.ensures.0;
}

pub returns-in_err-others : goal.returns-in_err-others
returns-in_err-others g c = record {
  map = finds_failed _ c.from_residual-in_err-others.ensures.0 (reads_may_then c.in_ok-seen.ensures.map.keeps c.load_others_seen.ensures.map.keeps);
  references = IfOk-from_err c.from_residual-in_err-others.result _ c.from_residual-in_err-others.ensures.0;
}
