use Rattle.std.proofs.Common.{◌∙◌}
use Rattle.dep_tables.proofs.Chains.{clean_before, reads_ok, reads_may_then}
use Rattle.dep_views.proofs.Chains.{finds_failed, read_behind}
use Rattle.dep_views.proofs.view.load_object_seen.Goals as goal

pub returns-in_err-object : goal.returns-in_err-object
returns-in_err-object g c = record {
  map = finds_failed _ c.from_residual-in_err-object.ensures.0 (reads_may_then c.in_ok-row.ensures.does.keeps c.find_touched_object.ensures.map.keeps);
}

pub returns-in_err-path : goal.returns-in_err-path
returns-in_err-path g c = record {
  map = finds_failed _ c.from_residual-in_err-path.ensures.0 (reads_may_then (reads_may_then c.in_ok-row.ensures.does.keeps c.in_ok-object.ensures.map.keeps) c.find_touched_path.ensures.map.keeps);
}

pub returns : goal.returns
returns g c =
    let one = c.in_ok-row.ensures.does in
    let two = c.in_ok-object.ensures.map in
    let three = c.in_ok-path.ensures.map in
    let both = reads_may_then one.keeps two.keeps in
    record {
      map = record {
        found = λ clean inside ours s are sound.
            let earlier = clean_before three.keeps.stays clean in
            let row = one.map (clean_before two.keeps.stays earlier) ours s are in
            let object = read_behind one.keeps two.keeps.stays (λ clean inside ours s are is_open. two.found clean inside ours s are) earlier inside ours s are in
            let path = read_behind both three.keeps.stays (λ clean inside ours s are is_open. three.found clean inside ours s are) clean inside ours s are sound (c.as_ref.ensures.value ∙ object) in
            λ i. record { row = row i; object = object i; path = path i };
        keeps = reads_ok (reads_may_then both three.keeps);
      };
    }

pub returns-in_err-row : goal.returns-in_err-row
returns-in_err-row g c = record { map = finds_failed _ c.from_residual.ensures.0 c.in_err-row.ensures.does.keeps }
