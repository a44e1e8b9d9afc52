use Rattle.std.proofs.Common.{◌∙◌}
use Rattle.std.proofs.lemmas.Result.{IfOk-from_err}
use Rattle.dep_tables.proofs.Chains.{clean_before, may_err, may_ok, may_then}
use Rattle.dep_views.proofs.Chains.{found_behind}
use Rattle.dep_views.proofs.view.load_others_seen.Goals as goal

-- each is found behind those before it
pub returns : goal.returns
returns g c =
    let one = c.in_ok-uploads.ensures.map in
    let two = c.in_ok-repeats.ensures.map in
    let three = c.in_ok-file.ensures.map in
    let both = may_then one.keeps two.keeps in
    record {
      map = record {
        found = λ clean inside ours s are is_open sound.
            let earlier = clean_before three.keeps.stays clean in
            let views = one.found (clean_before two.keeps.stays earlier) inside ours s are is_open in
            let repeats = found_behind (may_ok one.keeps) two is_open earlier inside ours s are sound (c.as_slice.ensures ∙ views) in
            let file = found_behind (may_ok both) three is_open clean inside ours s are in
            λ i. record { file = file i; uploads = views i; repeats = repeats i };
        keeps = may_ok (may_then both three.keeps);
      };
    }

pub returns-in_err-uploads : goal.returns-in_err-uploads
returns-in_err-uploads g c = record {
  map = record {
    found = λ clean inside ours s are is_open sound. IfOk-from_err c.from_residual.result _ c.from_residual.ensures.0;
    keeps = may_err c.from_residual.ensures.0 c.find_direct.ensures.map.keeps;
  };
}

pub returns-in_err-repeats : goal.returns-in_err-repeats
returns-in_err-repeats g c = record {
  map = record {
    found = λ clean inside ours s are is_open sound. IfOk-from_err c.from_residual-in_err-repeats.result _ c.from_residual-in_err-repeats.ensures.0;
    keeps = may_err c.from_residual-in_err-repeats.ensures.0 (may_then c.in_ok-uploads.ensures.map.keeps c.load_repeat.ensures.map.keeps);
  };
}

pub returns-in_err-file : goal.returns-in_err-file
returns-in_err-file g c = record {
  map = record {
    found = λ clean inside ours s are is_open sound. IfOk-from_err c.from_residual-in_err-file.result _ c.from_residual-in_err-file.ensures.0;
    keeps = may_err c.from_residual-in_err-file.ensures.0
        (may_then (may_then c.in_ok-uploads.ensures.map.keeps c.in_ok-repeats.ensures.map.keeps) c.find_touched_file.ensures.map.keeps);
  };
}
