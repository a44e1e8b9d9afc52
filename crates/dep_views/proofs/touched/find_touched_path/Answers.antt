use Rattle.std.proofs.Common.{ap, ◌∙◌, ◌++◌, sym, map, bytes_eq, List, ℕ, Option}
use Rattle.std.specs.List.{list_any}
use Rattle.std.specs.Option.{option_copied, option_to_list}
use Rattle.dep_types.specs.BagPaths.{tag_paths}
use Rattle.dep_types.specs.declared.rows.FileRow.{FileRow}
use Rattle.dep_manifest.specs.Reported.{row_path}
use Rattle.dep_views.specs.Seen.{file_at_path}
use Rattle.std.proofs.lemmas.Result.{IfOk-from_err}
use Rattle.dep_tables.proofs.Chains.{may_err, may_ok}
use Rattle.dep_views.proofs.Paths.{path_reported, payload_seen}
use Rattle.dep_views.proofs.touched.find_touched_path.Goals as goal

pub returns-in_ok-payload-in-Some-Some : goal.returns-in_ok-payload-in-Some-Some
returns-in_ok-payload-in-Some-Some g c = record {
  map = record {
    found = λ clean inside ours s are sound there.
        let found = c.in_ok-payload-in-Some-Some.ensures.map.found clean inside ours s are in
        let touched = c.args.touched.now in
        let object = sym (ap option_copied c.in-Some-Some.is-0) ∙ there in
        let has =
        c.has_path_with.ensures
        ∙ ap (λ (x : Option FileRow). list_any (bytes_eq c.as_slice-path.result.now) (tag_paths ++ map row_path (option_to_list x))) found
        ∙ ap (λ (p : List ℕ). list_any (bytes_eq p) (tag_paths ++ map row_path (option_to_list (file_at_path s c.in-Some-Some.object.now.object p)))) c.as_slice-path.ensures
        ∙ path_reported s touched c.in-Some-Some.object.now c.in-Some-Some.path sound object c.in-Some-Some.is-1 in
        let payload =
        found
        ∙ ap (file_at_path s c.in-Some-Some.object.now.object) c.as_slice-path.ensures
        ∙ payload_seen s touched c.in-Some-Some.object.now c.in-Some-Some.path object c.in-Some-Some.is-1 in
        λ i. record { has_path = has i; payload = payload i };
    keeps = may_ok c.in_ok-payload-in-Some-Some.ensures.map.keeps;
  };
}

pub returns-in_err-payload-in-Some-Some : goal.returns-in_err-payload-in-Some-Some
returns-in_err-payload-in-Some-Some g c = record {
  map = record {
    found = λ clean inside ours s are sound there. IfOk-from_err c.from_residual.result _ c.from_residual.ensures.0;
    keeps = may_err c.from_residual.ensures.0 c.in_err-payload-in-Some-Some.ensures.map.keeps;
  };
}
