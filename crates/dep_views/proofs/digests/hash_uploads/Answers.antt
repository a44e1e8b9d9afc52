use Rattle.std.proofs.lemmas.Result.{IfOk-from_err}
use Rattle.std.proofs.Common.{Ok, ◌≡◌, ◌∙◌, ◌++◌, [], ◌∷◌, true, map, take, get_or, is_err, sym, ap}
use Rattle.std.proofs.lemmas.List.{map_more, take_all}
use Rattle.dep_files.proofs.Results.{pushed}
use Rattle.dep_operations.specs.Views.{upload_view}
use Rattle.dep_operations.specs.declared.view.UploadView.{UploadView}
use Rattle.dep_operations.specs.declared.view.UploadState.TheVariants.{Unknown}
use Rattle.dep_tables.proofs.Chains.{clean_before, may_ok, may_then, may_err}
use Rattle.dep_views.proofs.Chains.{found_behind}
use Rattle.dep_views.proofs.digests.hash_uploads.Goals as goal

pub views-preserved : goal.views-preserved
views-preserved g c =
    let inv = c.views.invariant in
    let earlier = clean_before c.hash_state.ensures.map.keeps.stays in (
      may_ok (may_then {r = Ok c.in_ok-state.state} inv.0 c.in_ok-state.ensures.map.keeps),
      λ is_open clean inside ours s are sound running.
          let so_far = inv.1 is_open (earlier clean) inside ours s are sound running in
          let it = found_behind inv.0 c.in_ok-state.ensures.map is_open clean inside ours s are (inv.0.same is_open (earlier clean) ours).0.is_open sound so_far.0 in (
            it.0,
            λ undigested.
                let f = λ (v : UploadView). upload_view true s v.upload in
                let xs = c.args.views.now in
                let none : UploadView = record { upload = 0; state = Unknown } in
                let n = (get_or xs c.views.view-index none).upload in
                let view : UploadView = record { upload = n; state = c.in_ok-state.state } in
                let hashed = it.1 n (undigested c.views.view-index none c.views-test.true) in
                let viewed : view ≡ upload_view true s n = λ i. record { upload = n; state = hashed i } in
                let grown = pushed c.push.result c.push.new.self.items (c.views.hashed.items ++ view ∷ []) c.views.hashed.items (ap is_err c.in_ok-push.was) c.push.ensures.items in
                grown ∙ ap (λ l. l ++ view ∷ []) (so_far.1 undigested) ∙ ap (λ v. map f (take c.views.view-index xs) ++ v ∷ []) viewed ∙ sym (map_more f xs c.views.view-index none c.views-test.true),
          ),
    )

pub returns : goal.returns
returns g c = record {
  map = record {
    found = λ clean inside ours s are is_open sound running.
        let f = λ (v : UploadView). upload_view true s v.upload in
        let all = c.views.invariant.1 is_open clean inside ours s are sound running in
        (all.0, λ undigested. c.from_vec.ensures ∙ all.1 undigested ∙ ap (map f) (take_all c.views.view-index c.args.views.now c.views-test.false));
    keeps = may_ok c.views.invariant.0;
  };
}

pub returns-in_err-state : goal.returns-in_err-state
returns-in_err-state g c = record {
  map = record {
    found = λ clean inside ours s are is_open sound running.
        let earlier = clean_before c.hash_state.ensures.map.keeps.stays clean in
        let so_far = c.views.invariant.1 is_open earlier inside ours s are sound running in
        let it = found_behind c.views.invariant.0 c.hash_state.ensures.map is_open clean inside ours s are (c.views.invariant.0.same is_open earlier ours).0.is_open sound so_far.0 in
        (it.0, λ undigested. IfOk-from_err c.from_residual.result _ c.from_residual.ensures.0);
    keeps = may_err c.from_residual.ensures.0 (may_then c.views.invariant.0 c.hash_state.ensures.map.keeps);
  };
}

pub returns-in_err-push : goal.returns-in_err-push
returns-in_err-push g c = record {
  map = record {
    found = λ clean inside ours s are is_open sound running.
        let earlier = clean_before c.hash_state.ensures.map.keeps.stays clean in
        let so_far = c.views.invariant.1 is_open earlier inside ours s are sound running in
        let it = found_behind c.views.invariant.0 c.in_ok-state.ensures.map is_open clean inside ours s are (c.views.invariant.0.same is_open earlier ours).0.is_open sound so_far.0 in
        (it.0, λ undigested. IfOk-from_err c.from_residual-in_err-push.result _ c.from_residual-in_err-push.ensures.0);
    keeps = may_ok (may_then c.views.invariant.0 c.in_ok-state.ensures.map.keeps);
  };
}
