use Rattle.std.proofs.lemmas.Result.{IfOk-from_err}
use Rattle.std.proofs.Common.{Ok, ◌≡◌, ◌∙◌, ◌++◌, [], ◌∷◌, false, map, take, get_or, is_err, sym, ap}
use Rattle.std.proofs.lemmas.List.{map_more, take_all}
use Rattle.dep_files.proofs.Results.{pushed}
use Rattle.dep_operations.specs.Views.{upload_undigested}
use Rattle.dep_operations.specs.declared.view.UploadView.{UploadView}
use Rattle.dep_tables.proofs.Chains.{clean_before, may_ok, may_read, may_then, may_err, still_ours}
use Rattle.dep_views.proofs.Chains.{still_seen}
use Rattle.dep_views.proofs.uploads.find_uploads.Goals as goal

pub uploads-preserved : goal.uploads-preserved
uploads-preserved g c =
    let old = g.T.Statements.state c.args.tx.now in
    let mid = g.T.Statements.state c.uploads.tx in
    let inv = c.uploads.invariant in
    let earlier = clean_before c.find_state.ensures.does.keeps.stays in (
      may_ok (may_then {r = Ok c.in_ok-state.state} inv.0 (may_read c.in_ok-state.ensures.does.keeps)),
      λ is_open clean inside ours s are.
          let same = inv.0.same is_open (earlier clean) ours in
          let so_far = inv.1 is_open (earlier clean) inside ours s are in
          let it = c.in_ok-state.ensures.does.map clean (still_ours old mid same ours) s (still_seen old mid s same are) in
          let f = upload_undigested false s in
          let xs = c.args.uploads.now in
          let n = get_or xs c.uploads.upload-index 0 in
          let view : UploadView = record { upload = n; state = c.in_ok-state.state } in
          let viewed : view ≡ f n = λ i. record { upload = n; state = it i } in
          let grown = pushed c.push.result c.push.new.self.items (c.uploads.views.items ++ view ∷ []) c.uploads.views.items (ap is_err c.in_ok-push.was) c.push.ensures.items in
          grown ∙ ap (λ l. l ++ view ∷ []) so_far ∙ ap (λ v. map f (take c.uploads.upload-index xs) ++ v ∷ []) viewed ∙ sym (map_more f xs c.uploads.upload-index 0 c.uploads-test.true),
    )

pub returns : goal.returns
returns g c = record {
  map = record {
    found = λ clean inside ours s are is_open.
        let f = upload_undigested false s in
        c.from_vec.ensures ∙ c.uploads.invariant.1 is_open clean inside ours s are ∙ ap (map f) (take_all c.uploads.upload-index c.args.uploads.now c.uploads-test.false);
    keeps = may_ok c.uploads.invariant.0;
  };
}

pub returns-in_err-state : goal.returns-in_err-state
returns-in_err-state g c = record {
  map = record {
    found = λ clean inside ours s are is_open. IfOk-from_err c.from_residual.result _ c.from_residual.ensures.0;
    keeps = may_err c.from_residual.ensures.0 (may_then c.uploads.invariant.0 (may_read c.find_state.ensures.does.keeps));
  };
}

pub returns-in_err-push : goal.returns-in_err-push
returns-in_err-push g c = record {
  map = record {
    found = λ clean inside ours s are is_open. IfOk-from_err c.from_residual-in_err-push.result _ c.from_residual-in_err-push.ensures.0;
    keeps = may_ok (may_then c.uploads.invariant.0 (may_read c.in_ok-state.ensures.does.keeps));
  };
}
