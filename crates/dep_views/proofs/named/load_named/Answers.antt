use Rattle.std.proofs.lemmas.Result.{IfOk-from_err}
use Rattle.std.proofs.Common.{Ok, true, ◌++◌, [], ◌∷◌, is_err, ◌∙◌, sym, ap, subst}
use Rattle.std.proofs.lemmas.List.{nil_from_length}
use Rattle.dep_files.proofs.Results.{pushed}
use Rattle.dep_operations.specs.declared.view.UploadView.{UploadView}
use Rattle.dep_tables.proofs.Results.{if_then}
use Rattle.dep_views.specs.Named.{AreNamed}
use Rattle.dep_tables.proofs.Chains.{clean_before, may_err, may_ok, may_put, may_read, may_then}
use Rattle.dep_views.proofs.Chains.{finds_behind, found_behind}
use Rattle.dep_views.proofs.Lacking.{IsLeft, left_at_first, left_lacking, left_missing, left_more, missing_reported, none_left, segments_reported}
use Rattle.dep_views.proofs.named.load_named.Goals as goal

pub loop-upload-init : goal.loop-upload-init
loop-upload-init g c = (may_put g.T.Statements.lenders g.T.Statements.state c.args.tx.now _, λ is_open clean inside ours s are sound running. left_at_first s c.args.uploads.now _ c.new-views.ensures.items)

pub loop-upload-preserved : goal.loop-upload-preserved
loop-upload-preserved g c =
    let inv = c.loop-upload.invariant in (
      may_ok (may_then {r = Ok c.in_ok-state.state} inv.0 (may_read c.in_ok-state.ensures.map.keeps)),
      λ is_open clean inside ours s are sound running.
          let before = clean_before c.in_ok-state.ensures.map.keeps.stays clean in
          let so_far = subst (IsLeft s c.args.uploads.now c.loop-upload.views.items) c.in-Some.ensures.cases.0 (inv.1 is_open before inside ours s are sound running) in
          let it = finds_behind inv.0 c.in_ok-state.ensures.map is_open clean inside ours s are sound running in
          let u = c.in-Some.upload.now in
          let view : UploadView = record { upload = u; state = c.in_ok-state.state } in
          let grown = pushed c.push.result c.push.new.self.items (c.loop-upload.views.items ++ view ∷ []) c.loop-upload.views.items (ap is_err c.in_ok-push.was) c.push.ensures.items in
          left_more s c.args.uploads.now c.loop-upload.views.items u c.in-Some.behind.now so_far c.in_ok-state.state c.push.new.self.items
          (missing_reported s u true c.in_ok-state.state _ c.state_rule.ensures it ∙ c.in_default-state_rule.is)
          (segments_reported s u c.in_ok-state.state _ c.segments_rule.ensures it ∙ c.in_default-segments_rule.is) it grown,
    )

pub returns-in-Some-state_rule : goal.returns-in-Some-state_rule
returns-in-Some-state_rule g c = record {
  map = record {
    found = λ clean inside ours s are is_open sound running.
        let inv = c.loop-upload.invariant in
        let before = clean_before c.in_ok-state.ensures.map.keeps.stays clean in
        let so_far = subst (IsLeft s c.args.uploads.now c.loop-upload.views.items) c.in-Some.ensures.cases.0 (inv.1 is_open before inside ours s are sound running) in
        let it = finds_behind inv.0 c.in_ok-state.ensures.map is_open clean inside ours s are sound running in
        left_missing s c.args.uploads.now c.loop-upload.views.items c.in-Some.upload.now c.in-Some.behind.now so_far c.in-Some-state_rule.refusal
        (missing_reported s c.in-Some.upload.now true c.in_ok-state.state _ c.state_rule.ensures it ∙ c.in-Some-state_rule.is);
    keeps = may_ok (may_then {r = Ok c.in_ok-state.state} c.loop-upload.invariant.0 (may_read c.in_ok-state.ensures.map.keeps));
  };
}

pub returns-in-Some-segments_rule : goal.returns-in-Some-segments_rule
returns-in-Some-segments_rule g c =
    let inv = c.loop-upload.invariant in
    let last = c.refuse_lacking.ensures.map in
    let reads = may_then {r = Ok c.in_ok-state.state} inv.0 (may_read c.in_ok-state.ensures.map.keeps) in
    record {
      map = record {
        found = λ clean inside ours s are is_open sound running.
            let u = c.in-Some.upload.now in
            let clean_two = clean_before last.keeps.stays clean in
            let refused = found_behind (may_ok reads) last is_open clean inside ours s are (reads.same is_open clean_two ours).0.is_open in
            let before = clean_before c.in_ok-state.ensures.map.keeps.stays clean_two in
            let so_far = subst (IsLeft s c.args.uploads.now c.loop-upload.views.items) c.in-Some.ensures.cases.0 (inv.1 is_open before inside ours s are sound running) in
            let it = finds_behind inv.0 c.in_ok-state.ensures.map is_open clean_two inside ours s are sound running in
            let lacking = left_lacking s c.args.uploads.now c.loop-upload.views.items u c.in-Some.behind.now so_far c.in-Some-segments_rule.refusal
            (missing_reported s u true c.in_ok-state.state _ c.state_rule.ensures it ∙ c.in_default-state_rule.is)
            (segments_reported s u c.in_ok-state.state _ c.segments_rule.ensures it ∙ c.in-Some-segments_rule.is) in
            if_then c.refuse_lacking.result refused (λ named is. subst (AreNamed s c.args.uploads.now) (sym is) lacking);
        keeps = may_then reads last.keeps;
      };
    }

pub returns-in_err-push : goal.returns-in_err-push
returns-in_err-push g c = record {
  map = record {
    found = λ clean inside ours s are is_open sound running. IfOk-from_err c.from_residual-in_err-push.result _ c.from_residual-in_err-push.ensures.0;
    keeps = may_ok (may_then {r = Ok c.in_ok-state.state} c.loop-upload.invariant.0 (may_read c.in_ok-state.ensures.map.keeps));
  };
}

pub returns : goal.returns
returns g c = record {
  map = record {
    found = λ clean inside ours s are is_open sound running.
        let all = none_left s c.args.uploads.now c.loop-upload.views.items _ (nil_from_length _ c.in_default.ensures.cases) (c.loop-upload.invariant.1 is_open clean inside ours s are sound running) in
        (all.0, c.from_vec.ensures ∙ all.1);
    keeps = may_ok c.loop-upload.invariant.0;
  };
}

pub returns-in_err-state : goal.returns-in_err-state
returns-in_err-state g c = record {
  map = record {
    found = λ clean inside ours s are is_open sound running. IfOk-from_err c.from_residual.result _ c.from_residual.ensures.0;
    keeps = may_err c.from_residual.ensures.0 (may_then c.loop-upload.invariant.0 (may_read c.load_state.ensures.map.keeps));
  };
}
