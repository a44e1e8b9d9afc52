use Rattle.std.proofs.lemmas.Result.{IfOk-from_err}
use Rattle.std.proofs.Common.{Ok, false, ◌∙◌, sym, ap}
use Rattle.std.specs.Option.{unwrap_or}
use Rattle.std.proofs.lemmas.List.{nil_from_length}
use Rattle.dep_decisions.specs.LookUps.{in_state}
use Rattle.dep_decisions.specs.Rules.{each, upload_refusal}
use Rattle.dep_tables.proofs.Chains.{clean_before, may_err, may_ok, may_read, may_then, still_ours}
use Rattle.dep_views.specs.declared.named.NamedUploads.TheVariants.{Refused}
use Rattle.dep_views.proofs.Chains.{still_seen}
use Rattle.dep_views.proofs.Lacking.{each_passed, each_refused, missing_reported}
use Rattle.dep_views.proofs.named.refuse_lacking.Goals as goal

pub loop-upload-preserved : goal.loop-upload-preserved
loop-upload-preserved g c =
    let old = g.T.Statements.state c.args.tx.now in
    let mid = g.T.Statements.state c.loop-upload.tx in
    let inv = c.loop-upload.invariant in (
      may_ok (may_then {r = Ok c.in_ok-state.state} inv.0 (may_read c.in_ok-state.ensures.does.keeps)),
      λ is_open clean inside ours s are.
          let before = clean_before c.in_ok-state.ensures.does.keeps.stays clean in
          let same = inv.0.same is_open before ours in
          let so_far = inv.1 is_open before inside ours s are ∙ ap (each (upload_refusal (in_state s))) c.in-Some.ensures.cases.0 in
          let it = c.in_ok-state.ensures.does.map clean (still_ours old mid same ours) s (still_seen old mid s same are) in
          so_far ∙ each_passed (upload_refusal (in_state s)) c.in-Some.upload.now c.in-Some.behind.now (missing_reported s _ false c.in_ok-state.state _ c.state_rule.ensures it ∙ c.in_default-state_rule.is),
    )

pub returns-in-Some-state_rule : goal.returns-in-Some-state_rule
returns-in-Some-state_rule g c = record {
  map = record {
    found = λ clean inside ours s are is_open.
        let old = g.T.Statements.state c.args.tx.now in
        let mid = g.T.Statements.state c.loop-upload.tx in
        let inv = c.loop-upload.invariant in
        let before = clean_before c.in_ok-state.ensures.does.keeps.stays clean in
        let same = inv.0.same is_open before ours in
        let so_far = inv.1 is_open before inside ours s are ∙ ap (each (upload_refusal (in_state s))) c.in-Some.ensures.cases.0 in
        let it = c.in_ok-state.ensures.does.map clean (still_ours old mid same ours) s (still_seen old mid s same are) in
        ap (λ o. Refused (unwrap_or o c.args.lacking)) (sym (so_far ∙ each_refused (upload_refusal (in_state s)) c.in-Some.upload.now c.in-Some.behind.now c.in-Some-state_rule.refusal
        (missing_reported s _ false c.in_ok-state.state _ c.state_rule.ensures it ∙ c.in-Some-state_rule.is)));
    keeps = may_ok (may_then {r = Ok c.in_ok-state.state} c.loop-upload.invariant.0 (may_read c.in_ok-state.ensures.does.keeps));
  };
}

pub returns : goal.returns
returns g c = record {
  map = record {
    found = λ clean inside ours s are is_open.
        ap (λ o. Refused (unwrap_or o c.args.lacking)) (sym (c.loop-upload.invariant.1 is_open clean inside ours s are ∙ ap (each (upload_refusal (in_state s))) (nil_from_length _ c.in_default.ensures.cases)));
    keeps = may_ok c.loop-upload.invariant.0;
  };
}

pub returns-in_err-state : goal.returns-in_err-state
returns-in_err-state g c = record {
  map = record {
    found = λ clean inside ours s are is_open. IfOk-from_err c.from_residual.result _ c.from_residual.ensures.0;
    keeps = may_err c.from_residual.ensures.0 (may_then c.loop-upload.invariant.0 (may_read c.find_state.ensures.does.keeps));
  };
}
