use Rattle.std.proofs.Common.{◌∙◌, List, not, true, map, ap, subst, sym}
use Rattle.std.proofs.lemmas.Result.{IfOk-from_err}
use Rattle.dep_decisions.specs.LookUps.{in_state}
use Rattle.dep_decisions.specs.Laws.{uploads_refusal}
use Rattle.dep_operations.specs.Views.{touched_by, upload_undigested}
use Rattle.dep_operations.specs.declared.view.UploadView.{UploadView}
use Rattle.dep_tables.proofs.Chains.{may_err, may_ok, may_put}
use Rattle.dep_views.proofs.Hashed.{seen_named}
use Rattle.dep_views.specs.Named.{AreNamed}
use Rattle.dep_views.specs.declared.view.LoadedView.{LoadedView}
use Rattle.dep_requests.proofs.LookingUp.{looked_at_none, looked_early, looked_on, looked_refused}
use Rattle.dep_requests.proofs.performing.look_up.Goals as goal

pub returns-then-is_none : goal.returns-then-is_none
returns-then-is_none g c = record {
  map = record {
    found = λ clean inside ours s are is_open sound running loaded. looked_at_none c.args.asked.config.now s c.args.asked.operation.now c.args.loaded.now loaded (c.is_none.ensures ∙ ap not c.if-is_none.true);
    keeps = may_put g.T.Statements.lenders g.T.Statements.state c.args.tx.now _;
  };
}

pub returns-then-is_some : goal.returns-then-is_some
returns-then-is_some g c = record {
  map = record {
    found = λ clean inside ours s are is_open sound running loaded.
        looked_early c.args.asked.config.now s c.args.asked.operation.now c.args.loaded.now loaded (c.is_none.ensures ∙ ap not c.if-is_none.false) c.in_ok-early.early c.in_ok-early.ensures.unnamed
        (sym c.is_some.ensures ∙ c.if-is_some.true);
    keeps = may_put g.T.Statements.lenders g.T.Statements.state c.args.tx.now _;
  };
}

pub returns-in-Refused : goal.returns-in-Refused
returns-in-Refused g c = record {
  map = record {
    found = λ clean inside ours s are is_open sound running loaded.
        let named = subst (AreNamed s _) c.in-Refused.is (c.in_ok-refusal.ensures.map.found clean inside ours s are is_open sound running) in
        looked_refused c.args.asked.config.now s c.args.asked.operation.now c.args.loaded.now loaded (c.is_none.ensures ∙ ap not c.if-is_none.false) c.in_ok-early.early c.in_ok-early.ensures.unnamed
        (sym c.is_some.ensures ∙ c.if-is_some.false) c.in-Refused.refusal (ap (uploads_refusal (in_state s)) (sym c.as_slice.ensures) ∙ named);
    keeps = may_ok c.in_ok-refusal.ensures.map.keeps;
  };
}

pub returns-in_ok-refusal-in-Whole : goal.returns-in_ok-refusal-in-Whole
returns-in_ok-refusal-in-Whole g c = record {
  map = record {
    found = λ clean inside ours s are is_open sound running loaded.
        let op = c.args.asked.operation.now in
        let named = subst (AreNamed s _) c.in-Whole.is (c.in_ok-refusal.ensures.map.found clean inside ours s are is_open sound running) in
        let with : List UploadView → LoadedView = λ uploads. record c.args.loaded.now { view = record c.args.loaded.now.view { uploads = uploads } } in
        looked_on c.args.asked.config.now s op (with c.replace.new.dest) c.in_ok-refusal-in-Whole.refusal
        (seen_named s op.content (touched_by c.args.asked.config.now op) c.args.loaded.now loaded c.in-Whole.uploads (with c.replace.new.dest) (c.is_none.ensures ∙ ap not c.if-is_none.false)
        (named.1 ∙ ap (map (upload_undigested true s)) c.as_slice.ensures) (ap with c.replace.ensures.after))
        c.in_ok-refusal-in-Whole.ensures.undigested;
    keeps = may_ok c.in_ok-refusal.ensures.map.keeps;
  };
}

pub returns-in_err-early : goal.returns-in_err-early
returns-in_err-early g c = record {
  map = record {
    found = λ clean inside ours s are is_open sound running loaded. IfOk-from_err c.from_residual.result _ c.from_residual.ensures.0;
    keeps = may_put g.T.Statements.lenders g.T.Statements.state c.args.tx.now _;
  };
}

pub returns-in_err-refusal-in-Whole : goal.returns-in_err-refusal-in-Whole
returns-in_err-refusal-in-Whole g c = record {
  map = record {
    found = λ clean inside ours s are is_open sound running loaded. IfOk-from_err c.from_residual-in_err-refusal-in-Whole.result _ c.from_residual-in_err-refusal-in-Whole.ensures.0;
    keeps = may_ok c.in_ok-refusal.ensures.map.keeps;
  };
}

pub refusal_before_digests-requires : goal.refusal_before_digests-requires
refusal_before_digests-requires g c = c.content_purpose-purpose.ensures

pub refusal_before_digests-requires-in-Whole : goal.refusal_before_digests-requires-in-Whole
refusal_before_digests-requires-in-Whole g c = c.content_purpose-purpose.ensures

pub returns-in_err-refusal : goal.returns-in_err-refusal
returns-in_err-refusal g c = record {
  map = record {
    found = λ clean inside ours s are is_open sound running loaded. IfOk-from_err c.from_residual-in_err-refusal.result _ c.from_residual-in_err-refusal.ensures.0;
    keeps = may_err c.from_residual-in_err-refusal.ensures.0 c.in_err-refusal.ensures.map.keeps;
  };
}
