use Rattle.std.proofs.lemmas.Result.{IfOk-from_err}
use Rattle.std.proofs.Common.{Some, ap, sym, ◌∙◌}
use Rattle.std.specs.Prelude.{None, if◌then◌else◌}
use Rattle.dep_types.specs.Uploads.{assembled}
use Rattle.dep_fixity.specs.Fixity.{digests_of}
use Rattle.dep_fixity.specs.declared.hasher.Digests.{Digests}
use Rattle.dep_tables.proofs.Chains.{may_ok, may_err, may_put}
use Rattle.dep_views.proofs.Hashed.{reported_gone, reported_hashed}
use Rattle.dep_views.proofs.digests.hash_state.Goals as goal

pub returns-then-not-live : goal.returns-then-not-live
returns-then-not-live g c = record {
  map = record {
    found = λ clean inside ours s are is_open sound running. (
      running,
      λ u seen. reported_hashed s u c.in-Live.live None (sym c.in-Live.is ∙ seen) (λ it there count whole. sym (ap (λ b. if b then Some (digests_of (assembled it)) else None) (sym whole ∙ c.if-not-live.true))),
    );
    keeps = may_put g.T.Statements.lenders g.T.Statements.state c.args.tx.now _;
  };
}

pub returns-in_ok-digests-in-Live : goal.returns-in_ok-digests-in-Live
returns-in_ok-digests-in-Live g c = record {
  map = record {
    found = λ clean inside ours s are is_open sound running.
        let hashed = c.in_ok-digests-in-Live.ensures.does.map is_open clean ours s are sound running in (
          hashed.0,
          λ u seen. reported_hashed s u c.in-Live.live (Some c.in_ok-digests-in-Live.digests) (sym c.in-Live.is ∙ seen)
              (λ it there count whole. ap (λ (l : Digests). Some l) (hashed.1 it there count) ∙ sym (ap (λ b. if b then Some (digests_of (assembled it)) else None) (sym whole ∙ c.if-not-live.false))),
        );
    keeps = may_ok c.in_ok-digests-in-Live.ensures.does.keeps;
  };
}

pub returns-in-TimedOut : goal.returns-in-TimedOut
returns-in-TimedOut g c = record {
  map = record {
    found = λ clean inside ours s are is_open sound running. (running, λ u seen. reported_gone s u _ (λ live is. cc is) (sym c.in-TimedOut.is ∙ seen));
    keeps = may_put g.T.Statements.lenders g.T.Statements.state c.args.tx.now _;
  };
}

pub returns-in-Unknown : goal.returns-in-Unknown
returns-in-Unknown g c = record {
  map = record {
    found = λ clean inside ours s are is_open sound running. (running, λ u seen. reported_gone s u _ (λ live is. cc is) (sym c.in-Unknown.is ∙ seen));
    keeps = may_put g.T.Statements.lenders g.T.Statements.state c.args.tx.now _;
  };
}

pub returns-in_err-digests-in-Live : goal.returns-in_err-digests-in-Live
returns-in_err-digests-in-Live g c = record {
  map = record {
    found = λ clean inside ours s are is_open sound running. (
      (c.hash_upload.ensures.does.map is_open clean ours s are sound running).0,
      λ u seen. IfOk-from_err c.from_residual.result _ c.from_residual.ensures.0,
    );
    keeps = may_err c.from_residual.ensures.0 c.hash_upload.ensures.does.keeps;
  };
}
