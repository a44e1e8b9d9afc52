use Rattle.dep_tables.proofs.Chains.{clean_before, may_err, may_ok, may_put, may_then}
use Rattle.dep_views.proofs.Chains.{over_behind}
use Rattle.dep_views.proofs.digests.hash_named.Goals as goal

pub loop-upload-init : goal.loop-upload-init
loop-upload-init g c = (may_put g.T.Statements.lenders g.T.Statements.state c.args.tx.now _, λ is_open clean ours s are sound running. running)

pub returns : goal.returns
returns g c = record {
  does = record {
    map = c.loop-upload.invariant.1;
    keeps = may_ok c.loop-upload.invariant.0;
  };
}

pub loop-upload-preserved : goal.loop-upload-preserved
loop-upload-preserved g c = (
  may_ok (may_then c.loop-upload.invariant.0 c.in_ok-hash_some.ensures.does.keeps),
  λ is_open clean ours s are sound running.
      let earlier = clean_before c.in_ok-hash_some.ensures.does.keeps.stays clean in
      over_behind c.loop-upload.invariant.0 c.in_ok-hash_some.ensures.does is_open clean ours s are sound (c.loop-upload.invariant.1 is_open earlier ours s are sound running),
)

pub returns-in-None : goal.returns-in-None
returns-in-None g c = record {
  does = record {
    map = λ is_open clean ours s are sound running.
        let earlier = clean_before c.in_ok-hash_some.ensures.does.keeps.stays clean in
        over_behind c.loop-upload.invariant.0 c.in_ok-hash_some.ensures.does is_open clean ours s are sound (c.loop-upload.invariant.1 is_open earlier ours s are sound running);
    keeps = may_ok (may_then c.loop-upload.invariant.0 c.in_ok-hash_some.ensures.does.keeps);
  };
}

pub returns-in-Some-eq0 : goal.returns-in-Some-eq0
returns-in-Some-eq0 g c = record {
  does = record {
    map = λ is_open clean ours s are sound running.
        let earlier = clean_before c.in_ok-hash_some.ensures.does.keeps.stays clean in
        over_behind c.loop-upload.invariant.0 c.in_ok-hash_some.ensures.does is_open clean ours s are sound (c.loop-upload.invariant.1 is_open earlier ours s are sound running);
    keeps = may_ok (may_then c.loop-upload.invariant.0 c.in_ok-hash_some.ensures.does.keeps);
  };
}

pub returns-in_err-hash_some : goal.returns-in_err-hash_some
returns-in_err-hash_some g c = record {
  does = record {
    map = λ is_open clean ours s are sound running.
        let earlier = clean_before c.hash_some.ensures.does.keeps.stays clean in
        over_behind c.loop-upload.invariant.0 c.hash_some.ensures.does is_open clean ours s are sound (c.loop-upload.invariant.1 is_open earlier ours s are sound running);
    keeps = may_err c.from_residual.ensures.0 (may_then c.loop-upload.invariant.0 c.hash_some.ensures.does.keeps);
  };
}
