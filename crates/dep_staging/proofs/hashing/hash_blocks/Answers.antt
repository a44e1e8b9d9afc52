use Rattle.std.proofs.Common.{refl}
use Rattle.dep_tables.proofs.Chains.{may_put, may_ok, may_then, may_read, may_err}
use Rattle.dep_staging.proofs.AheadLemmas.{gone_on}
use Rattle.dep_staging.proofs.hashing.hash_blocks.Goals as goal

pub returns-then-not-branch : goal.returns-then-not-branch
returns-then-not-branch g c = record {
  does = record {
    map = gone_on c.loop-hashed.invariant.0 c.loop-hashed.invariant.1 c.in_ok-hash_block.ensures.does;
    keeps = may_ok (may_then c.loop-hashed.invariant.0 (may_read c.in_ok-hash_block.ensures.does.keeps));
  };
}

pub loop-hashed-init : goal.loop-hashed-init
loop-hashed-init g c = (may_put g.T.Statements.lenders g.T.Statements.state c.args.tx.now _, λ is_open clean ours s are sound running. (running, refl))

pub loop-hashed-preserved : goal.loop-hashed-preserved
loop-hashed-preserved g c = (
  may_ok (may_then c.loop-hashed.invariant.0 (may_read c.in_ok-hash_block.ensures.does.keeps)),
  gone_on c.loop-hashed.invariant.0 c.loop-hashed.invariant.1 c.in_ok-hash_block.ensures.does,
)

pub returns : goal.returns
returns g c = record {
  does = record {
    map = c.loop-hashed.invariant.1;
    keeps = may_ok c.loop-hashed.invariant.0;
  };
}

pub returns-in_err-hash_block : goal.returns-in_err-hash_block
returns-in_err-hash_block g c = record {
  does = record {
    map = gone_on c.loop-hashed.invariant.0 c.loop-hashed.invariant.1 c.hash_block.ensures.does;
    keeps = may_err c.from_residual.ensures.0 (may_then c.loop-hashed.invariant.0 (may_read c.hash_block.ensures.does.keeps));
  };
}
