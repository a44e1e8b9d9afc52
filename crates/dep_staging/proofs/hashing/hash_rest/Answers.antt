use Rattle.std.proofs.Common.{refl}
use Rattle.std.proofs.lemmas.Bool.{eqb-true}
use Rattle.std.proofs.lemmas.Result.{IfOk-from_err}
use Rattle.dep_tables.proofs.Chains.{may_put, may_ok, may_err}
use Rattle.dep_staging.proofs.hashing.hash_rest.Goals as goal

pub returns-then-run-count : goal.returns-then-run-count
returns-then-run-count g c = record {
  does = record {
    map = λ is_open clean ours s are sound running. (running, refl);
    keeps = may_put g.T.Statements.lenders g.T.Statements.state c.args.tx.now _;
  };
  whole = λ same. c.if-run-count.true;
  asks_nothing = λ same. refl;
}

pub returns : goal.returns
returns g c = record {
  does = record {
    map = c.in_ok-hash_blocks.ensures.does.map;
    keeps = may_ok c.in_ok-hash_blocks.ensures.does.keeps;
  };
  whole = eqb-true c.hash_blocks.new.run.segments c.args.count;
  asks_nothing = λ same. absurd (c.if-run-count.false same);
}

pub returns-in_err-hash_blocks : goal.returns-in_err-hash_blocks
returns-in_err-hash_blocks g c = record {
  does = record {
    map = c.hash_blocks.ensures.does.map;
    keeps = may_err c.from_residual.ensures.0 c.hash_blocks.ensures.does.keeps;
  };
  whole = IfOk-from_err c.from_residual.result _ c.from_residual.ensures.0;
  asks_nothing = λ same. absurd (c.if-run-count.false same);
}
