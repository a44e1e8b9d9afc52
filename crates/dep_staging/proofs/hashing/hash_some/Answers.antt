use Rattle.dep_tables.proofs.Chains.{may_err, may_ok, may_put, may_read, may_then}
use Rattle.dep_files.proofs.Behind.{behind}
use Rattle.dep_staging.proofs.hashing.hash_some.Goals as goal

pub returns-in_default : goal.returns-in_default
returns-in_default g c = record {
  does = record {
    map = λ is_open clean ours s are sound running. running;
    keeps = may_ok (may_read c.in_ok-row.ensures.does.keeps);
  };
}

pub returns-then-was_whole : goal.returns-then-was_whole
returns-then-was_whole g c = record {
  does = record {
    map = λ is_open clean ours s are sound running. running;
    keeps = may_put g.T.Statements.lenders g.T.Statements.state c.args.tx.now _;
  };
}

pub returns : goal.returns
returns g c = record {
  does = record {
    map = λ is_open clean ours s are.
        let mid = behind c.in_ok-row.ensures.does.keeps c.in_ok-left.ensures.does.keeps.stays clean ours s are in
        c.in_ok-left.ensures.does.map mid.same.0.is_open clean mid.ours s mid.are;
    keeps = may_ok (may_then (may_read c.in_ok-row.ensures.does.keeps) c.in_ok-left.ensures.does.keeps);
  };
}

pub returns-in_err-left : goal.returns-in_err-left
returns-in_err-left g c = record {
  does = record {
    map = λ is_open clean ours s are.
        let mid = behind c.in_ok-row.ensures.does.keeps c.hash_on.ensures.does.keeps.stays clean ours s are in
        c.hash_on.ensures.does.map mid.same.0.is_open clean mid.ours s mid.are;
    keeps = may_err c.from_residual-in_err-left.ensures.0 (may_then (may_read c.in_ok-row.ensures.does.keeps) c.hash_on.ensures.does.keeps);
  };
}

pub returns-in_err-row : goal.returns-in_err-row
returns-in_err-row g c = record {
  does = record {
    map = λ is_open clean ours s are sound running. running;
    keeps = may_err c.from_residual.ensures.0 (may_read c.in_err-row.ensures.does.keeps);
  };
}
