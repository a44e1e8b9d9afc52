use Rattle.dep_tables.proofs.Chains.{may_ok, may_read, may_err, may_put}
use Rattle.dep_staging.proofs.hashing.note_next.Goals as goal

pub returns : goal.returns
returns g c = record {
  does = record {
    map = λ is_open clean ours s are running. c.note_next.ensures s running;
    keeps = may_ok (may_read c.in_ok-next.ensures.does.keeps);
  };
}

pub returns-in_default : goal.returns-in_default
returns-in_default g c = record {
  does = record {
    map = λ is_open clean ours s are running. running;
    keeps = may_put g.T.Statements.lenders g.T.Statements.state c.args.tx.now _;
  };
}

pub returns-in_err-next : goal.returns-in_err-next
returns-in_err-next g c = record {
  does = record {
    map = λ is_open clean ours s are running. running;
    keeps = may_err c.from_residual.ensures.0 (may_read c.in_err-next.ensures.does.keeps);
  };
}
