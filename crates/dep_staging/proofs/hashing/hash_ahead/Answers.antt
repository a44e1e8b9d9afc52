use Rattle.std.proofs.Common.{subst}
use Rattle.dep_tables.specs.Clauses.{MayReadWithin}
use Rattle.dep_tables.proofs.Chains.{may_err, may_ok}
use Rattle.dep_staging.proofs.hashing.hash_ahead.Goals as goal

pub returns-in_default : goal.returns-in_default
returns-in_default g c = record {
  does = record {
    map = λ is_open clean ours s are sound running. c.note_next.ensures.does.map is_open clean ours s are (c.take_due.ensures.others s running);
    keeps = c.note_next.ensures.does.keeps;
  };
}

pub returns-in_err-hashed : goal.returns-in_err-hashed
returns-in_err-hashed g c = record {
  does = record {
    map = λ is_open clean ours s are sound running.
        c.put_back.ensures s (c.take_due.ensures.others s running) (c.hash_blocks-hashed.ensures.does.map is_open clean ours s are sound (c.in-Some.ensures.taken s running)).0;
    keeps = may_err c.from_residual.ensures.0 c.hash_blocks-hashed.ensures.does.keeps;
  };
}

pub returns : goal.returns
returns g c = record {
  does = record {
    map = λ is_open clean ours s are sound running.
        c.put_back.ensures s (c.take_due.ensures.others s running) (c.hash_blocks-hashed.ensures.does.map is_open clean ours s are sound (c.in-Some.ensures.taken s running)).0;
    keeps = may_ok (subst (MayReadWithin g.T.Statements.lenders g.T.Statements.state c.args.tx.now c.hash_blocks-hashed.new.tx) c.in_ok-hashed.was c.hash_blocks-hashed.ensures.does.keeps);
  };
}
