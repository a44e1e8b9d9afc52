use Rattle.dep_tables.proofs.Chains.{may_put}
use Rattle.dep_requests.proofs.performing.hash_loaded.Goals as goal

pub returns-in_err-refusal : goal.returns-in_err-refusal
returns-in_err-refusal g c = record {
  does = record { map = λ is_open clean ours s are sound running. running; keeps = may_put g.T.Statements.lenders g.T.Statements.state c.args.tx.now _ };
}

pub returns-then-is_some : goal.returns-then-is_some
returns-then-is_some g c = record {
  does = record { map = λ is_open clean ours s are sound running. running; keeps = may_put g.T.Statements.lenders g.T.Statements.state c.args.tx.now _ };
}
