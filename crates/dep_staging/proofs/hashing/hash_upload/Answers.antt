use Rattle.std.proofs.Common.{◌≡◌, ◌∙◌, ℕ, List, IfOk, IsTrue, subst}
use Rattle.std.proofs.lemmas.Result.{IfOk-from_err}
use Rattle.dep_fixity.specs.Fixity.{HashesMessage, digests_of}
use Rattle.dep_fixity.specs.declared.hasher.Hasher.{Hasher}
use Rattle.dep_tables.specs.Clauses.{MayReadWithin}
use Rattle.dep_tables.proofs.Chains.{may_err, may_ok}
use Rattle.dep_staging.proofs.AheadLemmas.{digests_reported}
use Rattle.dep_staging.proofs.hashing.hash_upload.Goals as goal

pub returns-in_err-is_whole : goal.returns-in_err-is_whole
returns-in_err-is_whole g c = record {
  does = record {
    map = λ is_open clean ours s are sound running. (
      c.put.ensures s (c.take-run.ensures.others s running) (c.hash_rest-hashed.ensures.does.map is_open clean ours s are sound (c.take-run.ensures.taken s running).0).0,
      IfOk-from_err c.from_residual.result _ c.from_residual.ensures.0,
    );
    keeps = may_err c.from_residual.ensures.0 c.hash_rest-hashed.ensures.does.keeps;
  };
}

pub returns-then-not-is_whole : goal.returns-then-not-is_whole
returns-then-not-is_whole g c = record {
  does = record {
    map = λ is_open clean ours s are sound running. (
      c.put.ensures s (c.take-run.ensures.others s running) (c.hash_rest-hashed.ensures.does.map is_open clean ours s are sound (c.take-run.ensures.taken s running).0).0,
      tt,
    );
    keeps = may_ok (subst (MayReadWithin g.T.Statements.lenders g.T.Statements.state c.args.tx.now c.hash_rest-hashed.new.tx) c.in_ok-is_whole.was c.hash_rest-hashed.ensures.does.keeps);
  };
}

pub returns : goal.returns
returns g c = record {
  does = record {
    map = λ is_open clean ours s are sound running.
        let run = c.hash_rest-hashed.ensures.does.map is_open clean ours s are sound (c.take-run.ensures.taken s running).0 in (
          c.put.ensures s (c.take-run.ensures.others s running) run.0,
          digests_reported s c.args.row.now c.hash_rest-hashed.new.run c.finish-digests.result sound run.0 (run.1 ∙ (c.take-run.ensures.taken s running).1)
              (subst (λ r. IfOk r (λ is_whole. IsTrue is_whole → c.hash_rest-hashed.new.run.segments ≡ c.args.row.now.count)) c.in_ok-is_whole.was c.hash_rest-hashed.ensures.whole c.if-not-is_whole.false)
              (subst (λ (h : Hasher). (message : List ℕ) → HashesMessage h message → c.finish-digests.result ≡ digests_of message) c.copied.ensures c.finish-digests.ensures),
        );
    keeps = may_ok (subst (MayReadWithin g.T.Statements.lenders g.T.Statements.state c.args.tx.now c.hash_rest-hashed.new.tx) c.in_ok-is_whole.was c.hash_rest-hashed.ensures.does.keeps);
  };
}
