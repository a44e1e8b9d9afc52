use Rattle.std.proofs.Common.{inl, inr}
use Rattle.dep_tables.proofs.Results.{if_err, ok_then}
use Rattle.dep_tables.proofs.Chains.{clean_before, stays_then}
use Rattle.dep_migrations.proofs.Causes.{works_failed}
use Rattle.dep_migrations.proofs.MadeTables.{adds_sha512s}
use Rattle.dep_migrations.proofs.Upgraded.{extends, free_new}
use Rattle.dep_migrations.proofs.upgrading.extend_schema.Goals as goal

pub returns-clause-ok : goal.returns-clause-ok
returns-clause-ok g c clean inside older =
    let created = c.in_ok-run.ensures in
    let before = clean_before c.create_indexes.ensures.works.stays clean in
    let state = g.T.Statements.state in
    ok_then c.create_indexes.result (c.create_indexes.ensures.adds clean (created.keeps.stays.inside before inside))
    (extends (state c.args.tx.now) (state c.run.new.self) (state c.create_indexes.new.tx) older (adds_sha512s _ _ (created.runs before inside)))

pub returns-clause-free : goal.returns-clause-free
returns-clause-free g c clean inside =
    let created = c.in_ok-run.ensures in
    let before = clean_before c.create_indexes.ensures.works.stays clean in
    ok_then c.create_indexes.result (c.create_indexes.ensures.adds clean (created.keeps.stays.inside before inside)) (free_new _ _ _ (adds_sha512s _ _ (created.runs before inside)))

pub returns-clause-works : goal.returns-clause-works
returns-clause-works g c =
    let created = c.in_ok-run.ensures in
    record {
      cause = λ clean inside.
          let before = clean_before c.create_indexes.ensures.works.stays clean in
          if_err c.create_indexes.result (c.create_indexes.ensures.works.cause clean (created.keeps.stays.inside before inside))
          (λ fault failed. inr (c.run.new.self, adds_sha512s _ _ (created.runs before inside), created.keeps.stays.survives, failed));
      stays = stays_then created.keeps.stays c.create_indexes.ensures.works.stays;
    }

pub returns-in_err-run-clause-works : goal.returns-in_err-run-clause-works
returns-in_err-run-clause-works g c =
    works_failed c.from_residual.result c.in_err-run.field-0.0 c.from_residual.ensures.0 c.from_residual.ensures.1 c.in_err-run.ensures.keeps.stays
    (λ clean inside. inl (c.in_err-run.ensures.cause clean inside))
