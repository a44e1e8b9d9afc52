use Rattle.std.proofs.Common.{inl, inr, ap, ◌∙◌}
use Rattle.dep_tables.specs.Edits.{with_our_version}
use Rattle.dep_tables.proofs.Results.{if_err, if_ok, ok_then}
use Rattle.dep_tables.proofs.Chains.{clean_before, survived, stays_then}
use Rattle.dep_migrations.proofs.Causes.{works_failed, fails_then, fails_later}
use Rattle.dep_migrations.specs.Upgrading.{with_sha512s, FailsToPut, FailsToFill}
use Rattle.dep_migrations.proofs.upgrading.upgrade_tables.Goals as goal

pub returns-clause-ok : goal.returns-clause-ok
returns-clause-ok g c clean inside older =
    let extended = c.in_ok-extend_schema.ensures in
    let inserted = c.in_ok-insert_values.ensures in
    let filled = clean_before c.write_version.ensures.does.keeps.stays clean in
    let there = clean_before inserted.works.stays filled in
    let made = extended.ok there inside older in
    let goes_on = extended.works.stays.inside there inside in
    let put = inserted.ok filled goes_on made.ours in
    ok_then c.write_version.result (c.write_version.ensures.does.ok clean (inserted.works.stays.inside filled goes_on) put.ours)
    (λ led. record { ours = led.ours; rows = led.rows ∙ ap with_our_version (put.rows ∙ ap (with_sha512s c.args.values.now) made.rows) })

pub returns-clause-free : goal.returns-clause-free
returns-clause-free g c clean inside =
    let extended = c.in_ok-extend_schema.ensures in
    let there = clean_before c.in_ok-insert_values.ensures.works.stays (clean_before c.write_version.ensures.does.keeps.stays clean) in
    if_ok c.write_version.result (extended.free there inside)

pub returns-clause-works : goal.returns-clause-works
returns-clause-works g c = record {
  cause = λ clean inside.
      let extended = c.in_ok-extend_schema.ensures in
      let inserted = c.in_ok-insert_values.ensures in
      let filled = clean_before c.write_version.ensures.does.keeps.stays clean in
      let there = clean_before inserted.works.stays filled in
      let goes_on = inserted.works.stays.inside filled (extended.works.stays.inside there inside) in
      let since = survived (g.T.Statements.state c.args.tx.now) (g.T.Statements.state c.extend_schema.new.tx) (g.T.Statements.state c.insert_values.new.tx) extended.works.stays.survives inserted.works.stays.survives in
      if_err c.write_version.result (c.write_version.ensures.does.cause tt clean goes_on)
      (λ fault failed. inr (extended.free there inside, fails_then g.T.Statements.state c.args.tx.now c.insert_values.new.tx c.write_version.new.tx since (FailsToFill c.args.values.now) fault (inr failed)));
  stays = stays_then c.in_ok-extend_schema.ensures.works.stays (stays_then c.in_ok-insert_values.ensures.works.stays c.write_version.ensures.does.keeps.stays);
}

pub returns-in_err-extend_schema-clause-works : goal.returns-in_err-extend_schema-clause-works
returns-in_err-extend_schema-clause-works g c =
    works_failed c.from_residual.result c.in_err-extend_schema.field-0.0 c.from_residual.ensures.0 c.from_residual.ensures.1 c.in_err-extend_schema.ensures.works.stays
    (λ clean inside. inl (c.in_err-extend_schema.ensures.works.cause clean inside))

pub returns-in_err-insert_values-clause-works : goal.returns-in_err-insert_values-clause-works
returns-in_err-insert_values-clause-works g c =
    let extended = c.in_ok-extend_schema.ensures in
    let failed = c.in_err-insert_values.ensures in
    let passed = c.from_residual-in_err-insert_values in
    works_failed passed.result c.in_err-insert_values.field-0.0 passed.ensures.0 passed.ensures.1 (stays_then extended.works.stays failed.works.stays) (λ clean inside.
    let there = clean_before failed.works.stays clean in
    inr (
      extended.free there inside,
      fails_later g.T.Statements.state c.args.tx.now c.extend_schema.new.tx c.insert_values.new.tx extended.works.stays.survives (FailsToPut c.args.values.now) (FailsToFill c.args.values.now)
          (λ at now fault by. inl by) _ (failed.works.cause clean (extended.works.stays.inside there inside)),
    ))
