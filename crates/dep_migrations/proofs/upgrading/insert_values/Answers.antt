use Rattle.std.proofs.Common.{◌<◌, length, arith}
use Rattle.std.proofs.lemmas.List.{take_all}
use Rattle.dep_tables.proofs.Chains.{clean_before, stays_then, stays_ok}
use Rattle.dep_migrations.proofs.Causes.{works_failed}
use Rattle.dep_migrations.proofs.Upgraded.{one_more_value, put_fails, reported_fault}
use Rattle.dep_migrations.proofs.upgrading.insert_values.Goals as goal

pub values-preserved : goal.values-preserved
values-preserved g c =
    let inv = c.values.invariant in
    let put = c.in_ok-insert_sha512.ensures.does in
    let within : c.values.value-index < length c.args.values.now = omega arith in (
      stays_ok (stays_then inv.0 put.keeps.stays),
      λ clean inside ours.
          let before = clean_before put.keeps.stays clean in
          let was = inv.1 before inside ours in
          let leads = put.ok clean (inv.0.inside before inside) was.ours in
          record { ours = leads.ours; rows = one_more_value _ _ _ c.args.values.now c.values.value-index _ within was.rows leads.rows },
    )

pub returns-clause-ok : goal.returns-clause-ok
returns-clause-ok g c = rw (take_all c.values.value-index c.args.values.now c.values-test.false) at c.values.invariant.1

pub returns-in_err-insert_sha512-clause-works : goal.returns-in_err-insert_sha512-clause-works
returns-in_err-insert_sha512-clause-works g c =
    let stays = c.values.invariant.0 in
    works_failed c.from_residual.result c.in_err-insert_sha512.field-0.0 c.from_residual.ensures.0 c.from_residual.ensures.1 (stays_then stays c.in_err-insert_sha512.ensures.does.keeps.stays) (λ clean inside.
    let before = clean_before c.insert_sha512.ensures.does.keeps.stays clean in
    let within : c.values.value-index < length c.args.values.now = omega arith in
    let goes_on = stays.inside before inside in
    let failed = c.in_err-insert_sha512.ensures.does in
    put_fails g.T.Statements.state c.args.values.now c.args.tx.now c.values.tx c.insert_sha512.new.tx stays.survives c.values.value-index _ within _
    (λ below. failed.cause below clean goes_on) (λ above. reported_fault (failed.numbers above).0))

pub returns-clause-works : goal.returns-clause-works
returns-clause-works g c = record { cause = λ clean inside. tt; stays = stays_ok c.values.invariant.0 }
