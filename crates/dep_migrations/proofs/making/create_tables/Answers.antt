use Rattle.std.proofs.Common.{refl}
use Rattle.std.proofs.lemmas.Result.{IfOk-from_err}
use Rattle.dep_tables.proofs.Chains.{clean_before, stays_then, stays_ok}
use Rattle.dep_migrations.proofs.MadeTables.{none_made, one_made, one_failed, all_made}
use Rattle.dep_migrations.proofs.Causes.{works_failed}
use Rattle.dep_migrations.proofs.making.create_tables.Goals as goal

pub loop-text-init : goal.loop-text-init
loop-text-init g c = none_made g.T.Statements.lenders g.T.Statements.state _ c.args.tx.now refl

pub loop-text-preserved : goal.loop-text-preserved
loop-text-preserved g c =
    one_made g.T.Statements.lenders g.T.Statements.state _ c.loop-text.text-index c.args.tx.now c.run.new.self c.loop-text.tx _ c.loop-text-test.true c.loop-text.invariant
    c.in_ok-run.ensures.keeps.stays c.in_ok-run.ensures.runs

-- where one was not made, nothing is said of an Ok
pub returns-in_err-run : goal.returns-in_err-run
returns-in_err-run g c =
    let is_err = c.from_residual.ensures.0 in
    record {
      adds = λ clean inside. IfOk-from_err c.from_residual.result _ is_err;
      works = works_failed c.from_residual.result c.in_err-run.field-0.0 is_err c.from_residual.ensures.1 (stays_then c.loop-text.invariant.stays c.in_err-run.ensures.keeps.stays) (λ clean inside.
          let before = clean_before c.in_err-run.ensures.keeps.stays clean in
          let stays = c.loop-text.invariant.stays in
          one_failed g.T.Statements.lenders g.T.Statements.state _ c.loop-text.text-index c.args.tx.now c.run.new.self c.loop-text.tx _ _ c.loop-text-test.true c.loop-text.invariant
          before inside (c.in_err-run.ensures.cause clean (stays.inside before inside)));
    }

pub returns : goal.returns
returns g c =
    let made = all_made g.T.Statements.lenders g.T.Statements.state _ c.loop-text.text-index c.args.tx.now c.loop-text.tx c.loop-text.auto.text-index-end c.loop-text-test.false c.loop-text.invariant in
    record { adds = made.adds; works = record { cause = λ clean inside. tt; stays = stays_ok made.stays } }
