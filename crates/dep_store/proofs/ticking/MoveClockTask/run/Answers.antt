use Rattle.std.proofs.lemmas.Result.{IfOk-from_err}
use Rattle.dep_tables.proofs.Chains.{stays_err, stays_ok}
use Rattle.dep_store.proofs.Carrying.{ticks}
use Rattle.dep_store.proofs.ticking.MoveClockTask.run.Goals as goal

pub returns-in_err-moved : goal.returns-in_err-moved
returns-in_err-moved g c = record {
  made = λ clean inside ours. IfOk-from_err c.from_residual.result _ c.from_residual.ensures.0;
  stays = stays_err c.from_residual.ensures.0 c.in_err-moved.ensures.does.keeps.stays;
}

pub returns : goal.returns
returns g c =
    let reported = c.in_ok-moved.ensures.does in
    record {
      made = ticks (g.T.Statements.state c.args.tx.now) (g.T.Statements.state c.tick.new.tx) c.args.self.now.config.now c.args.self.now.moment c.in_ok-moved.moved c.new-clock.result c.new-clock.ensures reported.done reported.keeps.ours;
      stays = stays_ok reported.keeps.stays;
    }
