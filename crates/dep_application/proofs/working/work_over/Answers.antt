use Rattle.std.proofs.Common.{sym, subst}
use Rattle.dep_program.specs.declared.outcome.Outcome.{Outcome}
use Rattle.dep_application.specs.Working.{EndsWork, closed, not_closed}
use Rattle.dep_application.proofs.working.work_over.Goals as goal

pub returns-in-Ok : goal.returns-in-Ok
returns-in-Ok g c = closed c.work-outcome.result.1 c.in-Ok.field-0 c.work-outcome.ensures.does c.in-Ok.ensures.copied

pub returns : goal.returns
returns g c =
    subst (λ (o : Outcome). EndsWork g.D.Disk (g.W.DatabaseWork.does c.args.work) c.args.connection o) (sym c.outcome_unclosed.ensures)
    (not_closed c.work-outcome.result.1 c.in-Err.store c.in-Err.field-0-0 c.work-outcome.ensures.does c.in-Err.ensures.err.1)
