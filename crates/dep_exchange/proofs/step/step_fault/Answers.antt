use Rattle.std.proofs.Common.{◌∙◌}
use Rattle.dep_message.specs.Stream.{Fault}
use Rattle.dep_exchange.proofs.StepLemmas.{fault_made, never_ticked}
use Rattle.dep_exchange.proofs.step.step_fault.Goals as goal

pub returns-in-Ok : goal.returns-in-Ok
returns-in-Ok g c =
    fault_made c.args.context.now.site.now c.args.context.now.moment (g.A.Archive.condition c.args.store.now) (g.A.Archive.condition c.tick.new.self) c.in-Ok.clock
    (rw (c.config.ensures ∙ c.service.ensures) at c.in-Ok.ensures.does) c.in-Ok.ensures.shut c.args.fault.refusal c.args.fault.is_head_only (g.met.A.Archive.settled c.tick.new.self)
    c.refuse.result c.refuse.ensures

pub returns-in-Err : goal.returns-in-Err
returns-in-Err g c =
    never_ticked c.args.context.now.site.now (Fault c.args.fault.refusal c.args.fault.is_head_only) c.args.context.now.moment
    (g.A.Archive.condition c.args.store.now) (g.A.Archive.condition c.tick.new.self) c.in-Err.store_fault
    tt (rw (c.config.ensures ∙ c.service.ensures) at c.in-Err.ensures.does) c.in-Err.ensures.shut
