use Rattle.dep_exchange.proofs.StepLemmas.{fails_unasked, operation_made}
use Rattle.dep_exchange.proofs.step.perform_at.Goals as goal

pub returns-in-Ok : goal.returns-in-Ok
returns-in-Ok g c =
    operation_made c.args.site.now c.args.message c.args.target (g.A.Archive.condition c.args.store.now) (g.A.Archive.condition c.perform-performed.new.self)
    (record { target = c.args.target; fields = c.in-Ok.fields; if_match = c.read-in-Ok.result; content = c.args.message.content; closes = c.args.is_last }) c.perform-performed.result
    (λ i. record { target = c.args.target; fields = c.in-Ok.ensures.one i; if_match = c.read-in-Ok.ensures i; content = c.args.message.content; closes = c.requires i })
    (rw c.service.ensures at c.perform-performed.ensures.does)

pub returns-in-Err : goal.returns-in-Err
returns-in-Err g c = fails_unasked (g.A.Archive.condition c.args.store.now) (g.met.A.Archive.settled c.args.store.now) _ _ _
