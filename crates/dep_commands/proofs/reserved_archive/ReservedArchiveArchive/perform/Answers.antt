use Rattle.std.proofs.Common.{sym, subst}
use Rattle.dep_types.specs.declared.store_fault.StoreFault.TheVariants.{Store}
use Rattle.dep_fields.specs.Fit.{AreFit}
use Rattle.dep_answers.specs.Performing.{IsReady}
use Rattle.dep_answers.specs.Steps.{operation_step}
use Rattle.dep_exchange.specs.Archives.{MakesStep}
use Rattle.dep_commands.proofs.ReservedLemmas.{fails_unasked}
use Rattle.dep_commands.proofs.reserved_archive.ReservedArchiveArchive.perform.Goals as goal

pub returns-then-turns_away-clause-does : goal.returns-then-turns_away-clause-does
returns-then-turns_away-clause-does g c =
    let archive = c.args.self.now.archive in
    let config = c.args.service.now in
    let op = c.args.operation.now in
    fails_unasked (g.A.Archive.condition archive) (λ s. AreFit op.fields) (λ s p. IsReady (operation_step config s op) p) (λ s. (operation_step config s op).state) Store (g.met.A.Archive.settled archive)

pub returns-then-matches-clause-does : goal.returns-then-matches-clause-does
returns-then-matches-clause-does g c =
    let op = c.args.operation.now in
    subst (λ archive. MakesStep (g.A.Archive.condition c.args.self.now.archive) (g.A.Archive.condition archive) (λ s. AreFit op.fields) (λ s. operation_step c.args.service.now s op) c.perform-performed.result)
    (sym c.give_up.ensures.archive) c.perform-performed.ensures.does
