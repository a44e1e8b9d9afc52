use Rattle.std.proofs.Common.{rules, sym, ◌∙◌}
use Rattle.std.proofs.lemmas.Bool.{eqb-true}
use Rattle.dep_outbox.proofs.WireLemmas.{none_waiting, none_counted}
use Rattle.dep_outbox.proofs.backlog.Backlog.is_empty.Goals as goal

pub returns-then-is_empty-clause-empty : goal.returns-then-is_empty-clause-empty
returns-then-is_empty-clause-empty g c = λ h. none_waiting _ c.args.self.now.front.items c.args.self.now.sent (search rules)
    (none_counted _ _ c.is_empty-then-is_empty.ensures.counts (eqb-true _ 0 (sym c.is_empty-then-is_empty.ensures.exact ∙ h)))
