use Rattle.std.proofs.Common.{sym, ◌∙◌}
use Rattle.dep_hub.specs.RepresentsOwing.{behind_at}
use Rattle.dep_hub.proofs.PendingLemmas.{none_awaited}
use Rattle.dep_hub.proofs.hub.Hub.is_awaited.Goals as goal

-- no request waits
pub returns-then-not-self : goal.returns-then-not-self
returns-then-not-self g c =
    let connections = c.args.self.now.connections.items in
    sym (none_awaited connections (behind_at connections c.args.connection) (sym c.args.self.now.awaiting ∙ c.if-not-self.true))
