use Rattle.std.proofs.Common.{Bool, sym, subst, ◌∙◌}
use Rattle.dep_exchange.specs.ArchiveCalls.{WorkedAhead, Runs}
use Rattle.dep_host.proofs.serving.ask_on.Goals as goal

pub returns-clause-asks : goal.returns-clause-asks
returns-clause-asks g c = record {
  mid = c.is_open-is_open.new.self;
  asks = c.is_open-is_open.ensures.asks;
  works = c.work_ahead.ensures.goes;
  prepares = c.work_ahead.ensures.prepares;
  stays = c.work_ahead.ensures.stays;
  slots = c.work_ahead.ensures.slots ∙ c.is_open-is_open.ensures.slots;
  ahead = subst (λ (b : Bool). Runs (WorkedAhead b) (g.A.Archive.call_log c.is_open-is_open.new.self.hub.store) (g.A.Archive.call_log c.work_ahead.new.self.hub.store)) (sym c.work_ahead.ensures.left) c.work_ahead.ensures.asked;
}
