use Rattle.std.proofs.Common.{◌≡◌, ◌≤◌, ◌+◌, ◌-◌, ◌^◌, min}
use Rattle.std.specs.Io.KnownBytes.{Keeps}
use Rattle.dep_outbox.specs.Wires.{reported, owed_count}
use Rattle.dep_outbox.proofs.wire.Wire.flush.Given as goal

-- what was sent is no longer owed, and counted
abbrev pub invariant-loop-sends : goal.invariant-loop-sends
invariant-loop-sends g l = record {
  keeps : Keeps (reported g.K.Sink.taken g.S.Spool.held l.fn.self) (reported g.K.Sink.taken g.S.Spool.held l.self);
  failures : l.self.failures ≡ l.fn.self.failures;
  delivers : min (l.fn.self.delivered
      + (owed_count g.S.Spool.size l.fn.self - owed_count g.S.Spool.size l.self)) (2 ^ 64 - 1) ≤ l.self.delivered;
  no_less : l.self.delivered + owed_count g.S.Spool.size l.self
      ≤ l.fn.self.delivered + owed_count g.S.Spool.size l.fn.self;
  halts : g.K.Sink.halts l.self.sink ≡ g.K.Sink.halts l.fn.self.sink;
  spool : g.S.Spool.failures l.self.backlog.spool ≡ g.S.Spool.failures l.fn.self.backlog.spool;
  no_more : owed_count g.S.Spool.size l.self + l.sends ≤ owed_count g.S.Spool.size l.fn.self;
}
