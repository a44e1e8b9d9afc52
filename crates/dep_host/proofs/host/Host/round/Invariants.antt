use Rattle.std.proofs.Common.{◌≡◌, ◌<◌, ℕ, false}
use Rattle.dep_slot.specs.Causes.{causes_of}
use Rattle.dep_host.specs.Actions.{position, slot_at}
use Rattle.dep_host.specs.Hosting.{HasTime, HasNothingToDo, HostStays}
use Rattle.dep_host.proofs.WholeRounds.{RoundSoFar}
use Rattle.dep_host.proofs.host.Host.round.Given as goal

abbrev pub invariant-loop-at : goal.invariant-loop-at
invariant-loop-at g l = record {
  goes : RoundSoFar g.A.Archive.condition g.R.Source.unread g.K.Sink.taken g.S.Spool.held g.S.Spool.size (causes_of g.R.Source.halts g.K.Sink.halts g.S.Spool.failures) (position l.fn.self) (position l.self) l.at l.time l.is_full l.share (g.L.HostLog.notes l.fn.log) (g.L.HostLog.notes l.log);
  left : (place : ℕ) → place < l.at → HasTime l.time.second l.fn.self.limits (slot_at place l.self.slots.items);
  waits : l.is_busy ≡ false → (place : ℕ) → place < l.at → HasNothingToDo g.S.Spool.size (slot_at place l.self.slots.items);
  stays : HostStays l.fn.self l.self;
  first : l.share.first ≡ l.fn.self.first;
}
