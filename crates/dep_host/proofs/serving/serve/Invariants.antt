use Rattle.std.specs.Prelude.{List, ◌≡◌, false}
use Rattle.dep_slot.specs.Causes.{causes_of}
use Rattle.dep_host.specs.Actions.{HostAction}
use Rattle.dep_host.specs.Meeting.{IsIdle, IsOffer, Met}
use Rattle.dep_host.specs.declared.serving.Ended.TheVariants.{Spent}
use Rattle.dep_host.proofs.serving.serve.Given as goal

abbrev pub invariant-loop-count : goal.invariant-loop-count
invariant-loop-count g l = record {
  met : (actions : List HostAction) × Met g.A.Archive.condition g.A.Archive.call_log g.R.Source.unread g.K.Sink.taken g.S.Spool.held g.S.Spool.size (causes_of g.R.Source.halts g.K.Sink.halts g.S.Spool.failures) g.L.HostLog.notes (g.E.Events.given l.fn.events) (g.E.Events.given l.events) l.fn.host l.host l.fn.log l.log
      actions l.count Spent;
  vacant : IsOffer l.host l.now.vacancy;
  idle : l.now.is_busy ≡ false → IsIdle g.S.Spool.size l.host;
}
