use Rattle.std.specs.Prelude.{IsSome, ◌≡◌, ◌⊎◌, false}
use Rattle.dep_types.specs.declared.inlet.LastRead.TheVariants.{Bytes}
use Rattle.dep_hub.specs.Representing.{intake_of}
use Rattle.dep_exchange.specs.declared.arrived.Arrived.TheVariants.{Open as StaysOpen}
use Rattle.dep_connection.specs.Turns.{reads_after}
use Rattle.dep_connection.specs.Conversation.{Talk, MayShow, standing}
use Rattle.dep_connection.specs.Flushing.{IsFlushed}
use Rattle.dep_connection.proofs.connection.converse.Given as goal

abbrev pub invariant-loop-count : goal.invariant-loop-count
invariant-loop-count g l = record {
  call : goal.C-IsAlwaysCallable g l.clock;
  same : l.incoming.connection ≡ l.fn.incoming.connection;
  there : IsSome (intake_of l.hub.connections.items l.fn.incoming.connection);
  reads : g.R.Inlet.reads l.reader ≡ reads_after (g.R.Inlet.reads l.fn.reader) l.count;
  last : (l.count ≡ 0) ⊎ (g.R.Inlet.last l.reader ≡ Bytes);
  flushed : IsFlushed (g.W.Flush.held l.fn.writer) (g.W.Flush.has_failed l.fn.writer)
      → IsFlushed (g.W.Flush.held l.writer) (g.W.Flush.has_failed l.writer);
  out : (l.count ≡ 0) ⊎ (g.W.Flush.has_failed l.writer ≡ false);
  talk : Talk g.A.Archive.condition g.A.Archive.may_commit (MayShow g.W.Outlet g.W.Flush.held g.W.Flush.has_failed) (goal.C-step g) l.fn.incoming.connection
      (standing g.R.Inlet g.W.Outlet g.W.Flush.held g.W.Flush.has_failed l.fn.hub l.fn.reader l.fn.writer l.fn.clock)
      (standing g.R.Inlet g.W.Outlet g.W.Flush.held g.W.Flush.has_failed l.hub l.reader l.writer l.clock) l.count StaysOpen;
}
