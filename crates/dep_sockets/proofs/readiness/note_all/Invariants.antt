use Rattle.std.proofs.Common.{◌≡◌, ◌++◌, ◌||◌}
use Rattle.std.specs.Slice.Iter.{iter_rest}
use Rattle.mio.specs.Events.{items}
use Rattle.dep_sockets.specs.Readiness.{readies_of, has_listener}
use Rattle.dep_sockets.proofs.readiness.note_all.Given as goal

abbrev pub invariant-loop-event : goal.invariant-loop-event
invariant-loop-event l = record {
  noted : l.ready.items ++ readies_of l.listener.0 (iter_rest l.event-iterator) ≡ l.initial.ready.items ++ readies_of l.listener.0 (items l.polled);
  reported : (l.is_waited_for || has_listener l.listener.0 (iter_rest l.event-iterator)) ≡ has_listener l.listener.0 (items l.polled);
}
