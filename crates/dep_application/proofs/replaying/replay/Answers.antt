use Rattle.sqlite.specs.Held.{state}
use Rattle.sqlite.specs.Steps.{over_memory}
use Rattle.sqlite.proofs.Callers.{memory_is_clean}
use Rattle.dep_application.specs.Replays.{not_begun, wire_of}
use Rattle.dep_application.proofs.ReplayLemmas.{empty_holds_none, rests_same}
use Rattle.dep_application.proofs.replaying.replay.Goals as goal

pub returns-in-Ok-clause-replays : goal.returns-in-Ok-clause-replays
returns-in-Ok-clause-replays g c =
    let run = c.replay_database-outcome in
    run.ensures.replays (empty_holds_none (state over_memory c.in-Ok.connection) c.in-Ok.ensures.empty) (memory_is_clean run.result.1)

pub returns-in-Err-clause-replays : goal.returns-in-Err-clause-replays
returns-in-Err-clause-replays g c =
    not_begun (rests_same (wire_of g.R.Inlet g.W.Outlet g.W.Flush.held g.W.Flush.has_failed c.args.reader.now c.args.writer.now))
