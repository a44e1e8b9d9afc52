use Rattle.std.proofs.Common.{◌≡◌, ◌∙◌, refl, sym, subst, of_calls}
use Rattle.sqlite.specs.Held.{Held, state}
use Rattle.sqlite.specs.State.{HasCleanDisk}
use Rattle.dep_store.specs.HashingStores.{condition_with_hashes}
use Rattle.dep_types.specs.Config.{IsChecked}
use Rattle.dep_types.specs.declared.config.Config.{Config}
use Rattle.dep_connection.specs.Conversation.{session}
use Rattle.dep_hub.specs.Representing.{IsHonest}
use Rattle.dep_application.specs.Replays.{Replays, not_begun, wire_of}
use Rattle.dep_program.specs.declared.outcome.Outcome.{Outcome}
use Rattle.dep_application.proofs.ReplayLemmas.{comes_to, not_replayed, rests_same}
use Rattle.dep_application.proofs.replaying.replay_database.Goals as goal

pub returns-in_default-clause-replays : goal.returns-in_default-clause-replays
returns-in_default-clause-replays g c none clean =
    not_begun (rests_same (wire_of g.R.Inlet g.W.Outlet g.W.Flush.held g.W.Flush.has_failed c.args.reader.now c.args.writer.now))

pub returns-in-Err-clause-replays : goal.returns-in-Err-clause-replays
returns-in-Err-clause-replays g c none clean =
    let at = wire_of g.R.Inlet g.W.Outlet g.W.Flush.held g.W.Flush.has_failed c.args.reader.now c.args.writer.now in
    subst (λ (o : Outcome). Replays c.args.setting.base.now c.args.setting.moment at at o) (sym c.outcome.ensures)
    (not_replayed c.args.setting.base.now c.args.setting.moment at c.in-Err.fault
    (λ same checked. (c.in-Err.ensures.refused same).0 (subst (λ (x : Config). IsChecked x) (sym c.in-Ok.ensures) checked)))

pub returns-in-Ok-open_hub-clause-replays : goal.returns-in-Ok-open_hub-clause-replays
returns-in-Ok-open_hub-clause-replays g c none clean =
    let run = c.serve_connection-served in
    let before = wire_of g.R.Inlet g.W.Outlet g.W.Flush.held g.W.Flush.has_failed c.args.reader.now c.args.writer.now in
    let after = wire_of g.R.Inlet g.W.Outlet g.W.Flush.held g.W.Flush.has_failed run.new.reader run.new.writer in
    let honest : IsHonest (condition_with_hashes g.S.Store) run.new.hub = subst (λ (h : Held _). HasCleanDisk (state g.S.Store h)) c.close_hub.ensures clean in
    subst (λ (o : Outcome). Replays c.args.setting.base.now c.args.setting.moment before after o) (sym c.outcome_of.ensures)
    (comes_to _ _ _ _ c.args.setting.moment (λ f. f.0 ≡ c.args.setting.moment) (λ before after m p e. ((search of_calls), (search of_calls)))
    c.args.setting.base.now (session c.in-Ok-open_hub.hub before _) (session run.new.hub after _)
    (c.in-Ok-open_hub.ensures.fresh (run.ensures.goes.honest honest) none) honest (c.in-Ok-open_hub.ensures.config ∙ c.in-Ok.ensures) refl
    run.result run.ensures.converses)
