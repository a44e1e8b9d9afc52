use Rattle.std.proofs.Common.{set, refl, sym, ◌∙◌}
use Rattle.dep_hub.specs.Claims.{is_pending, is_waiting}
use Rattle.dep_hub.specs.WorkingAhead.{for_none}
use Rattle.dep_hub.proofs.ConnectionLemmas.{ascends_set}
use Rattle.dep_hub.proofs.TurnLemmas.{none_prepared, none_there, turn_there, was_prepared}
use Rattle.dep_hub.proofs.PendingLemmas.{any_set}
use Rattle.dep_hub.proofs.PreparingLemmas.{preparing_below, step_idle, step_still, steps_ahead, works_ahead}
use Rattle.dep_hub.proofs.hub.Hub.work_ahead.Goals as goal

-- no request is prepared
pub returns-in_default : goal.returns-in_default
returns-in_default g c =
    let old = c.args.self.now in
    let none = none_there _ _ old.last_turn old.next _ c.as_slice.ensures.value c.in_default.is c.next_prepared.ensures in
    record {
      asked = c.work_ahead.ensures.asked;
      commits = c.work_ahead.ensures.commits;
      rests = works_ahead g.A.Archive.condition old _ refl refl (λ m. refl)
          (for_none (none_prepared old.connections.items old.next none (λ m p. preparing_below m old.next old.connections.items old.ascends p)) refl) c.work_ahead.ensures.rests;
    }

pub prepare-requires : goal.prepare-requires
prepare-requires g c =
    let old = c.args.self.now in
    let kept = c.index_mut-kept.result.now in
    let found = turn_there _ _ old.last_turn old.next _ c.in-Some.i c.as_slice.ensures.value c.in-Some.is c.next_prepared.ensures in
    (was_prepared old.connections.items old.last_turn old.next c.in-Some.i kept c.index_mut-kept.ensures.value found).1

pub invariant_of-self-2 : goal.invariant_of-self-2
invariant_of-self-2 g c =
    let old = c.args.self.now in
    let kept = c.index_mut-kept.result.now in
    let d = c.prepare.new.connection in
    let item = c.index_mut-kept.ensures.value in
    record {
      ascends = ascends_set 0 old.next c.in-Some.i old.connections.items kept d item c.prepare.ensures.number old.ascends;
      busy = old.busy ∙ sym (any_set is_pending c.in-Some.i old.connections.items kept d item (step_idle kept.behind d.behind c.prepare.ensures.step));
      awaiting = old.awaiting ∙ sym (any_set is_waiting c.in-Some.i old.connections.items kept d item (step_still kept.behind d.behind c.prepare.ensures.step));
    }

-- a step is made for one
pub returns : goal.returns
returns g c =
    let old = c.args.self.now in
    let kept = c.index_mut-kept.result.now in
    let d = c.prepare.new.connection in
    let found = turn_there _ _ old.last_turn old.next _ c.in-Some.i c.as_slice.ensures.value c.in-Some.is c.next_prepared.ensures in
    record {
      asked = c.prepare.ensures.works.asked;
      commits = c.prepare.ensures.works.commits;
      rests = steps_ahead g.A.Archive.condition old _ refl refl c.in-Some.i kept d.behind c.index_mut-kept.ensures.value c.prepare.ensures.step found refl
          (λ j. set old.connections.items c.in-Some.i (record { number = c.prepare.ensures.number j; intake = c.prepare.ensures.intake j; behind = d.behind }))
          c.prepare.ensures.works.rests;
    }
