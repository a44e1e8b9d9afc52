use Rattle.std.proofs.Common.{List, set, refl, sym, ap, subst, ◌∙◌}
use Rattle.dep_hub.specs.Claims.{is_any_pending, is_any_waiting, waits_on}
use Rattle.dep_hub.specs.Numbers.{Ascends}
use Rattle.dep_hub.specs.declared.connections.Connection.{Connection}
use Rattle.dep_hub.proofs.BehindLemmas.{set_here}
use Rattle.dep_hub.proofs.ConnectionLemmas.{ascends_set}
use Rattle.dep_hub.proofs.HubLemmas.{same_again}
use Rattle.dep_hub.proofs.LookLemmas.{found_by, free_number, keeps_number, keeps_seen, same_set, still_waits}
use Rattle.dep_hub.proofs.hub.Hub.keeps_back.Goals as goal

-- it waits still
pub returns-then-waits_on : goal.returns-then-waits_on
returns-then-waits_on g c =
    let old = c.args.self.now in
    let items = old.connections.items in
    let kept = c.index-kept.result.now in
    record {
      answerable = λ e. cc;
      kept = λ _. keeps_number g.A.Archive.condition old _ c.args.connection c.args.i kept kept.behind c.requires.index c.index-kept.ensures refl refl refl
          (sym (set_here c.args.i items kept c.index-kept.ensures))
          (still_waits items kept.intake kept.behind
          (sym (ap (λ (cs : List Connection). waits_on cs kept.behind) c.as_slice.ensures.value) ∙ (sym c.waits_on.ensures ∙ c.if-waits_on.true)));
      turn = refl {a = c.args.self.now.last_turn};
    }

pub invariant_of-self : goal.invariant_of-self
invariant_of-self g c = record { ascends = c.args.self.now.ascends; busy = c.args.self.now.busy; awaiting = c.args.self.now.awaiting }

-- it may be answered
pub returns-in_default : goal.returns-in_default
returns-in_default g c =
    let items = c.args.self.now.connections.items in
    let kept = c.index_mut.result.now in
    let same = same_set c.args.i items kept c.look_at-look.new.connection c.look_at-look.ensures.same c.index_mut.ensures.value in
    record {
      answerable = λ _. (
        same_again c.args.self.now c.args.i c.look_at-look.new.connection same _ _ _,
        free_number c.args.connection c.args.i items kept c.requires.index c.index_mut.ensures.value c.kept_by.result c.in_default.is
            (found_by c.as_slice-2.result.now items kept c.look_at-look.result c.kept_by.result (c.as_slice-2.ensures.value ∙ same) c.kept_by.ensures (c.look_at-look.ensures.shows items c.args.self.now.busy)),
      );
      kept = λ e. cc;
      turn = refl {a = c.args.self.now.last_turn};
    }

pub invariant_of-self-2 : goal.invariant_of-self-2
invariant_of-self-2 g c =
    let old = c.args.self.now in
    let items = old.connections.items in
    let same = same_set c.args.i items c.index_mut.result.now c.look_at-look.new.connection c.look_at-look.ensures.same c.index_mut.ensures.value in
    let kept = c.index_mut-2.result.now in
    record {
      ascends = ascends_set 0 old.next c.args.i (set items c.args.i c.look_at-look.new.connection) kept (record { number = kept.number; intake = kept.intake; behind = c.in-Some.behind })
          c.index_mut-2.ensures.value refl (subst (λ (cs : List Connection). Ascends 0 cs old.next) (sym same) old.ascends);
      busy = c.is_any_pending-self.ensures ∙ ap is_any_pending c.as_slice-3.ensures.value;
      awaiting = c.is_any_waiting-self.ensures ∙ ap is_any_waiting c.as_slice-4.ensures.value;
    }

-- it is kept back from now on
pub returns : goal.returns
returns g c =
    let old = c.args.self.now in
    let items = old.connections.items in
    let kept = c.index_mut.result.now in
    let same = same_set c.args.i items kept c.look_at-look.new.connection c.look_at-look.ensures.same c.index_mut.ensures.value in
    record {
      answerable = λ e. cc;
      kept = λ _. keeps_seen g.A.Archive.condition old _ c.args.connection c.args.i kept c.index_mut-2.result.now (set items c.args.i c.look_at-look.new.connection) c.kept_by.result c.in-Some.behind
          c.requires.index c.requires.within c.index_mut.ensures.value same c.index_mut-2.ensures.value refl refl refl refl c.in-Some.is
          (found_by c.as_slice-2.result.now items kept c.look_at-look.result c.kept_by.result (c.as_slice-2.ensures.value ∙ same) c.kept_by.ensures (c.look_at-look.ensures.shows items old.busy));
      turn = refl {a = c.args.self.now.last_turn};
    }
