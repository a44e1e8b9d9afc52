use Rattle.std.proofs.Common.{refl, sym, ap, ◌∙◌}
use Rattle.dep_hub.specs.Claims.{is_pending, is_waiting}
use Rattle.dep_hub.specs.Numbers.{place_of_number}
use Rattle.dep_hub.proofs.ConnectionLemmas.{index_none, ascends_set}
use Rattle.dep_hub.proofs.HubLemmas.{comes_to, same_hub}
use Rattle.dep_hub.proofs.PendingLemmas.{any_set}
use Rattle.dep_hub.proofs.hub.Hub.arrive.Goals as goal
use Rattle.std.proofs.KnownBytes.{Keeps-refl}

pub returns-in_default : goal.returns-in_default
returns-in_default g c = record {
  arrival = record {
    absent = index_none c.args.connection c.args.self.now.connections.items (ap (place_of_number c.args.connection) (sym c.as_slice.ensures.value) ∙ (sym c.index_among.ensures.value ∙ c.in_default.is));
    same = same_hub c.args.self.now _ _ _;
    sends_nothing = Keeps-refl (g.O.Outlet.taken c.args.out.now);
  };
  turn = refl {a = c.args.self.now.last_turn};
}

pub returns : goal.returns
returns g c =
    let store = c.serve.new.store in
    record {
      arrival = comes_to g.A.Archive.condition c.args.self.now _ c.args.connection c.in-Some.i c.args.piece.now c.args.moment c.index_mut-kept.result.now c.serve.new.intake c.index_mut-kept.result.now.behind
          (ap (place_of_number c.args.connection) (sym c.as_slice.ensures.value) ∙ sym c.in-Some.ensures.value)
          c.index_mut-kept.ensures.value refl refl refl c.serve.ensures.keeps.limit c.serve.ensures.keeps.dead
          (g.met.A.Archive.honest_if_open store)
          (g.met.A.Archive.settled store)
          (g.O.Outlet.taken c.args.out.now) (g.O.Outlet.taken c.serve.new.out) (g.O.Outlet.failures c.args.out.now) (g.O.Outlet.failures c.serve.new.out) c.serve.result c.serve.ensures.there c.serve.ensures.served;
      turn = refl {a = c.args.self.now.last_turn};
    }

pub invariant_of-self-2 : goal.invariant_of-self-2
invariant_of-self-2 g c = record {
  ascends = ascends_set 0 c.args.self.now.next c.in-Some.i c.args.self.now.connections.items c.index_mut-kept.result.now
      (record { number = c.index_mut-kept.result.now.number; intake = c.serve.new.intake; behind = c.index_mut-kept.result.now.behind }) c.index_mut-kept.ensures.value refl c.args.self.now.ascends;
  busy = c.args.self.now.busy ∙ sym (any_set is_pending c.in-Some.i c.args.self.now.connections.items c.index_mut-kept.result.now
      (record { number = c.index_mut-kept.result.now.number; intake = c.serve.new.intake; behind = c.index_mut-kept.result.now.behind }) c.index_mut-kept.ensures.value refl);
  awaiting = c.args.self.now.awaiting ∙ sym (any_set is_waiting c.in-Some.i c.args.self.now.connections.items c.index_mut-kept.result.now
      (record { number = c.index_mut-kept.result.now.number; intake = c.serve.new.intake; behind = c.index_mut-kept.result.now.behind }) c.index_mut-kept.ensures.value refl);
}
