use Rattle.std.proofs.Common.{refl, sym, ap, ◌∙◌}
use Rattle.dep_message.specs.Places.{shut_reading, place_with}
use Rattle.dep_hub.specs.Claims.{is_pending, is_waiting}
use Rattle.dep_hub.specs.Numbers.{place_of_number}
use Rattle.dep_hub.proofs.ConnectionLemmas.{index_none, ascends_set}
use Rattle.dep_hub.proofs.HubLemmas.{stays_there, none_there, not_absent, same_hub}
use Rattle.dep_hub.proofs.HoldingLemmas.{held_fed, refuses}
use Rattle.dep_exchange.proofs.NextLemmas.{open_there, runs_out}
use Rattle.dep_exchange.proofs.ShutLemmas.{there_sent}
use Rattle.dep_hub.proofs.BehindLemmas.{behind_as_was}
use Rattle.dep_hub.proofs.PendingLemmas.{any_set}
use Rattle.dep_hub.proofs.hub.Hub.offer.Goals as goal
use Rattle.std.proofs.KnownBytes.{Keeps-refl}

-- there is no such connection
pub returns-in_default : goal.returns-in_default
returns-in_default g c =
    let none = index_none c.args.connection c.args.self.now.connections.items (ap (place_of_number c.args.connection) (sym c.as_slice.ensures.value) ∙ (sym c.index_among.ensures.value ∙ c.in_default.is)) in
    record {
      kept = record { config = refl {a = c.args.self.now.config}; next = refl {a = c.args.self.now.next}; store = refl {a = c.args.self.now.store} };
      absent = λ _. refl;
      there = λ there. absurd (none_there _ none there);
      offers = record { absent = none; same = same_hub c.args.self.now _ _ _; sends_nothing = Keeps-refl (g.O.Outlet.taken c.args.out.now) };
      behind = λ m. refl;
      turn = refl {a = c.args.self.now.last_turn};
    }

-- the piece was taken
pub returns-in-Ok : goal.returns-in-Ok
returns-in-Ok g c =
    let index = ap (place_of_number c.args.connection) (sym c.as_slice.ensures.value) ∙ sym c.in-Some.ensures.value in
    record {
      kept = record { config = refl {a = c.args.self.now.config}; next = refl {a = c.args.self.now.next}; store = refl {a = c.args.self.now.store} };
      absent = λ none. absurd (not_absent c.args.connection c.in-Some.i c.args.self.now.connections.items c.index_mut-kept.result.now index c.index_mut-kept.ensures.value none);
      there = λ there. (
        open_there,
        stays_there c.args.connection c.in-Some.i c.args.self.now.connections.items c.index_mut-kept.result.now index c.index_mut-kept.ensures.value c.feed.new.self c.index_mut-kept.result.now.behind,
      );
      offers = record {
        holds = held_fed c.args.self.now.config.max_upload c.args.connection c.in-Some.i c.args.self.now.connections.items c.index_mut-kept.result.now c.feed.new.self c.index_mut-kept.result.now.behind
            index c.index_mut-kept.ensures.value c.args.piece.now c.in-Ok.ensures.ok;
        sends_nothing = Keeps-refl (g.O.Outlet.taken c.args.out.now);
        same_failures = refl;
      };
      behind = behind_as_was c.args.connection c.in-Some.i c.args.self.now.connections.items c.index_mut-kept.result.now index c.index_mut-kept.ensures.value c.feed.new.self;
      turn = refl {a = c.args.self.now.last_turn};
    }

-- memory ran out
pub returns-in-Err : goal.returns-in-Err
returns-in-Err g c =
    let index = ap (place_of_number c.args.connection) (sym c.as_slice.ensures.value) ∙ sym c.in-Some.ensures.value in
    let e = c.in-Err.ensures.err in
    record {
      kept = record { config = refl {a = c.args.self.now.config}; next = refl {a = c.args.self.now.next}; store = refl {a = c.args.self.now.store} };
      absent = λ none. absurd (not_absent c.args.connection c.in-Some.i c.args.self.now.connections.items c.index_mut-kept.result.now index c.index_mut-kept.ensures.value none);
      there = λ there. (
        there_sent c.give_up.ensures.sent.2,
        stays_there c.args.connection c.in-Some.i c.args.self.now.connections.items c.index_mut-kept.result.now index c.index_mut-kept.ensures.value c.give_up.new.intake c.index_mut-kept.result.now.behind,
      );
      offers = refuses g.A.Archive.condition c.args.self.now _ c.args.connection c.in-Some.i c.index_mut-kept.result.now c.give_up.new.intake c.index_mut-kept.result.now.behind
          index c.index_mut-kept.ensures.value refl refl (g.met.A.Archive.settled c.args.self.now.store)
          (g.O.Outlet.taken c.args.out.now) (g.O.Outlet.taken c.give_up.new.out) (g.O.Outlet.failures c.args.out.now) (g.O.Outlet.failures c.give_up.new.out) c.args.piece.now c.give_up.result
          (runs_out (place_with c.index_mut-kept.result.now.intake.place c.args.piece.now) (g.O.Outlet.taken c.args.out.now) (g.O.Outlet.taken c.give_up.new.out)
          (g.O.Outlet.failures c.args.out.now) (g.O.Outlet.failures c.give_up.new.out) (g.A.Archive.condition c.args.self.now.store) c.give_up.result e.1 c.give_up.ensures.sent c.give_up.ensures.cause)
          (there_sent c.give_up.ensures.sent.2) (c.give_up.ensures.shut ∙ ap shut_reading e.0);
      behind = behind_as_was c.args.connection c.in-Some.i c.args.self.now.connections.items c.index_mut-kept.result.now index c.index_mut-kept.ensures.value c.give_up.new.intake;
      turn = refl {a = c.args.self.now.last_turn};
    }

pub invariant_of-self : goal.invariant_of-self
invariant_of-self g c = record {
  ascends = ascends_set 0 c.args.self.now.next c.in-Some.i c.args.self.now.connections.items c.index_mut-kept.result.now
      (record { number = c.index_mut-kept.result.now.number; intake = c.feed.new.self; behind = c.index_mut-kept.result.now.behind }) c.index_mut-kept.ensures.value refl c.args.self.now.ascends;
  busy = c.args.self.now.busy ∙ sym (any_set is_pending c.in-Some.i c.args.self.now.connections.items c.index_mut-kept.result.now
      (record { number = c.index_mut-kept.result.now.number; intake = c.feed.new.self; behind = c.index_mut-kept.result.now.behind }) c.index_mut-kept.ensures.value refl);
  awaiting = c.args.self.now.awaiting ∙ sym (any_set is_waiting c.in-Some.i c.args.self.now.connections.items c.index_mut-kept.result.now
      (record { number = c.index_mut-kept.result.now.number; intake = c.feed.new.self; behind = c.index_mut-kept.result.now.behind }) c.index_mut-kept.ensures.value refl);
}

pub invariant_of-self-in-Err : goal.invariant_of-self-in-Err
invariant_of-self-in-Err g c = record {
  ascends = ascends_set 0 c.args.self.now.next c.in-Some.i c.args.self.now.connections.items c.index_mut-kept.result.now
      (record { number = c.index_mut-kept.result.now.number; intake = c.give_up.new.intake; behind = c.index_mut-kept.result.now.behind }) c.index_mut-kept.ensures.value refl c.args.self.now.ascends;
  busy = c.args.self.now.busy ∙ sym (any_set is_pending c.in-Some.i c.args.self.now.connections.items c.index_mut-kept.result.now
      (record { number = c.index_mut-kept.result.now.number; intake = c.give_up.new.intake; behind = c.index_mut-kept.result.now.behind }) c.index_mut-kept.ensures.value refl);
  awaiting = c.args.self.now.awaiting ∙ sym (any_set is_waiting c.in-Some.i c.args.self.now.connections.items c.index_mut-kept.result.now
      (record { number = c.index_mut-kept.result.now.number; intake = c.give_up.new.intake; behind = c.index_mut-kept.result.now.behind }) c.index_mut-kept.ensures.value refl);
}
