use Rattle.std.proofs.Common.{◌≢◌, refl, sym, ap, subst, ◌∙◌}
use Rattle.dep_message.specs.Places.{Reading, place_with}
use Rattle.dep_exchange.specs.Sending.{outside}
use Rattle.dep_exchange.specs.Serving.{ServedSoFar, IsDeadIfShut, ServesOver, arrival_of}
use Rattle.dep_exchange.specs.declared.arrived.Arrived.TheVariants.{NoSuch}
use Rattle.dep_exchange.proofs.ServingLemmas.{served_none, fed_dead, serves_gives_up}
use Rattle.dep_exchange.proofs.NextLemmas.{answered_now, arrived_there, keeps_on, ends_dead, runs_out, served_on, serves_stop}
use Rattle.dep_exchange.proofs.ShutLemmas.{there_sent}
use Rattle.dep_exchange.proofs.serving.serve.Goals as goal

pub loop-init : goal.loop-init
loop-init g c =
    let at = (outside (g.O.Outlet.taken c.args.out.now) (g.O.Outlet.failures c.args.out.now) (g.A.Archive.condition c.args.store.now)) in
    let e = c.in_default.ensures.ok in
    record {
      served = subst (λ (r : Reading). ServedSoFar c.args.site.now (arrival_of c.args.intake.now c.args.piece.now.bytes.now c.args.piece.now.moment) at at r.place) (sym e) (served_none c.args.site.now (arrival_of c.args.intake.now c.args.piece.now.bytes.now c.args.piece.now.moment) at);
      keeps = record {
        limit = ap (λ (r : Reading). r.limit) e;
        dead = λ dead. subst IsDeadIfShut (sym e) (fed_dead c.args.intake.now c.args.piece.now.bytes.now dead);
      };
    }

pub returns-in-Err : goal.returns-in-Err
returns-in-Err g c =
    let store = g.A.Archive.condition c.args.store.now in
    let at = (outside (g.O.Outlet.taken c.args.out.now) (g.O.Outlet.failures c.args.out.now) store) in
    let came = arrival_of c.args.intake.now c.args.piece.now.bytes.now c.args.piece.now.moment in
    let e = c.in-Err.ensures.err in
    let shut = c.give_up.ensures.shut in
    record {
      served = serves_gives_up c.args.site.now came at at (place_with c.args.intake.now.place c.args.piece.now.bytes.now) (served_none c.args.site.now came at)
          (outside (g.O.Outlet.taken c.give_up.new.out) (g.O.Outlet.failures c.give_up.new.out) store) c.give_up.result (g.met.A.Archive.settled c.args.store.now)
          (runs_out (place_with c.args.intake.now.place c.args.piece.now.bytes.now) (g.O.Outlet.taken c.args.out.now) (g.O.Outlet.taken c.give_up.new.out)
          (g.O.Outlet.failures c.args.out.now) (g.O.Outlet.failures c.give_up.new.out) store c.give_up.result e.1 c.give_up.ensures.sent c.give_up.ensures.cause)
          c.give_up.new.intake.place (ap (λ (r : Reading). r.place) shut);
      keeps = record {
        limit = ap (λ (r : Reading). r.limit) shut ∙ ap (λ (r : Reading). r.limit) e.0;
        dead = λ dead. ends_dead c.feed.new.self c.give_up.new.intake shut;
      };
      there = there_sent c.give_up.ensures.sent.2;
    }

pub loop-preserved : goal.loop-preserved
loop-preserved g c =
    let taken = answered_now g.O.Outlet c.args.site.now c.loop.intake c.take_next-next.new.intake c.args.piece.now.moment c.loop.out c.take_next-next.new.out
    (g.A.Archive.condition c.loop.store) (g.A.Archive.condition c.take_next-next.new.store) c.take_next-next.result.0 c.take_next-next.result.1 (c.take_next-next.ensures.at_once refl) c.take_next-next.ensures.owing in
    record {
      served = served_on c.args.site.now (arrival_of c.args.intake.now c.args.piece.now.bytes.now c.args.piece.now.moment)
          (outside (g.O.Outlet.taken c.args.out.now) (g.O.Outlet.failures c.args.out.now) (g.A.Archive.condition c.args.store.now)) (outside (g.O.Outlet.taken c.loop.out) (g.O.Outlet.failures c.loop.out) (g.A.Archive.condition c.loop.store))
          (outside (g.O.Outlet.taken c.take_next-next.new.out) (g.O.Outlet.failures c.take_next-next.new.out) (g.A.Archive.condition c.take_next-next.new.store)) c.loop.intake c.loop.invariant.served c.loop.invariant.keeps.limit
          (rw c.in-More.is at taken.answers);
      keeps = keeps_on _ _ _ c.loop.invariant.keeps taken.keeps;
    }

pub returns-in_default-next : goal.returns-in_default-next
returns-in_default-next g c =
    let came = arrival_of c.args.intake.now c.args.piece.now.bytes.now c.args.piece.now.moment in
    let old = outside (g.O.Outlet.taken c.args.out.now) (g.O.Outlet.failures c.args.out.now) (g.A.Archive.condition c.args.store.now) in
    let mid = outside (g.O.Outlet.taken c.loop.out) (g.O.Outlet.failures c.loop.out) (g.A.Archive.condition c.loop.store) in
    let new = outside (g.O.Outlet.taken c.take_next-next.new.out) (g.O.Outlet.failures c.take_next-next.new.out) (g.A.Archive.condition c.take_next-next.new.store) in
    let at = c.take_next-next.new.intake.place in
    let taken = answered_now g.O.Outlet c.args.site.now c.loop.intake c.take_next-next.new.intake c.args.piece.now.moment c.loop.out c.take_next-next.new.out
    (g.A.Archive.condition c.loop.store) (g.A.Archive.condition c.take_next-next.new.store) c.take_next-next.result.0 c.take_next-next.result.1 (c.take_next-next.ensures.at_once refl) c.take_next-next.ensures.owing in
    record {
      served = subst (λ a. ServesOver c.args.site.now came old new at a) (sym c.arrived.ensures)
          (serves_stop c.args.site.now came old mid new c.loop.intake c.loop.invariant.served c.loop.invariant.keeps.limit c.take_next-next.result.0 at
          (g.met.A.Archive.settled c.take_next-next.new.store) c.loop.invariant.keeps.dead c.in_default-next.not-More taken.answers);
      keeps = keeps_on _ _ _ c.loop.invariant.keeps taken.keeps;
      there = subst (λ a. a ≢ NoSuch) (sym c.arrived.ensures) (arrived_there c.args.site.now c.loop.intake c.args.piece.now.moment mid new at c.take_next-next.result.0 taken.answers);
    }
