use Rattle.std.proofs.Common.{◌≡◌, Bool, false, set, if◌then◌else◌, refl, sym, ap, subst, ◌∙◌}
use Rattle.std.proofs.lemmas.Bool.{eq-eqb}
use Rattle.dep_exchange.specs.Owing.{with_more}
use Rattle.dep_hub.specs.Owed.{IsOwed, bytes_later}
use Rattle.dep_hub.specs.Claims.{is_any_pending, is_any_waiting, is_awaited_by, is_pending, is_waiting}
use Rattle.dep_hub.specs.RepresentsOwing.{behind_at, is_looked_at}
use Rattle.dep_hub.specs.declared.rest.Behind.{Behind}
use Rattle.dep_exchange.specs.Sending.{outside}
use Rattle.dep_hub.proofs.ConnectionLemmas.{index_some, ascends_set}
use Rattle.dep_hub.proofs.HubLemmas.{stays_there}
use Rattle.dep_hub.proofs.HoldingLemmas.{comes_next}
use Rattle.dep_exchange.proofs.NextLemmas.{next_there, next_passes}
use Rattle.dep_hub.proofs.BehindLemmas.{behinds_are, others_are, owed_at, owed_later}
use Rattle.dep_hub.proofs.PendingLemmas.{any_here, any_unset, not_broken, not_looked, not_waiting}
use Rattle.dep_hub.proofs.SourceLemmas.{begins_unawaited}
use Rattle.dep_hub.proofs.hub.Hub.answer_at.Goals as goal

pub still_pending-self-requires-clause-here : goal.still_pending-self-requires-clause-here
still_pending-self-requires-clause-here g c e =
    ap is_any_pending c.as_slice.ensures.value
    ∙ any_here is_pending c.args.listed.index c.args.self.now.connections.items (record { number = c.index_mut-kept.result.now.number; intake = c.take_next-next.new.intake; behind = c.behind_of-behind.result }) c.requires.within e

pub still_pending-self-requires-clause-others : goal.still_pending-self-requires-clause-others
still_pending-self-requires-clause-others g c before none =
    let kept = c.index_mut-kept.result.now in
    ap is_any_pending c.as_slice.ensures.value
    ∙ any_unset is_pending c.args.listed.index c.args.self.now.connections.items (record { number = kept.number; intake = c.take_next-next.new.intake; behind = c.behind_of-behind.result }) none
    (sym c.args.self.now.busy ∙ before)

pub still_waiting-self-requires : goal.still_waiting-self-requires
still_waiting-self-requires g c before =
    let kept = c.index_mut-kept.result.now in
    ap is_any_waiting c.as_slice-2.ensures.value
    ∙ any_unset is_waiting c.args.listed.index c.args.self.now.connections.items (record { number = kept.number; intake = c.take_next-next.new.intake; behind = c.behind_of-behind.result })
    (ap is_waiting c.behind_of-behind.ensures ∙ not_waiting c.take_next-next.result.1) (sym c.args.self.now.awaiting ∙ before)

pub invariant_of-self : goal.invariant_of-self
invariant_of-self g c = record {
  ascends = ascends_set 0 c.args.self.now.next c.args.listed.index c.args.self.now.connections.items c.index_mut-kept.result.now
      (record { number = c.index_mut-kept.result.now.number; intake = c.take_next-next.new.intake; behind = c.behind_of-behind.result }) c.index_mut-kept.ensures.value refl c.args.self.now.ascends;
  busy = c.still_pending-self.ensures ∙ ap is_any_pending c.as_slice.ensures.value;
  awaiting = c.still_waiting-self.ensures ∙ ap is_any_waiting c.as_slice-2.ensures.value;
}

pub returns-clause-goes : goal.returns-clause-goes
returns-clause-goes g c =
    let y = c.take_next-next.ensures.owing in
    let old = outside (g.O.Outlet.taken c.args.out.now) (g.O.Outlet.failures c.args.out.now) (g.A.Archive.condition c.args.self.now.store) in
    let new = outside (with_more (g.O.Outlet.taken c.take_next-next.new.out) y.0) (g.O.Outlet.failures c.take_next-next.new.out) (g.A.Archive.condition c.take_next-next.new.store) in
    let passes = (next_passes c.args.self.now.config c.index_mut-kept.result.now.intake c.args.moment old new c.take_next-next.new.intake.place c.take_next-next.result.0 y.3.answers).1 in
    record { config = refl {a = c.args.self.now.config}; next = refl {a = c.args.self.now.next}; clean = passes.clean; honest = passes.honest }

pub returns-clause-there : goal.returns-clause-there
returns-clause-there g c =
    let index = c.requires.index in
    let y = c.take_next-next.ensures.owing in
    let old = outside (g.O.Outlet.taken c.args.out.now) (g.O.Outlet.failures c.args.out.now) (g.A.Archive.condition c.args.self.now.store) in
    let new = outside (with_more (g.O.Outlet.taken c.take_next-next.new.out) y.0) (g.O.Outlet.failures c.take_next-next.new.out) (g.A.Archive.condition c.take_next-next.new.store) in (
      (next_there c.args.self.now.config c.index_mut-kept.result.now.intake c.args.moment old new c.take_next-next.new.intake.place c.take_next-next.result.0 y.3.answers),
      stays_there c.args.listed.connection c.args.listed.index c.args.self.now.connections.items c.index_mut-kept.result.now index c.index_mut-kept.ensures.value c.take_next-next.new.intake c.behind_of-behind.result,
    )

pub returns-clause-replies : goal.returns-clause-replies
returns-clause-replies g c =
    let n = c.args.listed.connection in
    let items = c.args.self.now.connections.items in
    let index = c.requires.index in
    let kept = c.index_mut-kept.result.now in
    let b = c.behind_of-behind.result in
    let found = index_some n c.args.listed.index items kept index c.index_mut-kept.ensures.value in
    let free = c.requires.free kept.intake found.1 in
    let store = g.A.Archive.condition c.take_next-next.new.store in
    let y = c.take_next-next.ensures.owing in
    let behinds = behinds_are n c.args.listed.index items kept b index c.index_mut-kept.ensures.value c.take_next-next.new.intake _ refl in
    let here = behinds n ∙ (ap (λ (t : Bool). if t then b else behind_at items n) (eq-eqb n n refl) ∙ c.behind_of-behind.ensures) in
    record {
      now = y.2.0;
      appends = y.2.1;
      more = y.0;
      answers = comes_next g.A.Archive.condition c.args.self.now _ n c.args.listed.index kept c.take_next-next.new.intake b
          index c.index_mut-kept.ensures.value refl refl (g.met.A.Archive.settled c.take_next-next.new.store)
          (g.O.Outlet.taken c.args.out.now) (with_more (g.O.Outlet.taken c.take_next-next.new.out) y.0) (g.O.Outlet.failures c.args.out.now) (g.O.Outlet.failures c.take_next-next.new.out)
          c.args.moment y.3.keeps.limit y.3.keeps.dead c.take_next-next.result.0 y.3.answers;
      owes = λ honest s represents.
          owed_at s n items _ b behinds (bytes_later y.0)
          (subst (λ (later : Behind). IsOwed s later (bytes_later y.0)) (sym c.behind_of-behind.ensures)
          (owed_later store c.take_next-next.result.1 y.0 y.1 honest s represents));
      paid = free.0.0;
      prepared = free.0.1;
      let_go = ap is_looked_at here ∙ not_looked c.take_next-next.result.1;
      others = others_are n items _ b behinds;
      unawaited = λ honest w held at.
          subst (λ (x : Behind). is_awaited_by (set items c.args.listed.index (record { number = kept.number; intake = c.take_next-next.new.intake; behind = b })) x ≡ false) (sym here)
          (begins_unawaited c.args.self.now.config items kept.intake c.args.moment (g.A.Archive.condition c.args.self.now.store) store w.state honest at.state free.1
          c.args.listed.index kept (record { number = kept.number; intake = c.take_next-next.new.intake; behind = b }) c.index_mut-kept.ensures.value
          c.take_next-next.result.1 c.behind_of-behind.ensures c.take_next-next.ensures.begins);
    }

pub returns-clause-unbroken : goal.returns-clause-unbroken
returns-clause-unbroken g c broken =
    let n = c.args.listed.connection in
    let items = c.args.self.now.connections.items in
    let index = c.requires.index in
    let kept = c.index_mut-kept.result.now in
    let b = c.behind_of-behind.result in
    let behinds = behinds_are n c.args.listed.index items kept b index c.index_mut-kept.ensures.value c.take_next-next.new.intake _ refl in
    let here = behinds n ∙ (ap (λ (t : Bool). if t then b else behind_at items n) (eq-eqb n n refl) ∙ c.behind_of-behind.ensures) in
    not_broken c.take_next-next.result.1 (sym here ∙ broken)
