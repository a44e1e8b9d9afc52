use Rattle.std.proofs.Common.{refl, sym, ap, subst, ◌∙◌}
use Rattle.dep_hub.specs.Numbers.{place_of_number}
use Rattle.dep_hub.specs.Owed.{IsOwed}
use Rattle.dep_hub.specs.Claims.{is_any_pending, is_content, is_pending, is_waiting}
use Rattle.dep_hub.specs.RepresentsOwing.{behind_at}
use Rattle.dep_hub.specs.declared.connections.Connection.{Connection}
use Rattle.dep_hub.specs.declared.rest.Behind.{Behind}
use Rattle.dep_hub.specs.declared.sent_on.SentOn.TheVariants.{All, Broken as BrokenOff}
use Rattle.dep_hub.proofs.ConnectionLemmas.{ascends_set}
use Rattle.dep_hub.proofs.BehindLemmas.{all_sent, behind_none, behinds_stay, nothing_sent, sends_none, sends_told, then_no_wait}
use Rattle.dep_hub.proofs.PendingLemmas.{any_here, any_set, any_unset}
use Rattle.dep_hub.proofs.TurnLemmas.{one_at}
use Rattle.dep_hub.proofs.hub.Hub.send_on.Goals as goal

pub still_pending-self-requires : goal.still_pending-self-requires
still_pending-self-requires g c =
    let items = c.args.self.now.connections.items in
    let d : Connection = record { number = c.index_mut.result.now.number; intake = c.index_mut.result.now.intake; behind = c.left_of-left.result.0 } in
    let now = ap is_any_pending c.as_slice-in-Content.ensures.value in
    record {
      here = λ e. now ∙ any_here is_pending c.in-Some.i items d (rw c.as_slice.ensures.value at c.in-Some.ensures.within) e;
      others = λ before none. now ∙ any_unset is_pending c.in-Some.i items d none (sym c.args.self.now.busy ∙ before);
    }

pub invariant_of-self : goal.invariant_of-self
invariant_of-self g c =
    let items = c.args.self.now.connections.items in
    let kept = c.index_mut.result.now in
    let d : Connection = record { number = kept.number; intake = kept.intake; behind = c.left_of-left.result.0 } in
    let item = c.index_mut.ensures.value in
    let was = ap (λ (x : Connection). x.behind) (one_at items c.in-Some.i kept c.index.result.now (rw c.as_slice.ensures.value at c.in-Some.ensures.within) item c.index.ensures) ∙ c.in-Content.is in
    record {
      ascends = ascends_set 0 c.args.self.now.next c.in-Some.i items kept d item refl c.args.self.now.ascends;
      busy = c.still_pending-self.ensures ∙ ap is_any_pending c.as_slice-in-Content.ensures.value;
      awaiting = c.args.self.now.awaiting ∙ sym (any_set is_waiting c.in-Some.i items kept d item
          (ap is_waiting c.left_of-left.ensures.behind ∙ (then_no_wait c.in-Content.rest c.stream_on-streamed.result ∙ sym (ap is_waiting was))));
    }

-- there is no such connection
pub returns-in_default : goal.returns-in_default
returns-in_default g c =
    let old = c.args.self.now in
    let none = behind_none c.args.connection old.connections.items (ap (place_of_number c.args.connection) (sym c.as_slice.ensures.value) ∙ (sym c.index_among.ensures.value ∙ c.in_default.is)) in
    record {
      goes = record { config = refl {a = c.args.self.now.config}; next = refl {a = c.args.self.now.next}; clean = λ h. h; honest = λ h. h };
      sends = sends_none g.A.Archive.condition old old c.args.connection (behind_at old.connections.items c.args.connection) refl
          (λ m. refl) (behinds_stay c.args.connection old.connections.items) refl (g.met.A.Archive.settled old.store) refl
          All (g.O.Outlet.taken c.args.out.now) (g.O.Outlet.failures c.args.out.now)
          (λ s owed owes. subst (λ (x : Behind). IsOwed s x owed) none owes) (ap is_content none);
      turn = refl {a = c.args.self.now.last_turn};
    }

-- nothing is left
pub returns-in-Nothing : goal.returns-in-Nothing
returns-in-Nothing g c =
    let old = c.args.self.now in
    let all = all_sent c.index.result.now.behind c.in-Nothing.is in
    record {
      goes = record { config = refl {a = c.args.self.now.config}; next = refl {a = c.args.self.now.next}; clean = λ h. h; honest = λ h. h };
      sends = nothing_sent g.A.Archive.condition old old c.args.connection c.in-Some.i c.index.result.now
          (ap (place_of_number c.args.connection) (sym c.as_slice.ensures.value) ∙ sym c.in-Some.ensures.value) c.index.ensures refl refl refl (g.met.A.Archive.settled old.store)
          All (g.O.Outlet.taken c.args.out.now) (g.O.Outlet.failures c.args.out.now) all.0 all.1;
      turn = refl {a = c.args.self.now.last_turn};
    }

pub returns-in-Broken : goal.returns-in-Broken
returns-in-Broken g c =
    let old = c.args.self.now in
    record {
      goes = record { config = refl {a = c.args.self.now.config}; next = refl {a = c.args.self.now.next}; clean = λ h. h; honest = λ h. h };
      sends = nothing_sent g.A.Archive.condition old old c.args.connection c.in-Some.i c.index.result.now
          (ap (place_of_number c.args.connection) (sym c.as_slice.ensures.value) ∙ sym c.in-Some.ensures.value) c.index.ensures refl refl refl (g.met.A.Archive.settled old.store)
          BrokenOff (g.O.Outlet.taken c.args.out.now) (g.O.Outlet.failures c.args.out.now) (λ s owed owes. tt) (ap is_content c.in-Broken.is);
      turn = refl {a = c.args.self.now.last_turn};
    }

-- a content goes on
pub returns-in-Content : goal.returns-in-Content
returns-in-Content g c =
    let old = c.args.self.now in
    let kept = c.index_mut.result.now in
    let item = c.index_mut.ensures.value in
    let was = ap (λ (x : Connection). x.behind) (one_at old.connections.items c.in-Some.i kept c.index.result.now (rw c.as_slice.ensures.value at c.in-Some.ensures.within) item c.index.ensures) ∙ c.in-Content.is in
    let x = c.stream_on-streamed.ensures in
    record {
      goes = record { config = refl {a = c.args.self.now.config}; next = refl {a = c.args.self.now.next}; clean = x.does.was_open; honest = x.does.honest };
      sends = sends_told g.A.Archive.condition old _ c.args.connection c.in-Some.i kept
          (ap (place_of_number c.args.connection) (sym c.as_slice.ensures.value) ∙ sym c.in-Some.ensures.value) item refl c.in-Content.rest was
          (g.O.Outlet.taken c.args.out.now) (g.O.Outlet.taken c.stream_on-streamed.new.out) (g.O.Outlet.failures c.args.out.now) (g.O.Outlet.failures c.stream_on-streamed.new.out)
          x.few c.stream_on-streamed.result c.left_of-left.result.0 c.left_of-left.ensures.behind c.left_of-left.result.1 c.left_of-left.ensures.told refl x.streams x.does x.shut x.count;
      turn = refl {a = c.args.self.now.last_turn};
    }
