use Rattle.std.proofs.Common.{◌≡◌, ◌==◌, ℕ, Bool, if◌then◌else◌, refl, sym, ap, subst, ◌∙◌, List, [], None}
use Rattle.std.proofs.lemmas.Bool.{eq-eqb}
use Rattle.dep_hub.specs.Numbers.{place_of_number, Ascends}
use Rattle.dep_exchange.specs.Records.{Close}
use Rattle.dep_hub.specs.Representing.{intake_of}
use Rattle.dep_hub.specs.declared.connections.Connection.{Connection}
use Rattle.dep_hub.proofs.ConnectionLemmas.{index_none, intake_remove, ascends_remove}
use Rattle.dep_hub.proofs.HubLemmas.{closes_moves, moves_adds, absent_already, leaves_as_before}
use Rattle.dep_hub.proofs.HoldingLemmas.{closes_line}
use Rattle.dep_hub.specs.RepresentsOwing.{behind_at}
use Rattle.dep_hub.proofs.BehindLemmas.{behind_gone, behind_none, behind_remove}
use Rattle.dep_hub.specs.Claims.{is_any_pending, is_any_waiting}
use Rattle.dep_hub.proofs.hub.Hub.close.Goals as goal

-- it is taken out
pub returns-in-Some : goal.returns-in-Some
returns-in-Some g c =
    let index = ap (place_of_number c.args.connection) (sym c.as_slice.ensures.value) ∙ sym c.in-Some.ensures.value in
    let gone : (m : ℕ) → intake_of c.remove.new.self.items m ≡ (if m == c.args.connection then None else intake_of c.args.self.now.connections.items m) =
    λ m. ap (λ (cs : List Connection). intake_of cs m) c.remove.ensures.items ∙ intake_remove c.args.connection 0 c.args.self.now.next c.in-Some.i c.args.self.now.connections.items index c.args.self.now.ascends m in
    let moves = closes_moves g.A.Archive.condition c.args.self.now _ refl c.args.connection refl gone in
    record {
      adds = moves_adds g.A.Archive.condition c.args.self.now _ refl (Close c.args.connection) [] moves;
      moves = moves;
      holding = closes_line c.args.self.now.config.max_upload c.args.connection c.args.self.now.connections.items c.remove.new.self.items gone;
      gone = gone c.args.connection ∙ ap (λ (b : Bool). if b then None else intake_of c.args.self.now.connections.items c.args.connection) (eq-eqb c.args.connection c.args.connection refl);
      behind = λ m. ap (λ (cs : List Connection). behind_at cs m) c.remove.ensures.items
          ∙ behind_remove c.args.connection 0 c.args.self.now.next c.in-Some.i c.args.self.now.connections.items index c.args.self.now.ascends m;
      kept = record {
        config = refl {a = c.args.self.now.config};
        next = refl {a = c.args.self.now.next};
        store = refl {a = c.args.self.now.store};
        rests = leaves_as_before g.A.Archive.condition c.args.self.now _ refl (g.met.A.Archive.settled c.args.self.now.store);
      };
      turn = refl {a = c.args.self.now.last_turn};
    }

-- there is no such connection
pub returns-in_default : goal.returns-in_default
returns-in_default g c =
    let none = index_none c.args.connection c.args.self.now.connections.items (ap (place_of_number c.args.connection) (sym c.as_slice.ensures.value) ∙ (sym c.index_among.ensures.value ∙ c.in_default.is)) in
    let gone = absent_already c.args.connection c.args.self.now.connections.items none in
    let moves = closes_moves g.A.Archive.condition c.args.self.now c.args.self.now refl c.args.connection refl gone in
    record {
      adds = moves_adds g.A.Archive.condition c.args.self.now c.args.self.now refl (Close c.args.connection) [] moves;
      moves = moves;
      holding = closes_line c.args.self.now.config.max_upload c.args.connection c.args.self.now.connections.items c.args.self.now.connections.items gone;
      gone = none;
      behind = behind_gone c.args.connection c.args.self.now.connections.items
          (behind_none c.args.connection c.args.self.now.connections.items (ap (place_of_number c.args.connection) (sym c.as_slice.ensures.value) ∙ (sym c.index_among.ensures.value ∙ c.in_default.is)));
      kept = record {
        config = refl {a = c.args.self.now.config};
        next = refl {a = c.args.self.now.next};
        store = refl {a = c.args.self.now.store};
        rests = leaves_as_before g.A.Archive.condition c.args.self.now _ refl (g.met.A.Archive.settled c.args.self.now.store);
      };
      turn = refl {a = c.args.self.now.last_turn};
    }

pub invariant_of-self : goal.invariant_of-self
invariant_of-self g c = record {
  ascends = subst (λ (cs : List Connection). Ascends 0 cs c.args.self.now.next) (sym c.remove.ensures.items)
      (ascends_remove 0 c.args.self.now.next c.in-Some.i c.args.self.now.connections.items (rw c.as_slice.ensures.value at c.in-Some.ensures.within) c.args.self.now.ascends);
  busy = c.is_any_pending-self.ensures ∙ ap is_any_pending c.as_slice-in-Some.ensures.value;
  awaiting = c.is_any_waiting-self.ensures ∙ ap is_any_waiting c.as_slice-in-Some-2.ensures.value;
}
