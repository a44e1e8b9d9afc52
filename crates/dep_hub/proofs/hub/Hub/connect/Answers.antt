use Rattle.std.proofs.Common.{rules, ◌≡◌, ◌≤◌, ◌+◌, false, ap, refl, sym, subst, ◌∙◌, ℕ, List, [], ◌∷◌, ◌++◌, arith}
use Rattle.std.specs.Prelude.{IsSome}
use Rattle.dep_types.specs.declared.config.Config.{Config}
use Rattle.dep_message.specs.Places.{Open}
use Rattle.dep_hub.specs.Numbers.{Ascends}
use Rattle.dep_exchange.specs.Records.{Connect}
use Rattle.dep_hub.specs.Representing.{IsKeptAs, intake_of}
use Rattle.dep_hub.specs.declared.connections.Connection.{Connection}
use Rattle.dep_hub.proofs.ConnectionLemmas.{absent_above, ascends_push, pushed_there}
use Rattle.dep_hub.proofs.HubLemmas.{connects_moves, moves_adds, leaves_as_before}
use Rattle.dep_hub.proofs.HoldingLemmas.{connects_line, holds_same}
use Rattle.dep_hub.specs.declared.rest.Behind.TheVariants.{Nothing}
use Rattle.dep_hub.specs.RepresentsOwing.{behind_at}
use Rattle.dep_hub.proofs.BehindLemmas.{behind_push}
use Rattle.dep_hub.specs.Claims.{is_any_pending, is_any_waiting, is_pending, is_waiting}
use Rattle.dep_hub.proofs.PendingLemmas.{any_push}
use Rattle.dep_hub.proofs.hub.Hub.connect.Goals as goal

pub invariant_of-self : goal.invariant_of-self
invariant_of-self g c = record {
  ascends = subst (λ (cs : List Connection). Ascends 0 cs c.args.self.now.next) (sym c.in-Err.ensures.items) c.args.self.now.ascends;
  busy = c.args.self.now.busy ∙ ap is_any_pending (sym c.in-Err.ensures.items);
  awaiting = c.args.self.now.awaiting ∙ ap is_any_waiting (sym c.in-Err.ensures.items);
}

pub invariant_of-self-2 : goal.invariant_of-self-2
invariant_of-self-2 g c =
    let d : Connection = record { number = c.args.self.now.next; intake = c.new.result; behind = Nothing } in
    record {
      ascends = subst (λ (cs : List Connection). Ascends 0 cs (d.number + 1)) (sym c.in_default.ensures.items) (ascends_push 0 c.args.self.now.connections.items d c.args.self.now.ascends);
      busy = c.args.self.now.busy ∙ sym (ap is_any_pending c.in_default.ensures.items ∙ any_push is_pending c.args.self.now.connections.items d refl);
      awaiting = c.args.self.now.awaiting ∙ sym (ap is_any_waiting c.in_default.ensures.items ∙ any_push is_waiting c.args.self.now.connections.items d refl);
    }

-- there are too many, or no number is left
pub returns-then-len-ge-MOST_CONNECTIONS : goal.returns-then-len-ge-MOST_CONNECTIONS
returns-then-len-ge-MOST_CONNECTIONS g c =
    let old = c.args.self.now in
    record {
      adds = tt;
      moves = tt;
      same = λ w at. at;
      holding = holds_same old.config.max_upload old.connections.items old.connections.items refl;
      config = refl {a = c.args.self.now.config};
      store = refl {a = c.args.self.now.store};
      next = tt;
      turn = refl {a = c.args.self.now.last_turn};
      full = search rules;
      room = tt;
      memory = λ e. cc;
      kept = refl {a = c.args.self.now.next};
      fresh = tt;
      there = tt;
      behind = λ m. refl;
      rests = leaves_as_before g.A.Archive.condition old _ refl (g.met.A.Archive.settled old.store);
    }

-- memory ran out
pub returns-in-Err : goal.returns-in-Err
returns-in-Err g c =
    let old = c.args.self.now in
    let items = c.in-Err.ensures.items in
    record {
      adds = tt;
      moves = tt;
      same = λ w at. record {
        state = at.state;
        kept = λ n. subst (λ (cs : List Connection). IsKeptAs old.config.max_upload (w.line n) (intake_of cs n)) (sym items) (at.kept n);
      };
      holding = holds_same old.config.max_upload old.connections.items c.push.new.self.items items;
      config = refl {a = c.args.self.now.config};
      store = refl {a = c.args.self.now.store};
      next = tt;
      turn = refl {a = c.args.self.now.last_turn};
      full = λ e. cc;
      room = tt;
      memory = search rules;
      kept = refl {a = c.args.self.now.next};
      fresh = tt;
      there = tt;
      behind = λ m. ap (λ (cs : List Connection). behind_at cs m) items;
      rests = leaves_as_before g.A.Archive.condition old _ refl (g.met.A.Archive.settled old.store);
    }

-- the connection is the last of them
pub returns : goal.returns
returns g c =
    let d : Connection = record { number = c.args.self.now.next; intake = c.new.result; behind = Nothing } in
    let above : c.args.self.now.next ≤ c.new-2.result = omega (arith, c.new-2.ensures) in
    let items : c.push.new.self.items ≡ c.args.self.now.connections.items ++ record {
      number = c.new-2.result;
      intake = record { limit = c.args.self.now.config.max_upload; place = Open false []; is_dead = false };
      behind = Nothing;
    } ∷ [] =
    c.in_default.ensures.items ∙ (λ i. c.args.self.now.connections.items ++ record {
      number = sym c.new-2.ensures i;
      intake = (c.new.ensures ∙ ap (λ (x : Config). record { limit = x.max_upload; place = Open false []; is_dead = false }) (c.config.ensures ∙ c.service.ensures)) i;
      behind = Nothing;
    } ∷ []) in
    let moves = connects_moves g.A.Archive.condition c.args.self.now _ refl c.new-2.result refl c.new-2.ensures items in
    record {
      adds = moves_adds g.A.Archive.condition c.args.self.now _ refl (Connect c.new-2.result) [] moves;
      moves = moves;
      same = tt;
      holding = connects_line c.args.self.now.config.max_upload c.new-2.result c.args.self.now.next c.args.self.now.connections.items c.push.new.self.items c.args.self.now.ascends c.new-2.ensures items;
      config = refl {a = c.args.self.now.config};
      store = refl {a = c.args.self.now.store};
      next = (c.new-2.ensures, refl);
      turn = refl {a = c.args.self.now.last_turn};
      full = search rules;
      room = search rules;
      memory = λ e. cc;
      kept = tt;
      fresh = absent_above 0 c.args.self.now.next c.new-2.result c.args.self.now.connections.items c.args.self.now.ascends above;
      there = subst (λ (n : ℕ). IsSome (intake_of c.push.new.self.items n)) (sym c.new-2.ensures)
          (subst (λ (cs : List Connection). IsSome (intake_of cs c.args.self.now.next)) (sym c.in_default.ensures.items)
          (pushed_there c.args.self.now.connections.items d c.args.self.now.ascends));
      behind = λ m. ap (λ (cs : List Connection). behind_at cs m) items ∙ behind_push c.args.self.now.connections.items (record {
        number = c.new-2.result;
        intake = record { limit = c.args.self.now.config.max_upload; place = Open false []; is_dead = false };
        behind = Nothing;
      }) m refl;
      rests = leaves_as_before g.A.Archive.condition c.args.self.now _ refl (g.met.A.Archive.settled c.args.self.now.store);
    }
