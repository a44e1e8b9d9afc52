use Rattle.std.proofs.Common.{refl, sym, ap, subst, List, [], arith}
use Rattle.dep_hub.specs.Numbers.{Ascends}
use Rattle.dep_types.specs.declared.config.Config.{Config}
use Rattle.dep_exchange.specs.Records.{Line, Run, begins, first_world}
use Rattle.dep_hub.specs.Representing.{IsKeptAs, intake_of}
use Rattle.dep_hub.specs.declared.connections.Connection.{Connection}
use Rattle.dep_hub.specs.Claims.{is_any_pending, is_any_waiting}
use Rattle.dep_hub.proofs.hub.Hub.new.Goals as goal

pub returns-in-Err-Memory : goal.returns-in-Err-Memory
returns-in-Err-Memory g c = record { represents = tt; again = tt; config = tt; kept = tt; checked = tt; refused = λ e. cc; next = tt; store = refl }

pub returns-in_default : goal.returns-in_default
returns-in_default g c = record { represents = tt; again = tt; config = tt; kept = tt; checked = tt; refused = λ e. cc; next = tt; store = refl }

-- no connection is there yet
pub returns : goal.returns
returns g c = record {
  represents = λ first e. record {
    world = first_world first;
    run = begins;
    at = record {
      state = e;
      kept = λ n. subst (λ (cs : List Connection). IsKeptAs c.in-Ok-new.config.max_upload ((first_world first).line n) (intake_of cs n)) (sym c.new-2.ensures.items) tt;
    };
  };
  again = λ first records w run absent e. record {
    world = w;
    run = subst (λ (x : Config). Run x first records w) (sym c.in-Ok-new.ensures) run;
    at = record {
      state = e;
      kept = λ n. subst (λ (cs : List Connection). IsKeptAs c.in-Ok-new.config.max_upload (w.line n) (intake_of cs n)) (sym c.new-2.ensures.items)
          (subst (λ (l : Line). IsKeptAs c.in-Ok-new.config.max_upload l (intake_of [] n)) (sym (absent n)) tt);
    };
  };
  config = c.in-Ok-new.ensures;
  kept = refl;
  checked = c.in-Ok.ensures.checked;
  refused = tt;
  next = refl;
  store = tt;
}

pub invariant_of-result : goal.invariant_of-result
invariant_of-result g c = record {
  ascends = subst (λ (cs : List Connection). Ascends 0 cs 0) (sym c.new-2.ensures.items) (omega arith);
  busy = ap is_any_pending (sym c.new-2.ensures.items);
  awaiting = ap is_any_waiting (sym c.new-2.ensures.items);
}
