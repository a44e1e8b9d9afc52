use Rattle.std.proofs.Common.{◌≡◌, [], ap, inl, inr, refl, sym, subst, ◌∙◌, rules}
use Rattle.sqlite.specs.Held.{Held, state}
use Rattle.sqlite.specs.State.{HasCleanDisk}
use Rattle.dep_types.specs.Config.{IsChecked}
use Rattle.dep_types.specs.State.{State, empty_state}
use Rattle.dep_store.specs.HashingStores.{KeepsHashed}
use Rattle.dep_store.specs.Migrating.{OpenLeaves}
use Rattle.dep_transactions.specs.States.{StoreRepresents}
use Rattle.dep_schema.specs.declared.opening.OpenFault.{OpenFault}
use Rattle.dep_exchange.specs.Records.{begins, first_world}
use Rattle.dep_hub.specs.declared.faults.HubFault.{HubFault}
use Rattle.dep_store.specs.declared.archive.HashingStore.{HashingStore}
use Rattle.dep_application.specs.declared.starting.StartFault.TheVariants as start
use Rattle.dep_store.proofs.Opened.{leaves_alone}
use Rattle.dep_application.proofs.StartingLemmas.{opening_leaves}
use Rattle.dep_application.proofs.reserved_hub.open_reserved_hub.Goals as goal

other_fault : (a : HubFault) (b : OpenFault) → start.Hub a ≡ start.Open b → ⊥
other_fault a b said = cc said

same_hub : (a b : HubFault) → start.Hub a ≡ start.Hub b → a ≡ b
same_hub a b said = cc said

-- the configuration is not checked
pub returns-in-Err : goal.returns-in-Err
returns-in-Err g c =
    let given = c.args.connection in
    let d = state g.S.Store given in
    let why = c.in-Err.fault in
    record {
      opened = tt;
      checked = λ fault said. absurd (other_fault why fault said);
      left = λ fault said. absurd (other_fault why fault said);
      refused = λ said. (c.in-Err.ensures.refused (same_hub why _ said), refl);
      kept = λ said. inl refl;
      stop = opening_leaves c.args.config d d (leaves_alone d (λ is_open trees h. g.met.S.Store.settled given.store trees is_open h) (c.is_autocommit-between.ensures.settled (search rules)));
    }

pub returns-in-Ok-hub_over : goal.returns-in-Ok-hub_over
returns-in-Ok-hub_over g c =
    let did = c.in-Ok.ensures in
    let made = c.in-Ok-hub_over.ensures in
    let begun = c.new.ensures in
    let honest_before : HasCleanDisk (state g.S.Store c.in-Ok-hub_over.hub.store.archive.store) → HasCleanDisk (state g.S.Store c.in-Ok.store) =
    subst (λ (h : Held _). HasCleanDisk (state g.S.Store h)) (ap (λ (a : HashingStore _). a.store) made.kept ∙ begun.store) in
    let keeps : (s : State) → StoreRepresents (state g.S.Store c.in-Ok.store) s
    → KeepsHashed (state g.S.Store c.in-Ok-hub_over.hub.store.archive.store) c.in-Ok-hub_over.hub.store.archive.ahead s =
    λ s at. subst (λ (a : HashingStore _). KeepsHashed (state g.S.Store a.store) a.ahead s) (sym made.kept) (record {
      represents = subst (λ (h : Held _). StoreRepresents (state g.S.Store h) s) (sym begun.store) at;
      hashed = begun.ahead s;
    }) in
    record {
      opened = record {
        configured = made.configured;
        checked = made.checked;
        fresh = λ honest none. made.again empty_state [] (first_world empty_state) begins (λ n. refl) (keeps empty_state (did.fresh (honest_before honest) none));
        again = λ honest found left first records run. made.again first records (first_world found) run (λ n. refl) (keeps found (did.found (honest_before honest) found left));
      };
      checked = tt;
      left = tt;
      refused = tt;
      kept = tt;
      stop = tt;
    }

pub returns-in-Err-hub_over : goal.returns-in-Err-hub_over
returns-in-Err-hub_over g c =
    let old = state g.S.Store c.args.connection in
    let did = c.in-Ok.ensures in
    let why = c.in-Err-hub_over.fault in
    let refused = c.in-Err-hub_over.ensures in
    let checked : IsChecked c.args.config = search rules in
    let same = c.close.ensures ∙ ap (λ (a : HashingStore _). a.store) refused.handed ∙ c.new.ensures.store in
    record {
      opened = tt;
      checked = λ fault said. absurd (other_fault why fault said);
      left = λ fault said. absurd (other_fault why fault said);
      refused = λ said. absurd (refused.refused (same_hub why _ said) checked);
      kept = λ said. inr (
        checked,
        λ honest.
            let is_honest = subst (λ (h : Held _). HasCleanDisk (state g.S.Store h)) same honest in (
              λ none. subst (λ (h : Held _). StoreRepresents (state g.S.Store h) empty_state) (sym same) (did.fresh is_honest none),
              λ found left. subst (λ (h : Held _). StoreRepresents (state g.S.Store h) found) (sym same) (did.found is_honest found left),
            ),
      );
      stop = opening_leaves c.args.config old (state g.S.Store c.close.result) (subst (λ (h : Held _). OpenLeaves old (state g.S.Store h)) (sym same) did.stop);
    }

pub returns-in-Err-open : goal.returns-in-Err-open
returns-in-Err-open g c =
    let did = c.in-Err-open.ensures in
    let checked : IsChecked c.args.config = search rules in
    record {
      opened = tt;
      checked = λ fault said. checked;
      left = λ fault said. did.left;
      refused = λ said. absurd (other_fault _ c.in-Err-open.fault (sym said));
      kept = λ said. absurd (other_fault _ c.in-Err-open.fault (sym said));
      stop = opening_leaves c.args.config (state g.S.Store c.args.connection) (state g.S.Store c.in-Err-open.connection) did.stop;
    }
