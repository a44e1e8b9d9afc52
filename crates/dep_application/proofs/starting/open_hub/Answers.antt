use Rattle.std.proofs.Common.{◌≡◌, inl, inr, IsTrue, ap, refl, sym, subst, ◌∙◌, rules}
use Rattle.sqlite.specs.Held.{Held, state}
use Rattle.sqlite.specs.State.{HasCleanDisk}
use Rattle.dep_types.specs.Config.{IsChecked}
use Rattle.dep_types.specs.State.{empty_state}
use Rattle.dep_store.specs.Causes.{FailsToOpenTables}
use Rattle.dep_store.specs.Migrating.{OpenLeaves}
use Rattle.dep_transactions.specs.States.{StoreRepresents}
use Rattle.dep_exchange.specs.Records.{first_world}
use Rattle.dep_schema.specs.declared.opening.OpenFault.{OpenFault}
use Rattle.dep_hub.specs.declared.faults.HubFault.{HubFault}
use Rattle.dep_store.specs.declared.archive.HashingStore.{HashingStore}
use Rattle.dep_application.specs.declared.starting.StartFault.TheVariants as start
use Rattle.dep_store.proofs.Opened.{leaves_alone}
use Rattle.dep_application.proofs.StartingLemmas.{opening_leaves}
use Rattle.dep_application.proofs.starting.open_hub.Goals as goal

same_open : (a b : OpenFault) → start.Open a ≡ start.Open b → a ≡ b
same_open a b said = cc said

same_hub : (a b : HubFault) → start.Hub a ≡ start.Hub b → a ≡ b
same_hub a b said = cc said

other_fault : (a : HubFault) (b : OpenFault) → start.Hub a ≡ start.Open b → ⊥
other_fault a b said = cc said

-- the configuration is not checked
pub returns-in-Err : goal.returns-in-Err
returns-in-Err g c =
    let given = c.args.connection in
    let d = state g.S.Store given in
    let why = c.in-Err.fault in
    record {
      fresh = tt;
      again = tt;
      config = tt;
      checked = λ fault said. absurd (other_fault why fault said);
      next = tt;
      left = λ fault said. absurd (other_fault why fault said);
      reported = λ fault said. absurd (other_fault why fault said);
      known = λ clean said. absurd (other_fault why _ said);
      refused = λ said. (c.in-Err.ensures.refused (same_hub why _ said), refl);
      kept = λ said. inl refl;
      honest = λ honest. honest;
      clean = λ is_open. is_open;
      stop = opening_leaves c.args.config d d (leaves_alone d (λ is_open trees h. g.met.S.Store.settled given.store trees is_open h) (c.is_autocommit-between.ensures.settled (search rules)));
    }

pub returns-in-Ok-new : goal.returns-in-Ok-new
returns-in-Ok-new g c =
    let old = state g.S.Store c.args.connection in
    let did = c.in-Ok.ensures in
    let made = c.in-Ok-new.ensures in
    let begun = c.new.ensures in
    let same = ap (λ (a : HashingStore _). a.store) made.kept ∙ begun.store in
    record {
      fresh = λ honest none. made.represents empty_state (record {
        represents = subst (λ (h : Held _). StoreRepresents (state g.S.Store h) empty_state) (sym begun.store) (did.fresh (subst (λ (h : Held _). HasCleanDisk (state g.S.Store h)) same honest) none);
        hashed = begun.ahead empty_state;
      });
      again = λ honest found left first records run. made.again first records (first_world found) run (λ n. refl) (record {
        represents = subst (λ (h : Held _). StoreRepresents (state g.S.Store h) found) (sym begun.store) (did.found (subst (λ (h : Held _). HasCleanDisk (state g.S.Store h)) same honest) found left);
        hashed = begun.ahead found;
      });
      config = made.config;
      checked = made.checked;
      next = made.next;
      left = tt;
      reported = tt;
      known = tt;
      refused = tt;
      kept = tt;
      honest = λ honest. did.honest (subst (λ (h : Held _). HasCleanDisk (state g.S.Store h)) same honest);
      clean = λ is_open. did.«open» (subst (λ (h : Held _). IsTrue (state g.S.Store h).is_open) same is_open);
      stop = opening_leaves c.args.config old (state g.S.Store c.in-Ok-new.hub.store.store) (subst (λ (h : Held _). OpenLeaves old (state g.S.Store h)) (sym same) did.stop);
    }

pub returns-in-Err-new : goal.returns-in-Err-new
returns-in-Err-new g c =
    let old = state g.S.Store c.args.connection in
    let did = c.in-Ok.ensures in
    let refused = c.in-Err-new.ensures in
    let checked : IsChecked c.args.config = search rules in
    let same = c.close.ensures ∙ ap (λ (a : HashingStore _). a.store) refused.store ∙ c.new.ensures.store in
    record {
      fresh = tt;
      again = tt;
      config = tt;
      checked = λ fault said. absurd (other_fault c.in-Err-new.fault fault said);
      next = tt;
      left = λ fault said. absurd (other_fault c.in-Err-new.fault fault said);
      reported = λ fault said. absurd (other_fault c.in-Err-new.fault fault said);
      known = λ clean said. absurd (other_fault c.in-Err-new.fault _ said);
      refused = λ said. absurd (refused.refused (same_hub c.in-Err-new.fault _ said) checked);
      kept = λ said. inr (
        checked,
        λ honest.
            let is_honest = subst (λ (h : Held _). HasCleanDisk (state g.S.Store h)) same honest in (
              λ none. subst (λ (h : Held _). StoreRepresents (state g.S.Store h) empty_state) (sym same) (did.fresh is_honest none),
              λ found left. subst (λ (h : Held _). StoreRepresents (state g.S.Store h) found) (sym same) (did.found is_honest found left),
            ),
      );
      honest = λ honest. did.honest (subst (λ (h : Held _). HasCleanDisk (state g.S.Store h)) same honest);
      clean = λ is_open. did.«open» (subst (λ (h : Held _). IsTrue (state g.S.Store h).is_open) same is_open);
      stop = opening_leaves c.args.config old (state g.S.Store c.close.result) (subst (λ (h : Held _). OpenLeaves old (state g.S.Store h)) (sym same) did.stop);
    }

pub returns-in-Err-open : goal.returns-in-Err-open
returns-in-Err-open g c =
    let did = c.in-Err-open.ensures in
    let checked : IsChecked c.args.config = search rules in
    record {
      fresh = tt;
      again = tt;
      config = tt;
      checked = λ fault said. checked;
      next = tt;
      left = λ fault said. did.left;
      reported = λ fault said clean. subst (FailsToOpenTables g.S.Store c.args.connection c.in-Err-open.connection) (same_open c.in-Err-open.fault fault said) (did.reported clean);
      known = λ clean said. did.refused clean (same_open c.in-Err-open.fault _ said);
      refused = λ said. absurd (other_fault _ c.in-Err-open.fault (sym said));
      kept = λ said. absurd (other_fault _ c.in-Err-open.fault (sym said));
      honest = did.honest;
      clean = did.«open»;
      stop = opening_leaves c.args.config (state g.S.Store c.args.connection) (state g.S.Store c.in-Err-open.connection) did.stop;
    }
