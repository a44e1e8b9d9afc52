-- What opening, serving and looking through a store make of its database.
use Rattle.std.proofs.Common.{◌≡◌, ℕ, List, [], ◌∷◌, ◌++◌, inl, inr, IsTrue, refl, sym, ap, subst, ◌∙◌}
use Rattle.sqlite.specs.State as db
use Rattle.sqlite.specs.State.{HasCleanDisk}
use Rattle.sqlite.specs.Held.{Held, state}
use Rattle.sqlite_trees.specs.declared.store.Store.{Ghosts}
use Rattle.dep_types.specs.State.{State, empty_state}
use Rattle.dep_types.specs.Config.{IsChecked}
use Rattle.dep_types.specs.declared.config.Config.{Config}
use Rattle.dep_schema.specs.Openable.{HoldsNone}
use Rattle.dep_transactions.specs.States.{StoreRepresents, IsLeftAs, DatabaseLeaves}
use Rattle.dep_transactions.proofs.Transacting.{IsSettled, leaves_as_was}
use Rattle.dep_schema.specs.declared.opening.OpenFault.{OpenFault}
use Rattle.dep_store.specs.HashingStores.{condition_with_hashes}
use Rattle.dep_store.specs.declared.archive.HashingStore.{HashingStore}
use Rattle.dep_store.specs.Migrating.{KeepsDatabase, OpenLeaves}
use Rattle.dep_application.specs.Starting.{IsGivenOrStore, IsStore, OpeningLeaves, RefusesConfig, outcome_of_start}
use Rattle.dep_application.specs.declared.starting.StartFault.{StartFault}
use Rattle.dep_application.specs.declared.starting.StartFault.TheVariants as fault
use Rattle.dep_exchange.specs.Records.{World, Record, Run, begins, stops, stopped, first_world}
use Rattle.dep_hub.specs.Representing.{RepresentsAfter, IsClean, IsHonest}
use Rattle.dep_hub.specs.declared.faults.HubFault.TheVariants as refused
use Rattle.dep_hub.specs.declared.hub.Hub.{Hub}
use Rattle.dep_commands.specs.Serves.{all_records_of, ServesAt}
use Rattle.dep_program.specs.declared.outcome.Outcome.{Outcome}
use Rattle.dep_application.specs.Databases.{IsKeptAsStore, LedTo, ServiceGoesOn, ServesDatabase, serves, not_bound, unchecked, left_alone, not_begun, not_opened}
use Rattle.dep_application.proofs.ReplayLemmas.{world_at_first}

-- a stop leaves of an opening for a hub what it leaves of an opening
pub opening_left : {config : Config} (old new : db.State) → OpeningLeaves config old new → OpenLeaves old new
opening_left old new leaves = record {
  fresh = leaves.fresh;
  found = λ clean is_open s left trees h.
      let l = leaves.again clean is_open s left s [] begins trees h in (l.0, l.1, l.2.0);
}

module _ {S : Type 0} (g : Ghosts S) (clean : (h : Held S) → IsTrue (state g h).is_open → HasCleanDisk (state g h))
    (settled : (h : Held S) → IsTrue (state g h).is_open → IsSettled (state g h)) (given : Held S) where
  module _ (config : Config) (opened : Hub (HashingStore S))
      (given_config : opened.config ≡ config)
      (fresh : IsHonest (condition_with_hashes g) opened → HoldsNone (state g given).now.trees → RepresentsAfter (condition_with_hashes g) opened empty_state [])
      (again : IsHonest (condition_with_hashes g) opened → (found : State) → IsLeftAs (state g given).now.trees found
      → (first : State) (records : List Record) → Run config first records (first_world found)
      → RepresentsAfter (condition_with_hashes g) opened first records) where
    led : (hub : Hub (HashingStore S)) → hub.config ≡ config → (first : State) (records : List Record)
        → RepresentsAfter (condition_with_hashes g) hub first records → LedTo config (state g hub.store.store) first records
    led hub same first records it =
        let run : Run config first records it.world = subst (λ (c : Config). Run c first records it.world) same it.run in
        record {
          world = it.world;
          run = run;
          represents = it.at.state.represents;
          stop = λ trees h.
              let l = leaves_as_was (state g hub.store.store) it.world.state (settled hub.store.store it.at.state.represents.represents.is_open) it.at.state.represents trees h in
              (l.0, l.1, subst (λ (s : State). Run config first (records ++ stopped ∷ []) (first_world s)) (sym l.2) (stops run));
        }

    -- what the hub went on with
    pub goes_on : (served : Hub (HashingStore S)) (more : List Record) → served.config ≡ opened.config
        → (IsHonest (condition_with_hashes g) served → IsHonest (condition_with_hashes g) opened)
        → (IsClean (condition_with_hashes g) served → (first : State) (records : List Record) → RepresentsAfter (condition_with_hashes g) opened first records
        → RepresentsAfter (condition_with_hashes g) served first (records ++ more))
        → ServiceGoesOn config (state g given) (state g served.store.store) more
    goes_on served more same honest adds = record {
      fresh = λ is_open none. led served (same ∙ given_config) empty_state more
          (adds is_open empty_state [] (fresh (honest (clean served.store.store is_open)) none));
      again = λ is_open found left first records run. led served (same ∙ given_config) first (records ++ more)
          (adds is_open first records (again (honest (clean served.store.store is_open)) found left first records run));
    }

    -- the hub that was opened represents the state that was found
    represents_first : (first : State) → RepresentsAfter (condition_with_hashes g) opened first [] → StoreRepresents (state g opened.store.store) first
    represents_first first it = subst (λ (w : World). StoreRepresents (state g opened.store.store) w.state) (world_at_first it.run refl) it.at.state.represents

    pub kept_by_hub : OpenLeaves (state g given) (state g opened.store.store) → IsKeptAsStore (state g given) (state g opened.store.store)
    kept_by_hub stop = record {
      fresh = λ is_open none. represents_first empty_state (fresh (clean opened.store.store is_open) none);
      found = λ is_open s left. represents_first s (again (clean opened.store.store is_open) s left s [] begins);
      stop = stop;
    }

    -- what a run at the port comes to
    pub served : IsChecked config → (count : ℕ) (hub : Hub (HashingStore S)) (back : Held S) (outcome : Outcome) → back ≡ hub.store.store → hub.config ≡ opened.config
        → (IsHonest (condition_with_hashes g) hub → IsHonest (condition_with_hashes g) opened) → OpenLeaves (state g given) (state g opened.store.store)
        → ServesAt (condition_with_hashes g) opened hub count outcome → ServesDatabase g config count given back outcome
    served checked count hub back outcome same same_config honest stop (inl (talks, are, these)) =
        subst (λ (h : Held S). ServesDatabase g config count given h outcome) (sym same)
        (serves talks outcome checked are these.sizes (goes_on hub (all_records_of talks) same_config honest these.adds))
    served checked count hub back outcome same same_config honest stop (inr (same_hub, fault)) =
        subst (λ (h : Held S). ServesDatabase g config count given h outcome) (sym (same ∙ ap (λ (h : Hub (HashingStore S)). h.store.store) same_hub))
        (subst (λ (o : Outcome). ServesDatabase g config count given opened.store.store o) (sym fault) (not_bound checked (kept_by_hub stop)))

module _ {S : Type 0} (g : Ghosts S) (given back : Held S) (clean : IsTrue (state g back).is_open → HasCleanDisk (state g back))
    (stop : OpenLeaves (state g given) (state g back)) where
  kept_as_store : IsStore (state g given) (state g back) → IsKeptAsStore (state g given) (state g back)
  kept_as_store kept = record {
    fresh = λ is_open. (kept (clean is_open)).0;
    found = λ is_open. (kept (clean is_open)).1;
    stop = stop;
  }

  -- no hub was made
  pub fails : (config : Config) (count : ℕ) (start : StartFault)
      → ((f : OpenFault) → start ≡ fault.Open f → IsChecked config)
      → ((f : OpenFault) → start ≡ fault.Open f → IsTrue (state g back).is_open → KeepsDatabase (state g given) (state g back))
      → RefusesConfig config given (start, back)
      → (start ≡ fault.Hub refused.Memory → IsGivenOrStore g config given back)
      → ServesDatabase g config count given back (outcome_of_start start)
  fails config count (fault.Open f) checked left refuses kept = not_opened (checked f refl) (record { kept = left f refl; stop = stop })
  fails config count (fault.Hub refused.Config) checked left refuses kept = let it = refuses refl in unchecked it.0 it.1
  fails config count (fault.Hub refused.Memory) checked left refuses kept =
      elim (kept refl) [
        | inl same ↦ left_alone same
        | inr it ↦ not_begun it.0 (kept_as_store it.1)
      ]

-- a store that was opened, and stays as it is
module _ (given mid new : db.State) (clean : IsTrue new.is_open → HasCleanDisk new) (honest : HasCleanDisk new → HasCleanDisk mid)
    (fresh : HasCleanDisk mid → HoldsNone given.now.trees → StoreRepresents mid empty_state)
    (found : HasCleanDisk mid → (s : State) → IsLeftAs given.now.trees s → StoreRepresents mid s) where
  pub kept_still : (IsTrue new.is_open → (s : State) → StoreRepresents mid s → StoreRepresents new s)
      → (HasCleanDisk new → (s : State) → StoreRepresents mid s → DatabaseLeaves new (λ left. left ≡ s)) → IsKeptAsStore given new
  kept_still carries stop = record {
    fresh = λ is_open none. carries is_open empty_state (fresh (honest (clean is_open)) none);
    found = λ is_open s left. carries is_open s (found (honest (clean is_open)) s left);
    stop = record {
      fresh = λ is_honest is_open none trees h.
          let l = stop is_honest empty_state (fresh (honest is_honest) none) trees h in
          inr (subst (λ (s : State). IsLeftAs trees s) l.2 l.1);
      found = λ is_honest is_open s left. stop is_honest s (found (honest is_honest) s left);
    };
  }
