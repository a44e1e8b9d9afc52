-- What a host makes of the database of the hub that it serves from.
use Rattle.std.proofs.Common.{◌≡◌, ℕ, List, [], ◌∷◌, ◌++◌, append-nil, inl, inr, IsTrue, refl, sym, subst, ◌∙◌}
use Rattle.sqlite.specs.State as db
use Rattle.sqlite.specs.State.{HasCleanDisk}
use Rattle.sqlite.specs.Held.{Held, state}
use Rattle.sqlite_trees.specs.declared.store.Store.{Ghosts}
use Rattle.std.specs.Prelude.{Option}
use Rattle.dep_types.specs.State.{State, empty_state}
use Rattle.dep_types.specs.Config.{IsChecked}
use Rattle.dep_types.specs.declared.config.Config.{Config}
use Rattle.dep_transactions.specs.States.{StoreRepresents}
use Rattle.dep_schema.specs.declared.opening.OpenFault.{OpenFault}
use Rattle.dep_transactions.proofs.Transacting.{IsSettled, leaves_as_was}
use Rattle.dep_store.specs.Migrating.{KeepsDatabase}
use Rattle.dep_application.specs.Starting.{IsGivenOrStore, IsOpened, IsStore, OpeningLeaves, RefusesConfig, outcome_of_start}
use Rattle.dep_application.specs.declared.starting.StartFault.{StartFault}
use Rattle.dep_application.specs.declared.starting.StartFault.TheVariants as fault
use Rattle.dep_hub.specs.declared.faults.HubFault.TheVariants as refused_by
use Rattle.dep_exchange.specs.Records.{Record, Run, stops, stopped, first_world}
use Rattle.dep_exchange.specs.Records as records_of
use Rattle.dep_hub.specs.declared.hub.Hub.{Hub}
use Rattle.dep_slot.specs.Causes.{Causes}
use Rattle.dep_host.specs.Actions.{HostAction}
use Rattle.dep_host.specs.Runs.{RepresentsBehind}
use Rattle.dep_host.specs.Runs as runs
use Rattle.dep_program.specs.declared.outcome.Outcome.{Outcome}
use Rattle.dep_sockets.specs.Acceptors.{AcceptorState, EndsHub, WentOn}
use Rattle.dep_application.specs.declared.host_log.StandardErrorLog.{StandardErrorLog}
use Rattle.dep_configuration.specs.declared.configuration.ServerLimits.{ServerLimits}
use Rattle.dep_application.specs.Reserved.{reserved_call_log, reserved_condition}
use Rattle.dep_application.specs.Hosted.{HostStore, LedBy, IsHosted, HostsDatabase, hosts, host_limits, left_alone, not_checked, not_made, not_opened, unshown}

module _ {S : Type 0} (g : Ghosts S) (clean : (h : Held S) → IsTrue (state g h).is_open → HasCleanDisk (state g h))
    (settled : (h : Held S) → IsTrue (state g h).is_open → IsSettled (state g h)) (given : Held S) (config : Config) (opened : Hub (HostStore S))
    (is : IsOpened (reserved_condition g) config (state g given) opened) where
  led : (hub : Hub (HostStore S)) → hub.config ≡ config → (first : State) (records : List Record) (actions : List HostAction)
      → RepresentsBehind (reserved_condition g) hub first records (λ n. []) actions → LedBy config (state g hub.store.archive.store) first records actions
  led hub same first records actions it =
      let run : Run config first (records ++ it.more) it.represents.world = subst (λ (c : Config). Run c first (records ++ it.more) it.represents.world) same it.represents.run in
      record {
        more = it.more;
        holds = it.holds;
        follows = it.follows;
        world = it.represents.world;
        run = run;
        represents = it.represents.at.state.represents;
        stop = λ trees h.
            let l = leaves_as_was (state g hub.store.archive.store) it.represents.world.state (settled hub.store.archive.store it.represents.at.state.represents.represents.is_open) it.represents.at.state.represents trees h in
            (l.0, l.1, subst (λ (s : State). Run config first ((records ++ it.more) ++ stopped ∷ []) (first_world s)) (sym l.2) (stops run));
      }

  hosted_by : (store : HostStore S) (actions : List HostAction) → WentOn (reserved_condition g) opened store actions → IsHosted config (state g given) (state g store.archive.store) actions
  hosted_by store actions it =
      subst (λ (a : HostStore S). IsHosted config (state g given) (state g a.archive.store) actions) (sym it.over) (record {
        fresh = λ is_open none. led it.new (it.same_config ∙ is.configured) empty_state [] actions
            (it.behind is_open empty_state [] (is.fresh (it.honest (clean it.new.store.archive.store is_open)) none));
        again = λ is_open found left first records run. led it.new (it.same_config ∙ is.configured) first records actions
            (it.behind is_open first records (is.again (it.honest (clean it.new.store.archive.store is_open)) found left first records run));
      })

  module _ {R K P : Type 0} (unread : R → Option (List ℕ)) (taken : K → Option (List ℕ)) (held : P → Option (List ℕ)) (size : P → ℕ) (causes : Causes R K P) where
    -- what was done over the hub is done over its database
    pub over_hub : {before after : AcceptorState R K P} {limits : ServerLimits} {log_before log_after : StandardErrorLog} (store : HostStore S) (back : Held S) (actions : List HostAction) (outcome : Outcome) → back ≡ store.archive.store
        → EndsHub (reserved_condition g) (reserved_call_log g) unread taken held size causes unshown before after log_before log_after (host_limits limits) opened store actions outcome → WentOn (reserved_condition g) opened store actions
        → HostsDatabase g unread taken held size causes before after limits config given back outcome
    over_hub {before = before} {after = after} {limits = limits} {log_before = log_before} {log_after = log_after} store back actions outcome same it went =
        hosts opened store actions log_before log_after it is same (subst (λ (h : Held S). IsHosted config (state g given) (state g h) actions) (sym same) (hosted_by store actions went))

-- nobody was served
stays : (config : Config) (d : db.State) (s first : State) (records : List Record) → IsSettled d → StoreRepresents d s → Run config first records (first_world s) → LedBy config d first records []
stays config d s first records settled represents went =
    let same : records ≡ records ++ [] = sym (append-nil records) in
    record {
      more = [];
      holds = λ n. [];
      follows = runs.begins;
      world = first_world s;
      run = subst (λ (all : List Record). Run config first all (first_world s)) same went;
      represents = represents;
      stop = λ trees h.
          let l = leaves_as_was d s settled represents trees h in (
            l.0,
            l.1,
            subst (λ (left : State). Run config first ((records ++ []) ++ stopped ∷ []) (first_world left)) (sym l.2)
                (stops (subst (λ (all : List Record). Run config first all (first_world s)) same went)),
          );
    }

module _ {S R K P : Type 0} (g : Ghosts S) (unread : R → Option (List ℕ)) (taken : K → Option (List ℕ)) (held : P → Option (List ℕ)) (size : P → ℕ) (causes : Causes R K P)
    (clean : (h : Held S) → IsTrue (state g h).is_open → HasCleanDisk (state g h)) (settled : (h : Held S) → IsTrue (state g h).is_open → IsSettled (state g h))
    (config : Config) (given back : Held S) where
  unserved : IsStore (state g given) (state g back) → IsHosted config (state g given) (state g back) []
  unserved kept = record {
    fresh = λ is_open none. stays config (state g back) empty_state empty_state [] (settled back is_open) ((kept (clean back is_open)).0 none) records_of.begins;
    again = λ is_open found left first records went. stays config (state g back) found first records (settled back is_open) ((kept (clean back is_open)).1 found left) went;
  }

  without : {before after : AcceptorState R K P} {limits : ServerLimits} (why : StartFault) → ((f : OpenFault) → why ≡ fault.Open f → IsChecked config)
      → ((f : OpenFault) → why ≡ fault.Open f → IsTrue (state g back).is_open → KeepsDatabase (state g given) (state g back))
      → RefusesConfig config given (why, back) → (why ≡ fault.Hub refused_by.Memory → IsGivenOrStore g config given back) → OpeningLeaves config (state g given) (state g back) → after ≡ before
      → HostsDatabase g unread taken held size causes before after limits config given back (outcome_of_start why)
  without (fault.Open f) checked left refuses kept stop alone = not_opened (checked f refl) (left f refl) stop alone
  without (fault.Hub refused_by.Config) checked left refuses kept stop alone = let it = refuses refl in not_checked it.0 it.1 alone
  without (fault.Hub refused_by.Memory) checked left refuses kept stop alone =
      elim (kept refl) [
        | inl same ↦ left_alone same alone
        | inr it ↦ not_made it.0 (unserved it.1) alone
      ]

  -- no hub was made
  pub without_hub : {before after : AcceptorState R K P} {limits : ServerLimits} (why : StartFault) → ((f : OpenFault) → why ≡ fault.Open f → IsChecked config)
      → ((f : OpenFault) → why ≡ fault.Open f → IsTrue (state g back).is_open → KeepsDatabase (state g given) (state g back))
      → RefusesConfig config given (why, back) → (why ≡ fault.Hub refused_by.Memory → IsGivenOrStore g config given back) → OpeningLeaves config (state g given) (state g back) → after ≡ before
      → (outcome : Outcome) → outcome ≡ outcome_of_start why → HostsDatabase g unread taken held size causes before after limits config given back outcome
  without_hub {before = before} {after = after} {limits = limits} why checked left refuses kept stop alone outcome same =
      subst (λ (o : Outcome). HostsDatabase g unread taken held size causes before after limits config given back o) (sym same) (without why checked left refuses kept stop alone)
