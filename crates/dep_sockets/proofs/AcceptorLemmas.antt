-- What a host makes of the hub that it serves from.
use Rattle.std.proofs.Common.{◌≡◌, ℕ, Bool, true, false, List, [], append-nil, IsTrue, refl, sym, subst}
use Rattle.std.specs.Prelude.{Option}
use Rattle.dep_types.specs.State.{State}
use Rattle.dep_types.specs.Conditions.{Condition}
use Rattle.dep_exchange.specs.Records.{World, Record}
use Rattle.dep_hub.specs.Representing.{RepresentsAt, RepresentsAfter, IsClean}
use Rattle.dep_hub.specs.Holding.{RepresentsHolding, RepresentsHoldingAfter}
use Rattle.dep_hub.specs.declared.hub.Hub.{Hub}
use Rattle.dep_host.specs.declared.ending.Cause.TheVariants as cause
use Rattle.dep_host.specs.declared.serving.Ended.{Ended}
use Rattle.dep_host.specs.declared.serving.Ended.TheVariants as ended
use Rattle.dep_host.specs.Actions.{Position, position, HostAction}
use Rattle.dep_host.specs.Hosting.{comes, Steps, begins}
use Rattle.dep_host.specs.Runs.{RepresentsBehind}
use Rattle.dep_host.proofs.CloseLemmas.{steps_serve}
use Rattle.dep_host.specs.Runs as runs
use Rattle.dep_program.specs.declared.outcome.Outcome.{Outcome}
use Rattle.dep_sockets.specs.Outcomes.{outcome_at}
use Rattle.dep_host.specs.Coming.{PollCall}
use Rattle.dep_slot.specs.Causes.{Causes}
use Rattle.dep_host.specs.Meeting.{Met}
use Rattle.dep_slot.specs.Notes.{Note}
use Rattle.dep_host.specs.declared.host.Host.{Host}
use Rattle.dep_slot.specs.declared.limits.Limits.{Limits}
use Rattle.dep_exchange.specs.ArchiveCalls.{CallLog}
use Rattle.dep_sockets.specs.Acceptors.{AcceptorState, ServesHost, EndsHub, served, shut, stopped, broken_off, spent, not_begun, not_let_in, WentOn}

module _ {A R K S : Type 0} (condition : A → Condition) (unread : R → Option (List ℕ)) (taken : K → Option (List ℕ)) (held : S → Option (List ℕ)) where
  -- what a host makes: behind all records that its hub represented, it represents those of its actions
  abbrev MakesRuns : Type 0
  MakesRuns = (p q : Position A R K S) (actions : List HostAction) (first : State) (records : List Record) (kept : ℕ → List ℕ) → Steps condition unread taken held p actions q
      → RepresentsHoldingAfter condition p.hub first records kept → IsClean condition q.hub → RepresentsBehind condition q.hub first records kept actions

  -- a hub holds nothing where it stands
  abbrev HoldsNothing : Type 0
  HoldsNothing = (hub : Hub A) (w : World) → RepresentsAt condition hub w → RepresentsHolding condition hub w (λ n. [])

  holding : HoldsNothing → (hub : Hub A) (first : State) (records : List Record) → RepresentsAfter condition hub first records → RepresentsHoldingAfter condition hub first records (λ n. [])
  holding none hub first records it = record { world = it.world; run = it.run; at = none hub it.world it.at }

  went_from : (old : Hub A) (store : A) {actions : List HostAction} (p q : Position A R K S) → p.hub ≡ old → store ≡ q.hub.store → Steps condition unread taken held p actions q → MakesRuns → HoldsNothing → WentOn condition old store actions
  went_from old store {actions = actions} p q over left steps makes none =
      let kept = steps_serve condition unread taken held steps in
      subst (λ (h : Hub A). WentOn condition h store actions) over (record {
        new = q.hub;
        over = left;
        same_config = kept.config;
        honest = kept.honest;
        behind = λ is_clean first records at. makes p q actions first records (λ n. []) steps (holding none p.hub first records at) is_clean;
      })

  -- nothing was done
  went_nowhere : (old : Hub A) (store : A) → store ≡ old.store → HoldsNothing → WentOn condition old store []
  went_nowhere old store same none = record {
    new = old;
    over = same;
    same_config = refl;
    honest = λ honest. honest;
    behind = λ is_clean first records at. record {
      more = [];
      holds = λ n. [];
      follows = runs.begins;
      represents = subst (λ (all : List Record). RepresentsHoldingAfter condition old first all (λ n. [])) (sym (append-nil records)) (holding none old first records at);
    };
  }

  module _ {L : Type 0} (call_log : A → CallLog) (size : S → ℕ) (causes : Causes R K S) (notes : L → Option (List Note)) where
    -- nothing came meanwhile
    pub met_since : {reported mid after : Option (List (PollCall R K S))} {p q : Host A R K S} {l m : L} {actions : List HostAction} {most : ℕ} {end : Ended} → mid ≡ reported
        → Met condition call_log unread taken held size causes notes mid after p q l m actions most end → Met condition call_log unread taken held size causes notes reported after p q l m actions most end
    met_since {after = after} {p = p} {q = q} {l = l} {m = m} {actions = actions} {most = most} {end = end} same h =
        subst (λ (t : Option (List (PollCall R K S))). Met condition call_log unread taken held size causes notes t after p q l m actions most end) same h

    went_by : {before after : AcceptorState R K S} {l m : L} {limits : Limits} (old : Hub A) (store : A) {actions : List HostAction} {end : Ended}
        → ServesHost condition call_log unread taken held size causes notes before after l m limits old store actions end → MakesRuns → HoldsNothing → WentOn condition old store actions
    went_by old store it makes none = went_from old store (position it.first) (position it.last) it.over it.left it.met.steps makes none

    -- what was done, whatever it came to
    pub went_on : {before after : AcceptorState R K S} {l m : L} {limits : Limits} (old : Hub A) (store : A) {actions : List HostAction} {outcome : Outcome}
        → EndsHub condition call_log unread taken held size causes notes before after l m limits old store actions outcome → MakesRuns → HoldsNothing → WentOn condition old store actions
    went_on old store (served it over uncut) makes none = went_by old store it makes none
    went_on old store (shut it closed) makes none = went_by old store it makes none
    went_on old store (stopped it) makes none = went_by old store it makes none
    went_on old store (broken_off it cut) makes none = went_by old store it makes none
    went_on old store (spent it) makes none = went_by old store it makes none
    went_on old store (not_begun same alone) makes none = went_nowhere old store same none
    went_on old store (not_let_in same closed alone) makes none = went_nowhere old store same none

    -- what serving comes to, by why it ended
    ends_by : {before after : AcceptorState R K S} {l m : L} {limits : Limits} (old : Hub A) (store : A) {actions : List HostAction} (why : Ended)
        (it : ServesHost condition call_log unread taken held size causes notes before after l m limits old store actions why)
        → (why ≡ ended.Events → IsTrue after.is_over) → (why ≡ ended.Shut cause.Store → ¬ IsTrue (condition it.last.hub.store).is_open)
        → (is_cut : Bool) → is_cut ≡ after.is_cut → EndsHub condition call_log unread taken held size causes notes before after l m limits old store actions (outcome_at why is_cut)
    ends_by old store ended.Events it over closed false same = served it (over refl) (sym same)
    ends_by old store ended.Events it over closed true same = broken_off it (sym same)
    ends_by old store ended.Spent it over closed is_cut same = spent it
    ends_by old store (ended.Shut cause.Stop) it over closed is_cut same = stopped it
    ends_by old store (ended.Shut cause.Store) it over closed is_cut same = shut it (λ is_open. closed refl (subst (λ (s : A). IsTrue (condition s).is_open) it.left is_open))

    pub ends_at : {before after : AcceptorState R K S} {l m : L} {limits : Limits} (old : Hub A) (store : A) {actions : List HostAction} (why : Ended)
        (it : ServesHost condition call_log unread taken held size causes notes before after l m limits old store actions why)
        → (why ≡ ended.Events → IsTrue after.is_over) → (why ≡ ended.Shut cause.Store → ¬ IsTrue (condition it.last.hub.store).is_open)
        → (is_cut : Bool) → is_cut ≡ after.is_cut → (outcome : Outcome) → outcome ≡ outcome_at why is_cut
        → EndsHub condition call_log unread taken held size causes notes before after l m limits old store actions outcome
    ends_at {before = before} {after = after} {l = l} {m = m} {limits = limits} old store {actions = actions} why it over closed is_cut same outcome is =
        subst (λ (o : Outcome). EndsHub condition call_log unread taken held size causes notes before after l m limits old store actions o) (sym is) (ends_by old store why it over closed is_cut same)
