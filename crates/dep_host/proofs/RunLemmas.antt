-- What a host does makes a run.
use Rattle.std.proofs.Common.{◌≡◌, ℕ, List, [], ◌∷◌, ◌++◌, Option, sym, subst, append_assoc, IsTrue}
use Rattle.std.proofs.lemmas.List.{append-nil}
use Rattle.dep_types.specs.State.{State}
use Rattle.dep_types.specs.declared.config.Config.{Config}
use Rattle.dep_types.specs.Conditions.{Condition, Represents, HasCleanDisk}
use Rattle.dep_exchange.specs.Records.{Record, Connect, Arrive, Close, Line, Live, Absent, Run}
use Rattle.dep_hub.specs.Representing.{IsClean, intake_of}
use Rattle.dep_hub.specs.Holding.{KeepsHolding, RepresentsHoldingAfter, LineTransition, PartArrives, IsHeldAs, with_held}
use Rattle.dep_hub.specs.RepresentsOwing.{KeepsBack}
use Rattle.dep_hub.specs.declared.hub.Hub.{Hub}
use Rattle.dep_exchange.specs.declared.arrived.Arrived.{Arrived}
use Rattle.dep_host.proofs.CloseLemmas.{clean_before}
use Rattle.dep_host.specs.Actions.{Position, HostAction}
use Rattle.dep_host.specs.Hosting.{HostStep, refused, asks, comes, rests, offers, delays, sends, refuses, answers, leaves, HubStandsStill, Steps, begins, goes_on}
use Rattle.dep_host.specs.Runs.{Follows, begins as follows_none, opens, takes, replies, sends as follows_sent, declines, closes, RepresentsBehind}

-- a hub stands where it stood once an item was kept back
pub kept_back_still : {A : Type 0} (condition : A → Condition) (old new : Hub A) {taken takes : Option (List ℕ)} {failures failures_after : ℕ} (number : ℕ) → KeepsBack condition taken takes failures failures_after old new number → HubStandsStill condition old new
kept_back_still {A = A} condition old new number k = λ clean w kept h. record {
  state = subst (λ (s : A). Represents (condition s) w.state) (sym k.same_store) h.state;
  kept = λ m. subst (λ (c : Config). IsHeldAs c.max_upload (w.line m) (kept m) (intake_of new.connections.items m)) (sym k.same_config)
      (subst (λ (o : Option _). IsHeldAs old.config.max_upload (w.line m) (kept m) o) (sym (k.intakes m)) (h.kept m));
}

module _ {A R K S : Type 0} (condition : A → Condition) (unread : R → Option (List ℕ)) (taken : K → Option (List ℕ)) (held : S → Option (List ℕ))
    (honest : (a : A) → IsTrue (condition a).is_open → HasCleanDisk (condition a))
    (adds : (old new : Hub A) (n : ℕ) (offered : List ℕ) (moment : ℕ) (sent : List ℕ) (failures failures_after : ℕ) (answer : Arrived) (first : State)
    (records : List Record) (holds : ℕ → List ℕ) (h : RepresentsHoldingAfter condition old first records holds)
    (a : PartArrives condition old.config new n offered moment sent failures failures_after answer h.world holds)
    → new.config ≡ old.config → IsClean condition new
    → RepresentsHoldingAfter condition new first (records ++ record { event = Arrive n a.part moment; sent = sent } ∷ []) (with_held n a.rest holds))
    (connects : (old new : Hub A) (n : ℕ) (first : State) (records : List Record) (holds : ℕ → List ℕ) → RepresentsHoldingAfter condition old first records holds
    → new.config ≡ old.config → new.store ≡ old.store → LineTransition condition old new n (Live []) (λ bytes. bytes)
    → RepresentsHoldingAfter condition new first (records ++ record { event = Connect n; sent = [] } ∷ []) holds)
    (closed : (old new : Hub A) (n : ℕ) (first : State) (records : List Record) (holds : ℕ → List ℕ) → RepresentsHoldingAfter condition old first records holds
    → new.config ≡ old.config → new.store ≡ old.store → LineTransition condition old new n Absent (with_held n [])
    → RepresentsHoldingAfter condition new first (records ++ record { event = Close n; sent = [] } ∷ []) (with_held n [] holds)) where
  -- the hub keeps other bytes, over the same store
  moved : (old new : Hub A) (first : State) (records : List Record) (holds later : ℕ → List ℕ) → new.store ≡ old.store → new.config ≡ old.config
      → ((lines : ℕ → Line) → KeepsHolding condition old lines holds → KeepsHolding condition new lines later)
      → RepresentsHoldingAfter condition old first records holds → RepresentsHoldingAfter condition new first records later
  moved old new first records holds later store config keeps h = record {
    world = h.world;
    run = subst (λ (c : Config). Run c first records h.world) (sym config) h.run;
    at = record {
      state = subst (λ (s : A). Represents (condition s) h.world.state) (sym store) h.at.state;
      kept = keeps h.world.line h.at.kept;
    };
  }

  -- it stands where it stood
  stood_still : (old new : Hub A) (first : State) (records : List Record) (holds : ℕ → List ℕ) → HubStandsStill condition old new → new.config ≡ old.config → IsClean condition new
      → RepresentsHoldingAfter condition old first records holds → RepresentsHoldingAfter condition new first records holds
  stood_still old new first records holds still config clean h = record {
    world = h.world;
    run = subst (λ (c : Config). Run c first records h.world) (sym config) h.run;
    at = still clean h.world holds h.at;
  }

  behind_still : (old new : Hub A) (first : State) (records : List Record) (holds : ℕ → List ℕ) (actions : List HostAction) (m : RepresentsBehind condition old first records holds actions)
      → RepresentsHoldingAfter condition new first (records ++ m.more) m.holds → RepresentsBehind condition new first records holds (actions ++ [])
  behind_still old new first records holds actions m represents = record {
    more = m.more;
    holds = m.holds;
    follows = subst (λ (l : List HostAction). Follows holds l m.more m.holds) (sym (append-nil actions)) m.follows;
    represents = represents;
  }

  behind_one : (new : Hub A) (first : State) (records : List Record) (holds later : ℕ → List ℕ) (actions : List HostAction) (more : List Record) (one : Record) → Follows holds actions (more ++ one ∷ []) later
      → RepresentsHoldingAfter condition new first ((records ++ more) ++ one ∷ []) later → RepresentsBehind condition new first records holds actions
  behind_one new first records holds later actions more one follows represents = record {
    more = more ++ one ∷ [];
    holds = later;
    follows = follows;
    represents = subst (λ (l : List Record). RepresentsHoldingAfter condition new first l later) (append_assoc records more (one ∷ [])) represents;
  }

  step_run : {p q : Position A R K S} {actions more : List HostAction} (first : State) (records : List Record) (holds : ℕ → List ℕ)
      → RepresentsBehind condition p.hub first records holds actions → HostStep condition unread taken held p q more → IsClean condition q.hub
      → RepresentsBehind condition q.hub first records holds (actions ++ more)
  step_run {p = p} {q = q} {actions = actions} first records holds m (refused r) clean =
      behind_still p.hub q.hub first records holds actions m (moved p.hub q.hub first (records ++ m.more) m.holds m.holds r.same_store r.same_config (λ lines h. r.keeps lines m.holds h) m.represents)
  step_run {p = p} {q = q} {actions = actions} first records holds m (asks r) clean = behind_still p.hub q.hub first records holds actions m (stood_still p.hub q.hub first (records ++ m.more) m.holds r.represents r.hub.same_config clean m.represents)
  step_run {p = p} {q = q} {actions = actions} first records holds m (rests t r) clean =
      behind_still p.hub q.hub first records holds actions m (subst (λ (h : Hub A). RepresentsHoldingAfter condition h first (records ++ m.more) m.holds) (sym r.same) m.represents)
  step_run {p = p} {q = q} first records holds m (comes {at = at} {slot = slot} r) clean =
      behind_one q.hub first records holds _ _ m.more _ (opens at slot.connection (unread slot.source) m.follows)
      (connects p.hub q.hub slot.connection first (records ++ m.more) m.holds m.represents r.same_config r.same_store r.moves)
  step_run {p = p} {q = q} first records holds m (offers {at = at} {before = before} t o) clean = record {
    more = m.more;
    holds = with_held before.connection (m.holds before.connection ++ o.piece) m.holds;
    follows = takes at before.connection o.piece m.follows;
    represents = moved p.hub q.hub first (records ++ m.more) m.holds (with_held before.connection (m.holds before.connection ++ o.piece) m.holds) o.same_store t.hub.same_config
        (λ lines h. o.holds lines m.holds h) m.represents;
  }
  step_run {p = p} {q = q} first records holds m (refuses {at = at} {moment = moment} {before = before} t r) clean =
      let came = r.answers.answers (honest q.hub.store clean) m.represents.world m.holds m.represents.at in
      behind_one q.hub first records holds _ _ m.more _ (declines at before.connection moment r.piece came.0.part came.0.rest r.answers.sent m.follows came.0.whole)
      (adds p.hub q.hub before.connection _ moment r.answers.sent _ _ _ first (records ++ m.more) m.holds m.represents came.0 t.hub.same_config clean)
  step_run {p = p} {q = q} first records holds m (answers {at = at} {moment = moment} {before = before} t a) clean =
      let came = a.answers.answers (honest q.hub.store clean) m.represents.world m.holds m.represents.at in
      behind_one q.hub first records holds _ _ m.more _ (replies at before.connection moment came.0.part came.0.rest a.now a.answers.sent m.follows came.0.whole)
      (adds p.hub q.hub before.connection _ moment a.answers.sent _ _ _ first (records ++ m.more) m.holds m.represents came.0 t.hub.same_config clean)
  step_run {p = p} {q = q} {actions = actions} first records holds m (delays t d) clean =
      behind_still p.hub q.hub first records holds actions m (stood_still p.hub q.hub first (records ++ m.more) m.holds (kept_back_still condition p.hub q.hub _ d.keeps) t.hub.same_config clean m.represents)
  step_run {p = p} {q = q} first records holds m (sends {at = at} {before = before} t s) clean = record {
    more = m.more;
    holds = m.holds;
    follows = follows_sent at before.connection s.sends.sent s.answer m.follows;
    represents = stood_still p.hub q.hub first (records ++ m.more) m.holds (s.sends.represents (honest q.hub.store clean)) t.hub.same_config clean m.represents;
  }
  step_run {p = p} {q = q} first records holds m (leaves {at = at} {second = second} {reason = reason} {slot = slot} r) clean =
      behind_one q.hub first records holds _ _ m.more _ (closes at slot.connection second reason m.follows)
      (closed p.hub q.hub slot.connection first (records ++ m.more) m.holds m.represents r.same_config r.same_store r.moves)

  pub steps_run : {p q : Position A R K S} {actions : List HostAction} (first : State) (records : List Record) (holds : ℕ → List ℕ)
      → Steps condition unread taken held p actions q → RepresentsHoldingAfter condition p.hub first records holds → IsClean condition q.hub
      → RepresentsBehind condition q.hub first records holds actions
  steps_run {p = p} first records holds begins h clean = record {
    more = [];
    holds = holds;
    follows = follows_none;
    represents = subst (λ (l : List Record). RepresentsHoldingAfter condition p.hub first l holds) (sym (append-nil records)) h;
  }
  steps_run first records holds (goes_on s t) h clean = step_run first records holds (steps_run first records holds s h (clean_before condition unread taken held t clean)) t clean
