-- What stood when a connection was closed.
use Rattle.std.proofs.Common.{◌≡◌, ◌⊎◌, inl, inr, ℕ, List, [], ◌∷◌, ◌++◌, Option, None, Some, refl, sym, ap, subst, ◌∙◌, IsTrue}
use Rattle.std.proofs.lemmas.List.{append-nil}
use Rattle.dep_types.specs.Conditions.{Condition, HasCleanDisk}
use Rattle.dep_types.specs.State.{State}
use Rattle.dep_exchange.specs.Records.{Record}
use Rattle.dep_hub.specs.Holding.{RepresentsHoldingAfter}
use Rattle.dep_hub.specs.Representing.{IsClean, ServesAs}
use Rattle.dep_hub.specs.declared.hub.Hub.{Hub}
use Rattle.dep_slot.specs.declared.slot.Slot.{Slot}
use Rattle.dep_slot.specs.declared.log.Closing.{Closing}
use Rattle.dep_host.specs.Actions.{Position, slot_at, HostAction, Opens, Takes, Replies, Sends, Declines, Closes}
use Rattle.dep_host.specs.Hosting.{HostStep, refused, asks, comes, rests, offers, delays, sends, refuses, answers, leaves, Steps, begins, goes_on, LeadsTo}
use Rattle.dep_slot.specs.Slots.{HubStays}
use Rattle.dep_host.specs.Runs.{KeepsPromise, OwesNone, Promises}

tails : {X : Type 0} (x y : X) (xs ys : List X) → x ∷ xs ≡ y ∷ ys → (x ≡ y) × (xs ≡ ys)
tails x y xs ys h = (let same : x ∷ xs ≡ y ∷ ys = h in cc, let same : x ∷ xs ≡ y ∷ ys = h in cc)

not_none : {X : Type 0} (xs : List X) (x : X) (ys : List X) → [] ≡ xs ++ x ∷ ys → ⊥
not_none [] x ys e = let bad : [] ≡ x ∷ ys = e in cc
not_none (z ∷ xs) x ys e = let bad : [] ≡ z ∷ (xs ++ x ∷ ys) = e in cc

-- the last of a list is that one, or stands behind it
pub last_of : {X : Type 0} (ds : List X) (e : X) (done : List X) (d : X) (later : List X) → ds ++ e ∷ [] ≡ done ++ d ∷ later
    → ((ds ≡ done) × (e ≡ d)) ⊎ ((more : List X) × (ds ≡ done ++ d ∷ more))
last_of [] e [] d later h = inl (refl, (tails e d [] later h).0)
last_of [] e (x ∷ done) d later h = absurd (not_none done d later (tails e x [] _ h).1)
last_of (y ∷ ds) e [] d later h = inr (ds, ap (λ (z : _). z ∷ ds) (tails y d (ds ++ e ∷ []) later h).0)
last_of (y ∷ ds) e (x ∷ done) d later h =
    let same = tails y x (ds ++ e ∷ []) (done ++ d ∷ later) h in
    elim (last_of ds e done d later same.1) [
      | inl both ↦ inl (ap (λ (z : _). z ∷ ds) same.0 ∙ ap (λ (l : _). x ∷ l) both.0, both.1)
      | inr more ↦ inr (more.0, ap (λ (z : _). z ∷ ds) same.0 ∙ ap (λ (l : _). x ∷ l) more.1)
    ]

module _ {A R K S : Type 0} (condition : A → Condition) (unread : R → Option (List ℕ)) (taken : K → Option (List ℕ)) (held : S → Option (List ℕ)) where
  same_store_serves : (old new : Hub A) → new.store ≡ old.store → new.config ≡ old.config → ServesAs condition old new
  same_store_serves old new same config = record {
    config = config;
    clean = λ clean. subst (λ (s : A). IsTrue (condition s).is_open) same clean;
    honest = λ honest. subst (λ (s : A). HasCleanDisk (condition s)) same honest;
  }

  stays_serves : (old new : Hub A) → HubStays condition old new → ServesAs condition old new
  stays_serves old new h = record { config = h.same_config; clean = h.clean; honest = h.honest }

  -- the hub keeps its configuration, and was open before and its disk honest where they are so now
  step_serves : {p q : Position A R K S} {more : List HostAction} → HostStep condition unread taken held p q more → ServesAs condition p.hub q.hub
  step_serves {p = p} {q = q} (refused r) = same_store_serves p.hub q.hub r.same_store r.same_config
  step_serves {p = p} {q = q} (asks r) = stays_serves p.hub q.hub r.hub
  step_serves {p = p} {q = q} (comes r) = same_store_serves p.hub q.hub r.same_store r.same_config
  step_serves {p = p} {q = q} (rests t r) = stays_serves p.hub q.hub t.hub
  step_serves {p = p} {q = q} (offers t o) = stays_serves p.hub q.hub t.hub
  step_serves {p = p} {q = q} (refuses t r) = stays_serves p.hub q.hub t.hub
  step_serves {p = p} {q = q} (answers t a) = stays_serves p.hub q.hub t.hub
  step_serves {p = p} {q = q} (delays t d) = stays_serves p.hub q.hub t.hub
  step_serves {p = p} {q = q} (sends t s) = stays_serves p.hub q.hub t.hub
  step_serves {p = p} {q = q} (leaves r) = same_store_serves p.hub q.hub r.same_store r.same_config

  pub steps_serve : {p q : Position A R K S} {actions : List HostAction} → Steps condition unread taken held p actions q → ServesAs condition p.hub q.hub
  steps_serve begins = record { config = refl; clean = λ h. h; honest = λ h. h }
  steps_serve (goes_on s t) =
      let before = steps_serve s in
      let after = step_serves t in
      record { config = after.config ∙ before.config; clean = λ h. before.clean (after.clean h); honest = λ h. before.honest (after.honest h) }

  pub clean_before : {p q : Position A R K S} {more : List HostAction} → HostStep condition unread taken held p q more → IsClean condition q.hub → IsClean condition p.hub
  clean_before s clean = (step_serves s).clean clean

  -- where the host stood when a connection was closed, which sat there
  pub record Stood (p : Position A R K S) (done : List HostAction) (at n : ℕ) : Type 0 where
    pub where_ : Position A R K S
    pub steps : Steps condition unread taken held p done where_
    pub clean : IsClean condition where_.hub
    pub slot : Slot R K S
    pub sat : slot_at at where_.slots ≡ Some slot
    pub number : slot.connection ≡ n

  -- behind a step of no closing it stood as before it
  another : {p : Position A R K S} {ds : List HostAction} (e : HostAction) (done later : List HostAction) (at n second : ℕ) (reason : Closing) → (e ≡ Closes at n second reason → ⊥)
      → ((more : List HostAction) → ds ≡ done ++ Closes at n second reason ∷ more → Stood p done at n) → ds ++ e ∷ [] ≡ done ++ Closes at n second reason ∷ later → Stood p done at n
  another {ds = ds} e done later at n second reason none before h = elim (last_of ds e done (Closes at n second reason) later h) [
    | inl both ↦ absurd (none both.1)
    | inr more ↦ before more.0 more.1
  ]

  stood_step : {p m q : Position A R K S} {ds more : List HostAction} (done later : List HostAction) (at n second : ℕ) (reason : Closing) → HostStep condition unread taken held m q more → IsClean condition q.hub
      → Steps condition unread taken held p ds m → ((later : List HostAction) → ds ≡ done ++ Closes at n second reason ∷ later → Stood p done at n)
      → ds ++ more ≡ done ++ Closes at n second reason ∷ later → Stood p done at n
  stood_step {ds = ds} done later at n second reason (refused r) clean s before h = before later (sym (append-nil ds) ∙ h)
  stood_step {ds = ds} done later at n second reason (asks r) clean s before h = before later (sym (append-nil ds) ∙ h)
  stood_step {ds = ds} done later at n second reason (rests t r) clean s before h = before later (sym (append-nil ds) ∙ h)
  stood_step {ds = ds} done later at n second reason (delays t d) clean s before h = before later (sym (append-nil ds) ∙ h)
  stood_step done later at n second reason (sends {at = place} {before = old} t it) clean s before h = another (Sends place old.connection it.sends.sent it.answer) done later at n second reason
      (λ is. let bad : Sends place old.connection it.sends.sent it.answer ≡ Closes at n second reason = is in cc) before h
  stood_step done later at n second reason (comes {at = place} {slot = slot} r) clean s before h = another (Opens place slot.connection (unread slot.source)) done later at n second reason
      (λ is. let bad : Opens place slot.connection (unread slot.source) ≡ Closes at n second reason = is in cc) before h
  stood_step done later at n second reason (offers {at = place} {before = old} t o) clean s before h = another (Takes place old.connection o.piece) done later at n second reason
      (λ is. let bad : Takes place old.connection o.piece ≡ Closes at n second reason = is in cc) before h
  stood_step done later at n second reason (refuses {at = place} {moment = moment} {before = old} t r) clean s before h =
      another (Declines place old.connection r.piece moment r.answers.sent) done later at n second reason
      (λ is. let bad : Declines place old.connection r.piece moment r.answers.sent ≡ Closes at n second reason = is in cc) before h
  stood_step done later at n second reason (answers {at = place} {moment = moment} {before = old} t a) clean s before h =
      another (Replies place old.connection moment a.now a.answers.sent) done later at n second reason
      (λ is. let bad : Replies place old.connection moment a.now a.answers.sent ≡ Closes at n second reason = is in cc) before h
  stood_step {p = p} {m = m} {ds = ds} done later at n second reason (leaves {at = place} {second = when} {reason = why} {slot = slot} r) clean s before h =
      elim (last_of ds (Closes place slot.connection when why) done (Closes at n second reason) later h) [
        | inl both ↦ record {
          where_ = m;
          steps = subst (λ (l : List HostAction). Steps condition unread taken held p l m) both.0 s;
          clean = clean_before (leaves {at = place} {second = when} {reason = why} {slot = slot} r) clean;
          slot = slot;
          sat = subst (λ (k : ℕ). slot_at k m.slots ≡ Some slot) (let same : Closes place slot.connection when why ≡ Closes at n second reason = both.1 in cc) r.sat;
          number = let same : Closes place slot.connection when why ≡ Closes at n second reason = both.1 in cc;
        }
        | inr more ↦ before more.0 more.1
      ]

  pub stood : {p q : Position A R K S} {actions : List HostAction} (done later : List HostAction) (at n second : ℕ) (reason : Closing) → Steps condition unread taken held p actions q → IsClean condition q.hub
      → actions ≡ done ++ Closes at n second reason ∷ later → Stood p done at n
  stood done later at n second reason begins clean h = absurd (not_none done (Closes at n second reason) later h)
  stood done later at n second reason (goes_on s t) clean h = stood_step done later at n second reason t clean s (λ more e. stood done more at n second reason s (clean_before t clean) e) h

  -- a host that goes on keeps its promise, where that holds of each stretch
  pub promised : (keeps : (p q : Position A R K S) (actions : List HostAction) (first : State) (before : List Record) → ((at : ℕ) → slot_at at p.slots ≡ None)
      → OwesNone p.hub → RepresentsHoldingAfter condition p.hub first before (λ n. []) → Steps condition unread taken held p actions q → IsClean condition q.hub → KeepsPromise condition unread taken held q first before actions)
      → (p q : Position A R K S) → LeadsTo condition unread taken held p q → Promises condition unread taken held p q
  promised keeps p q goes = λ first before empty unowed represents clean. (
    goes.0,
    (
      goes.1,
      (
        keeps p q goes.0 first before empty unowed represents goes.1 clean,
        λ done later at number second reason e.
            let m = stood done later at number second reason goes.1 clean e in
            (m.where_, (m.steps, (keeps p m.where_ done first before empty unowed represents m.steps m.clean, (m.slot, (m.sat, m.number))))),
      ),
    ),
  )
