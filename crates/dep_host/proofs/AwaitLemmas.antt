-- While a request waits that takes files, no content of these begins.
use Rattle.std.proofs.Common.{◌≡◌, ◌⊎◌, inl, inr, ℕ, ◌==◌, ◌+◌, Bool, true, false, if◌then◌else◌, List, Option, refl, sym, ap, subst, ◌∙◌, arith}
use Rattle.std.specs.Prelude.{IsTrue}
use Rattle.std.proofs.lemmas.Bool.{cases_eq, ne_eqb}
use Rattle.dep_types.specs.Conditions.{Condition, HasCleanDisk}
use Rattle.dep_hub.specs.Claims.{sends_of}
use Rattle.dep_hub.specs.Holding.{RepresentsHolding}
use Rattle.dep_exchange.specs.Records.{World}
use Rattle.dep_hub.specs.Representing.{IsClean}
use Rattle.dep_hub.specs.RepresentsOwing.{behind_at}
use Rattle.dep_hub.specs.WorkingAhead.{RestsAhead}
use Rattle.dep_hub.specs.declared.claim.Claim.TheVariants.{Takes}
use Rattle.dep_hub.specs.declared.claim.Files.{Files}
use Rattle.dep_hub.specs.declared.hub.Hub.{Hub}
use Rattle.dep_hub.specs.declared.rest.Behind.{Behind}
use Rattle.dep_hub.specs.declared.rest.Behind.TheVariants.{Nothing, Waits}
use Rattle.dep_hub.proofs.PreparingLemmas.{ahead_sends}
use Rattle.dep_hub.proofs.SourceLemmas.{kept_sends, unawaited_unsent}
use Rattle.dep_slot.specs.Slots.{SameBehind}
use Rattle.dep_host.specs.Actions.{Position, HostAction}
use Rattle.dep_host.specs.Hosting.{HostStep, refused, asks, comes, rests, offers, delays, sends, refuses, answers, leaves, Steps, begins, goes_on}
use Rattle.dep_host.specs.Laws.{StepsAwaiting, waits_first, waits_on}
use Rattle.dep_host.specs.Runs.{reply_count}
use Rattle.dep_host.proofs.CloseLemmas.{clean_before}
use Rattle.dep_host.proofs.OweLemmas.{replies_join}

module _ {A R K S : Type 0} (condition : A → Condition) (unread : R → Option (List ℕ)) (taken : K → Option (List ℕ)) (held : S → Option (List ℕ))
    (honest : (a : A) → IsTrue (condition a).is_open → HasCleanDisk (condition a)) where
  -- a content of these files is sent to a connection that was sent one before, and of which no item was answered
  abbrev pub SentBefore : Position A R K S → List HostAction → Files → (number : ℕ) → Type 0
  SentBefore p actions files number =
      (sends_of files (behind_at p.hub.connections.items number) ≡ true) × (reply_count number actions ≡ 0)

  same_before : (old new : Hub A) (files : Files) (k : ℕ) → behind_at new.connections.items k ≡ behind_at old.connections.items k
      → sends_of files (behind_at new.connections.items k) ≡ true → sends_of files (behind_at old.connections.items k) ≡ true
  same_before old new files k same is_sent = sym (ap (sends_of files) same) ∙ is_sent

  asked_before : (old new : Hub A) (files : Files) (k : ℕ) → SameBehind old new ⊎ RestsAhead condition old new
      → sends_of files (behind_at new.connections.items k) ≡ true → sends_of files (behind_at old.connections.items k) ≡ true
  asked_before old new files k (inl same) is_sent = same_before old new files k (same k) is_sent
  asked_before old new files k (inr ahead) is_sent = sym (ahead_sends condition old new files ahead k) ∙ is_sent

  -- of another connection than the one that changed, or of that one
  either_before : (old new : Hub A) (files : Files) (n k : ℕ) → ((m : ℕ) → (m ≡ n → ⊥) → behind_at new.connections.items m ≡ behind_at old.connections.items m)
      → (sends_of files (behind_at new.connections.items n) ≡ true → sends_of files (behind_at old.connections.items n) ≡ true)
      → sends_of files (behind_at new.connections.items k) ≡ true → sends_of files (behind_at old.connections.items k) ≡ true
  either_before old new files n k others here is_sent = elim (cases_eq k n) [
    | inl e ↦
        let was = here (subst (λ (m : ℕ). sends_of files (behind_at new.connections.items m) ≡ true) e is_sent) in
        subst (λ (m : ℕ). sends_of files (behind_at old.connections.items m) ≡ true) (sym e) was
    | inr ne ↦ same_before old new files k (others k ne) is_sent
  ]

  not_closed : (files : Files) (is_closed : Bool) (b : Behind) → sends_of files (if is_closed then Nothing else b) ≡ true → sends_of files b ≡ true
  not_closed files true b is_sent = cc is_sent
  not_closed files false b is_sent = is_sent

  step_begins_none : {p q : Position A R K S} {more : List HostAction} (w : World) (holds : ℕ → List ℕ) → RepresentsHolding condition p.hub w holds → HostStep condition unread taken held p q more
      → IsClean condition q.hub → (waiting : ℕ) (files : Files) → behind_at q.hub.connections.items waiting ≡ Waits (Takes files)
      → (k : ℕ) → sends_of files (behind_at q.hub.connections.items k) ≡ true → SentBefore p more files k
  step_begins_none {p = p} {q = q} w holds at (refused r) clean waiting files waits k is_sent = (same_before p.hub q.hub files k (r.behind k) is_sent, refl)
  step_begins_none {p = p} {q = q} w holds at (asks r) clean waiting files waits k is_sent = (asked_before p.hub q.hub files k r.behind is_sent, refl)
  step_begins_none {p = p} {q = q} w holds at (comes r) clean waiting files waits k is_sent = (same_before p.hub q.hub files k (r.behind k) is_sent, refl)
  step_begins_none {p = p} {q = q} w holds at (rests t r) clean waiting files waits k is_sent =
      (same_before p.hub q.hub files k (ap (λ (h : Hub A). behind_at h.connections.items k) r.same) is_sent, refl)
  step_begins_none {p = p} {q = q} w holds at (offers t o) clean waiting files waits k is_sent = (same_before p.hub q.hub files k (o.behind k) is_sent, refl)
  step_begins_none {p = p} {q = q} w holds at (refuses t r) clean waiting files waits k is_sent = (same_before p.hub q.hub files k (r.behind k) is_sent, refl)
  step_begins_none {p = p} {q = q} w holds at (delays {before = slot} t d) clean waiting files waits k is_sent =
      (either_before p.hub q.hub files slot.connection k d.keeps.others (kept_sends files p.hub q.hub slot.connection d.keeps) is_sent, refl)
  step_begins_none {p = p} {q = q} w holds at (sends {before = slot} t s) clean waiting files waits k is_sent =
      (either_before p.hub q.hub files slot.connection k s.sends.others (s.sends.of_same files) is_sent, refl)
  step_begins_none {p = p} {q = q} w holds at (answers {before = slot} t a) clean waiting files waits k is_sent = elim (cases_eq k slot.connection) [
    | inl e ↦ absurd (unawaited_unsent q.hub.connections.items (behind_at q.hub.connections.items slot.connection) waiting files
        (a.unawaited (honest q.hub.store clean) w holds at) waits (subst (λ (m : ℕ). sends_of files (behind_at q.hub.connections.items m) ≡ true) e is_sent))
    | inr ne ↦ (
      same_before p.hub q.hub files k (a.others k ne) is_sent,
      ap (λ (b : Bool). (if b then 1 else 0) + 0) (ne_eqb slot.connection k (λ e. ne (sym e))),
    )
  ]
  step_begins_none {p = p} {q = q} w holds at (leaves {slot = slot} r) clean waiting files waits k is_sent =
      (not_closed files (k == slot.connection) (behind_at p.hub.connections.items k) (sym (ap (sends_of files) (r.behind k)) ∙ is_sent), refl)

  pub as_steps : {waiting : ℕ} {files : Files} {m q : Position A R K S} {late : List HostAction} → StepsAwaiting condition unread taken held waiting files m late q → Steps condition unread taken held m late q
  as_steps waits_first = begins
  as_steps (waits_on s t waits) = goes_on (as_steps s) t

  -- where the hub represents a world behind all of these steps, so it is with all of them
  pub steps_begin_none : (waiting : ℕ) (files : Files) {m : Position A R K S} {late : List HostAction} {q : Position A R K S}
      → ((r : Position A R K S) (actions : List HostAction) → Steps condition unread taken held m actions r → IsClean condition r.hub → (w : World) × (holds : ℕ → List ℕ) × RepresentsHolding condition r.hub w holds)
      → StepsAwaiting condition unread taken held waiting files m late q → IsClean condition q.hub → (k : ℕ) → sends_of files (behind_at q.hub.connections.items k) ≡ true → SentBefore m late files k
  steps_begin_none waiting files represents waits_first clean k is_sent = (is_sent, refl)
  steps_begin_none waiting files represents (waits_on {actions = actions} {more = more} {p = p} s t waits) clean k is_sent =
      let was_clean = clean_before condition unread taken held t clean in
      let at = represents p actions (as_steps s) was_clean in
      let one = step_begins_none at.0 at.1 at.2 t clean waiting files waits k is_sent in
      let so_far = steps_begin_none waiting files represents s was_clean k one.0 in
      let a = replies_join k actions more in
      let none = so_far.1 in
      let no_more = one.1 in
      (so_far.0, omega (arith, a, none, no_more))
