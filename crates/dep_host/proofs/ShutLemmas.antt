-- What a host does once it is shut.
use Rattle.std.proofs.Common.{◌≡◌, inl, inr, ℕ, true, false, List, [], ◌∷◌, ◌++◌, Option, None, Some, is_some, IfSome, sym, ap, subst, ◌∙◌}
use Rattle.dep_types.specs.Conditions.{Condition}
use Rattle.dep_hub.specs.Representing.{IsClean}
use Rattle.dep_host.specs.declared.ending.Cause.TheVariants.{Store}
use Rattle.dep_host.specs.declared.ending.Shut.{Shut}
use Rattle.dep_host.specs.Meeting.{IsShutBy}
use Rattle.dep_host.specs.Actions.{Position, HostAction, AreOutgoing, IsRightlyReported}
use Rattle.dep_host.specs.Hosting.{HostStep, refused, asks, comes, rests, offers, delays, sends, refuses, answers, leaves, Steps, begins, goes_on}
use Rattle.dep_host.proofs.CloseLemmas.{clean_before}

outgoing_append : (xs ys : List HostAction) → AreOutgoing xs → AreOutgoing ys → AreOutgoing (xs ++ ys)
outgoing_append [] ys h k = k
outgoing_append (d ∷ xs) ys h k = (h.0, outgoing_append xs ys h.1 k)

not_some : (o : Option Shut) (since : Shut) → is_some o ≡ false → o ≡ Some since → ⊥
not_some o since none reported = let bad : true ≡ false = sym (ap is_some reported) ∙ none in cc

-- what is shut for another cause than its store tells nothing of that
rightly_before : {X Y : Type 0} (o : Option Shut) → (Y → X) → IfSome o (λ shut. shut.cause ≡ Store → X → ⊥) → IfSome o (λ shut. shut.cause ≡ Store → Y → ⊥)
rightly_before None before h = tt
rightly_before (Some shut) before h = λ is y. h is (before y)

-- what isn't shut is rightly told, and what is shut for its store is told so
pub unreported_rightly : (X : Type 0) (o : Option Shut) → is_some o ≡ false → IfSome o (λ shut. shut.cause ≡ Store → X → ⊥)
unreported_rightly X None none = tt
unreported_rightly X (Some shut) none = absurd (let bad : true ≡ false = none in cc)

pub reported_by_store : (X : Type 0) (o : Option Shut) → IsShutBy o Store → IfSome o (λ shut. shut.cause ≡ Store → X → ⊥) → X → ⊥
reported_by_store X None shut h = absurd shut
reported_by_store X (Some shut) is h = h is

module _ {A R K S : Type 0} (condition : A → Condition) (unread : R → Option (List ℕ)) (taken : K → Option (List ℕ)) (held : S → Option (List ℕ)) where
  step_outgoing : {p q : Position A R K S} {more : List HostAction} (since : Shut) → HostStep condition unread taken held p q more → p.shut ≡ Some since → AreOutgoing more × (q.shut ≡ Some since)
  step_outgoing since (refused r) reported = (tt, r.same_shut ∙ reported)
  step_outgoing {p = p} {q = q} since (asks r) reported = elim r.reported [
    | inl same ↦ (tt, same ∙ reported)
    | inr first ↦ absurd (not_some p.shut since first.0 reported)
  ]
  step_outgoing {p = p} since (comes r) reported = absurd (not_some p.shut since r.is_open reported)
  step_outgoing since (rests t r) reported = (tt, t.same_shut ∙ reported)
  step_outgoing {p = p} since (offers t o) reported = absurd (not_some p.shut since o.read.is_open reported)
  step_outgoing {p = p} since (refuses t r) reported = absurd (not_some p.shut since r.read.is_open reported)
  step_outgoing since (answers t a) reported = ((tt, tt), t.same_shut ∙ reported)
  step_outgoing since (delays t d) reported = (tt, t.same_shut ∙ reported)
  step_outgoing since (sends t s) reported = ((tt, tt), t.same_shut ∙ reported)
  step_outgoing since (leaves r) reported = ((tt, tt), r.same_shut ∙ reported)

  pub steps_outgoing : {p q : Position A R K S} {actions : List HostAction} (since : Shut) → Steps condition unread taken held p actions q → p.shut ≡ Some since → AreOutgoing actions × (q.shut ≡ Some since)
  steps_outgoing since begins reported = (tt, reported)
  steps_outgoing since (goes_on {actions = actions} {more = more} s t) reported =
      let before = steps_outgoing since s reported in
      let after = step_outgoing since t before.1 in
      (outgoing_append actions more before.0 after.0, after.1)

  -- what it was told stays true
  rightly_kept : (p q : Position A R K S) → q.shut ≡ p.shut → (IsClean condition q.hub → IsClean condition p.hub) → IsRightlyReported condition p → IsRightlyReported condition q
  rightly_kept p q same before h = subst (λ (o : Option Shut). IfSome o (λ shut. shut.cause ≡ Store → IsClean condition q.hub → ⊥)) (sym same) (rightly_before p.shut before h)

  step_rightly : {p q : Position A R K S} {more : List HostAction} → HostStep condition unread taken held p q more → IsRightlyReported condition p → IsRightlyReported condition q
  step_rightly {p = p} {q = q} (refused r) h = rightly_kept p q r.same_shut (clean_before condition unread taken held (refused r)) h
  step_rightly {p = p} {q = q} (asks r) h = elim r.reported [
    | inl same ↦ rightly_kept p q same r.hub.clean h
    | inr first ↦ first.1
  ]
  step_rightly {p = p} {q = q} (comes {at = at} {slot = slot} r) h = rightly_kept p q r.same_shut (clean_before condition unread taken held (comes {at = at} {slot = slot} r)) h
  step_rightly {p = p} {q = q} (rests t r) h = rightly_kept p q t.same_shut t.hub.clean h
  step_rightly {p = p} {q = q} (offers t o) h = rightly_kept p q t.same_shut t.hub.clean h
  step_rightly {p = p} {q = q} (refuses t r) h = rightly_kept p q t.same_shut t.hub.clean h
  step_rightly {p = p} {q = q} (answers t a) h = rightly_kept p q t.same_shut t.hub.clean h
  step_rightly {p = p} {q = q} (delays t d) h = rightly_kept p q t.same_shut t.hub.clean h
  step_rightly {p = p} {q = q} (sends t s) h = rightly_kept p q t.same_shut t.hub.clean h
  step_rightly {p = p} {q = q} (leaves {at = at} {second = second} {reason = reason} {slot = slot} r) h = rightly_kept p q r.same_shut (clean_before condition unread taken held (leaves {at = at} {second = second} {reason = reason} {slot = slot} r)) h

  pub steps_rightly : {p q : Position A R K S} {actions : List HostAction} → Steps condition unread taken held p actions q → IsRightlyReported condition p → IsRightlyReported condition q
  steps_rightly begins h = h
  steps_rightly (goes_on s t) h = step_rightly t (steps_rightly s h)
