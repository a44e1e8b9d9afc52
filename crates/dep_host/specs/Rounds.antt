-- When a host ends that is shut.
use Rattle.std.specs.Prelude.{◌≡◌, ◌⊎◌, ℕ, ◌-◌, List, length, take, Bool, Option, None, Some, IfSome, IsNone, false}
use Rattle.std.specs.List.{All, Contains}
use Rattle.std.specs.List.Sorted.{IsNonDecreasing}
use Rattle.dep_host.specs.declared.ending.Shut.{Shut}
use Rattle.dep_slot.specs.declared.limits.Limits.{Limits}
use Rattle.dep_host.specs.declared.serving.Ended.{Ended}
use Rattle.dep_host.specs.declared.serving.Ended.TheVariants as ended
use Rattle.dep_slot.specs.ConnectionStates.{is_past}

-- an idle time has passed since a host was shut, if it is
abbrev pub is_overdue : Option Shut → (second : ℕ) → Limits → Bool
is_overdue None second limits = false
is_overdue (Some shut) second limits = is_past shut.second second limits

-- a host was shut at one of these seconds, or it is as it was
abbrev pub IsReported : (old new : Option Shut) → (rounds : List ℕ) → Type 0
IsReported old new rounds = (new ≡ old) ⊎ (IsNone old × IfSome new (λ shut. Contains rounds shut.second))

-- the rounds behind which it went on: all but the last, where it ended as it is shut
abbrev pub gone_on : Ended → List ℕ → List ℕ
gone_on ended.Events rounds = rounds
gone_on (ended.Shut cause) rounds = take (length rounds - 1) rounds
gone_on ended.Spent rounds = rounds

-- No round behind which a host went on was an idle time later than it was shut. These are the seconds
-- of its rounds, and of where it was told to stop.
pub record EndsInTime (rounds : List ℕ) (old new : Option Shut) (limits : Limits) (ended : Ended)
    : Type 0 where
  pub is_reported : IsReported old new rounds
  pub in_time : IsNonDecreasing rounds
      → All (λ second. is_overdue new second limits ≡ false) (gone_on ended rounds)
