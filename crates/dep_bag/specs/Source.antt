-- What a source of bags shows of a state.
use Rattle.std.specs.Prelude.{◌≡◌, ℕ, List, Option, option_map, Result, OnOk, IfOk, IsTrue}
use Rattle.std.specs.Io.KnownBytes.{Appends}
use Rattle.std.specs.FinMap as map
use Rattle.dep_types.specs.State.{State}
use Rattle.dep_types.specs.Conditions.{Condition, Represents, HasCleanDisk, Leaves}
use Rattle.dep_types.specs.Rows.{object_view}
use Rattle.dep_types.specs.declared.rows.ObjectView.{ObjectView}

-- the view of the object with this number
abbrev pub view_at : State → ℕ → Option ObjectView
view_at s n = option_map (object_view n) (map.get s.objects n)

-- an Ok is just that
abbrev pub ReportsView : {E : Type 0} → State → ℕ → Result (Option ObjectView) E → Type 0
ReportsView s n result = IfOk result (λ view. view ≡ view_at s n)

-- where the disk told no lie that was taken as true, this is so of each state for which it stood
abbrev pub OfEachState : (old new : Condition) → (State → Type 0) → Type 0
OfEachState old new holds = HasCleanDisk new → (s : State) → Represents old s → holds s

-- an Ok leaves it at each of them
abbrev pub KeepsStanding : {X E : Type 0} → (old new : Condition) → Result X E → Type 0
KeepsStanding old new result = OfEachState old new (λ s. OnOk result (Represents new s))

-- these bytes were given to an outlet, and this is so of them in each state for which it stood
abbrev pub GivesFrom : (old new : Condition) → (taken takes : Option (List ℕ))
    → (State → (given : List ℕ) → Type 0) → Type 0
GivesFrom old new taken takes holds =
    (given : List ℕ) × Appends taken takes given × OfEachState old new (λ s. holds s given)

-- nothing was changed, whatever was answered
pub record StandsStill (old new : Condition) : Type 0 where
  pub honest_before : HasCleanDisk new → HasCleanDisk old
  pub open_before : IsTrue new.is_open → IsTrue old.is_open
  pub stays : IsTrue new.is_open → (s : State) → Represents old s → Represents new s
  pub stop : HasCleanDisk new → (s : State) → Represents old s → Leaves new (λ left. left ≡ s)
