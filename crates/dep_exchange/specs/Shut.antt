-- What an archive that a fault shut leaves, and what is sent over one.
use Rattle.std.specs.Prelude.{◌≡◌, ◌⊎◌, ◌↔◌, ℕ, zero, suc, Bool, true, false, List, [], ◌++◌, IsTrue}
use Rattle.dep_types.specs.State.{State}
use Rattle.dep_types.specs.Conditions.{Condition, HasCleanDisk}
use Rattle.dep_types.specs.Writing.{IsProperPrefix}
use Rattle.dep_exchange.specs.Machine.{continue_line, out_of_memory, store_fault, SendsUpTo}
use Rattle.dep_exchange.specs.declared.arrived.Arrived.{Arrived}
use Rattle.dep_exchange.specs.declared.arrived.Arrived.TheVariants.{Open as StaysOpen, Closed, Cut}

-- what a crash may leave of the later one it might have left of the earlier, for the same states
abbrev pub LeavesNoMore : (old new : Condition) → Type 0
LeavesNoMore old new = (image : new.Image) → new.may_leave image
    → (before : old.Image) × old.may_leave before
    × ((s : State) → old.is_left_as before s ↔ new.is_left_as image s)

-- where the earlier one was shut, and the disk has told no lie that was taken as true up to the later
abbrev pub IfShut : (old new : Condition) → Type 0 → Type 0
IfShut old new P = HasCleanDisk new → ¬ IsTrue old.is_open → P

-- What is returned of an archive: that it is open, unless its disk has told a lie that was taken as
-- true, or that it is shut.
abbrev pub ReportsOpen : Condition → Bool → Type 0
ReportsOpen c true = HasCleanDisk c → IsTrue c.is_open
ReportsOpen c false = ¬ IsTrue c.is_open

-- a client was sent `100 Continue`, so often
abbrev pub continues : ℕ → List ℕ
continues zero = []
continues (suc n) = continues n ++ continue_line

abbrev pub IsFixed : List ℕ → Type 0
IsFixed reply = (reply ≡ out_of_memory) ⊎ (reply ≡ store_fault)

-- what is sent behind that, by what the arrival returns
pub data EndsFixed : List ℕ → Arrived → Type 0 where
  -- nothing, and the connection waits or has ended
  waits : EndsFixed [] StaysOpen
  has_ended : EndsFixed [] Closed
  -- a fixed reply, whole or cut
  gives_up : {fixed sent : List ℕ} {answer : Arrived} → IsFixed fixed → SendsUpTo fixed sent answer
      → EndsFixed sent answer
  -- a part of a `100 Continue`
  cuts_continue : {part : List ℕ} → IsProperPrefix part continue_line → EndsFixed part Cut

-- A client is sent `100 Continue`, maybe more than once, and then a fixed reply at most: nothing of
-- what an archive keeps.
pub record SendsFixed (sent : List ℕ) (answer : Arrived) : Type 0 where
  pub times : ℕ
  pub last : List ℕ
  pub joined : sent ≡ continues times ++ last
  pub ends : EndsFixed last answer
