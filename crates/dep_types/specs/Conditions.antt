-- How an archive stands, as far as that can be said without knowing how it keeps what it was given.
use Rattle.std.specs.Prelude.{Bool, IsTrue}
use Rattle.dep_types.specs.State.{State}
use Rattle.dep_types.specs.Sound.{IsSound}

pub record Condition : Type 1 where
  -- no fault has shut it, and its disk has told no lie that was taken as true
  pub is_open : Bool
  -- its disk has told no lie that was taken as true; a fault may have shut it
  pub is_honest : Type 0
  -- it is open, and what it keeps represents this state
  pub keeps : State → Type 0
  -- what may lie on a disk, what a crash at this moment may leave there, and for which state
  -- that stands
  pub Image : Type 0
  pub may_leave : Image → Type 0
  pub is_left_as : Image → State → Type 0
  pub open_if_kept : (s : State) → keeps s → IsTrue is_open
  pub sound_if_kept : (s : State) → keeps s → IsSound s

-- the archive is open, and what it keeps represents the state
abbrev pub Represents : Condition → State → Type 0
Represents c s = c.keeps s

-- its disk has told no lie that was taken as true
abbrev pub HasCleanDisk : Condition → Type 0
HasCleanDisk c = c.is_honest

-- whatever a crash leaves now represents one of these states
abbrev pub Leaves : Condition → (State → Type 0) → Type 0
Leaves c allowed = (image : c.Image) → c.may_leave image
    → (left : State) × c.is_left_as image left × allowed left
