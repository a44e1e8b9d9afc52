-- What an intake gives.
use Rattle.std.specs.Prelude.{◌≡◌, ◌<◌, ℕ, List, ◌++◌, Bool, true, false}
use Rattle.dep_head.specs.Head.{IsHeadOfAnyTarget}
use Rattle.dep_message.specs.Heads.{closes}
use Rattle.dep_message.specs.Places.{Place, Open, Shut, Reading, left_to_read}
use Rattle.dep_message.specs.Stream.{Item, Fault, Continue, Request, FirstAt, Waits}
use Rattle.dep_message.specs.declared.intake.Step.{Step}
use Rattle.dep_message.specs.declared.intake.Step.TheVariants.{Continue100, Message, Refused, NeedMore, Dead}

-- the bytes begin with a text of this kind
abbrev pub BeginsWith : (List ℕ → Type 0) → List ℕ → Type 0
BeginsWith IsText bytes = (text : List ℕ) × (behind : List ℕ) × (bytes ≡ text ++ behind) × IsText text

-- a head stands first, but perhaps for its target
abbrev pub BeginsWithHead : List ℕ → Type 0
BeginsWithHead bytes = BeginsWith IsHeadOfAnyTarget bytes

-- so memory may be wanted, since a head is copied
abbrev pub HasFirstHead : Place → Type 0
HasFirstHead (Open continued bytes) = BeginsWithHead bytes
HasFirstHead Shut = ⊥

-- behind a fault the intake is dead, and behind a request it never is
abbrev pub is_fault : Item → Bool
is_fault (Fault refusal head_only) = true
is_fault Continue = false
is_fault (Request m) = false

-- the first item is taken
pub record Takes (old new : Reading) (item : Item) : Type 0 where
  pub first : FirstAt old.limit old.place item new.place
  pub limit : new.limit ≡ old.limit
  pub dead : new.is_dead ≡ is_fault item
  pub less : left_to_read new.place < left_to_read old.place

-- the step is the first item, which is taken, or why there is none, and then nothing is taken
abbrev pub GivesStep : Reading → Reading → Step → Type 0
GivesStep old new Continue100 = Takes old new Continue
GivesStep old new (Message m is_last) = Takes old new (Request m) × (is_last ≡ closes m.head)
GivesStep old new (Refused refusal head_only) = Takes old new (Fault refusal head_only)
GivesStep old new NeedMore = (new ≡ old) × Waits old.limit old.place × (old.is_dead ≡ false)
GivesStep old new Dead = (new ≡ old) × (old.place ≡ Shut) × (old.is_dead ≡ true)
