-- What a call on an archive does, from how the archive stood before it to how it stands behind it.
use Rattle.std.specs.Prelude.{◌≡◌, ◌≢◌, ◌⊎◌, ℕ, Bool, true, false, List, Option, None, IsTrue, Result, Ok, Err, OnOk, IfOk, OnErr}
use Rattle.std.specs.Io.KnownBytes.{Appends}
use Rattle.dep_types.specs.State.{State, tick}
use Rattle.dep_types.specs.Streams.{IsStreamed}
use Rattle.dep_types.specs.Writing.{HasRisen}
use Rattle.dep_types.specs.Conditions.{Condition, Represents, HasCleanDisk, Leaves}
use Rattle.dep_types.specs.Methods.{is_safe}
use Rattle.dep_types.specs.declared.config.Config.{Config}
use Rattle.dep_types.specs.declared.stream_fault.StreamFault.{StreamFault}
use Rattle.dep_types.specs.declared.stream_fault.StreamFault.TheVariants.{Writer}
use Rattle.dep_decisions.specs.declared.operation.Operation.{Operation}
use Rattle.dep_answers.specs.Steps.{Stepped}
use Rattle.dep_answers.specs.Performing.{IsReady}
use Rattle.dep_answers.specs.declared.performed.Performed.{Performed}
use Rattle.dep_exchange.specs.Shut.{LeavesNoMore, IfShut}

-- It goes on from the state to the next one, from each of which this holds, and returns this of it; or it
-- fails, and the state stays.
pub record TriesTo {A E : Type 0} (old new : Condition) (holds : State → Type 0)
    (reported : State → A → Type 0) (next : State → State) (result : Result A E) : Type 0 where
  -- an Ok has done it, unless the disk has told a lie that was taken as true
  pub ok : HasCleanDisk new → (s : State) → Represents old s → holds s
      → IfOk result (λ answer. reported s answer × Represents new (next s))
  -- an Err has changed nothing, while the archive is open
  pub err : IsTrue new.is_open → (s : State) → Represents old s → OnErr result (Represents new s)
  -- the disk was honest before where it is so now, and the archive open where it is so now
  pub honest : HasCleanDisk new → HasCleanDisk old
  pub was_open : IsTrue new.is_open → IsTrue old.is_open
  -- a crash leaves the one state or the other, whatever was answered
  pub stop : HasCleanDisk new → (s : State) → Represents old s → holds s
      → Leaves new (λ left. (left ≡ s) ⊎ (left ≡ next s))

-- this holds of every state
abbrev pub Always : State → Type 0
Always s = Unit {0}

-- the clock goes on to the moment, and never back, and the uploads that were left idle end; an Ok
-- returns the clock
abbrev pub Ticks : {E : Type 0} → (old new : Condition) → Config → (moment : ℕ) → Result ℕ E
    → Type 0
Ticks old new config moment result =
    TriesTo old new Always (λ s clock. clock ≡ (tick config s moment).clock)
    (λ s. tick config s moment) result

-- a step is made from each state of which this holds, and an Ok is the reply to it, which is ready
abbrev pub MakesStep : {E : Type 0} → (old new : Condition) → (holds : State → Type 0)
    → (stepped : State → Stepped) → Result Performed E → Type 0
MakesStep old new holds stepped result =
    TriesTo old new holds (λ s p. IsReady (stepped s) p) (λ s. (stepped s).state) result

-- this is returned of the state, which stays
abbrev pub Reports : {A E : Type 0} → (old new : Condition) → (reported : State → A → Type 0)
    → Result A E → Type 0
Reports old new reported result = TriesTo old new Always reported (λ s. s) result

-- the state stays, whatever is returned
abbrev pub KeepsState : {A E : Type 0} → (old new : Condition) → Result A E → Type 0
KeepsState old new result = Reports old new (λ s answer. Unit {0}) result

-- on an archive that was shut it fails, and a crash leaves what it could leave before
pub record FailsIfShut {A E : Type 0} (old new : Condition) (result : Result A E) : Type 0 where
  pub opened : HasCleanDisk new → OnOk result (IsTrue old.is_open)
  pub left : IfShut old new (LeavesNoMore old new)

-- Nothing is asked of what it keeps: it represents what it represented, while it is open, and a crash
-- leaves no more than before.
pub record KeepsAll (old new : Condition) : Type 0 where
  pub kept : IsTrue new.is_open → (s : State) → Represents old s → Represents new s
  pub honest : HasCleanDisk new → HasCleanDisk old
  pub was_open : IsTrue new.is_open → IsTrue old.is_open
  pub left : HasCleanDisk new → LeavesNoMore old new

-- What it keeps may be committed once more: it represents each state for which it stood, while it is open,
-- and a crash leaves just that state. Of one that was shut a crash leaves no more than before.
pub record KeepsEachState (old new : Condition) : Type 0 where
  pub kept : IsTrue new.is_open → (s : State) → Represents old s → Represents new s
  pub honest : HasCleanDisk new → HasCleanDisk old
  pub was_open : IsTrue new.is_open → IsTrue old.is_open
  pub stop : HasCleanDisk new → (s : State) → Represents old s → Leaves new (λ left. left ≡ s)
  pub left : IfShut old new (LeavesNoMore old new)

-- What work ahead commits. Where nothing is due nothing is committed, and nothing falls due. Where it is due,
-- nothing is committed, or what is kept once more, and then nothing is due.
abbrev pub CommitsIfDue : (due due_after : Bool) → (old new : Condition) → Type 0
CommitsIfDue false due_after old new = KeepsAll old new × (due_after ≡ false)
CommitsIfDue true due_after old new = KeepsAll old new ⊎ (due_after ≡ false)

-- the request was accepted, and is not one that only reads
abbrev pub IsAcceptedChange : {E : Type 0} → Operation → Result Performed E → Type 0
IsAcceptedChange op (Ok p) = (is_safe op.target.method ≡ false) × (p.refusal ≡ None)
IsAcceptedChange op (Err fault) = ⊥

-- it is due only where it was before, or behind an accepted change
abbrev pub FallsDue : {E : Type 0} → (due due_after : Bool) → Operation → Result Performed E → Type 0
FallsDue due due_after op result =
    due_after ≡ true → (due ≡ true) ⊎ IsAcceptedChange op result

-- an outlet took these bytes of the file of this number
abbrev pub Streams : {A : Type 0} → (old new : Condition) → (taken takes : Option (List ℕ))
    → (file : ℕ) → Result A StreamFault → Type 0
Streams old new taken takes file result =
    (sent : List ℕ) × Appends taken takes sent
    × (HasCleanDisk new → (s : State) → Represents old s → IsStreamed s file sent result)

-- the outlet failed where that is returned, and nowhere else
pub record CountsFailures {A : Type 0} (failures failures_after : ℕ) (result : Result A StreamFault)
    : Type 0 where
  pub kept : OnOk result (failures_after ≡ failures)
  pub cause : result ≡ Err Writer → HasRisen failures failures_after
  pub others : result ≢ Err Writer → failures_after ≡ failures
