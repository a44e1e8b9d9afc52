-- The next item of an intake, answered.
use Rattle.std.specs.Prelude.{◌≡◌, ◌⊎◌, ◌<◌, ℕ, Bool, true, false, List, [], Option}
use Rattle.std.specs.Io.KnownBytes.{Appends}
use Rattle.dep_types.specs.State.{State}
use Rattle.dep_types.specs.Writing.{HasRisen}
use Rattle.dep_types.specs.declared.config.Config.{Config}
use Rattle.dep_types.specs.Conditions.{Represents}
use Rattle.dep_message.specs.Places.{Place, Shut, Reading, shut_reading, left_to_read, IsOpen, HasBytes}
use Rattle.dep_message.specs.Stream.{Item, FirstAt, Waits}
use Rattle.dep_exchange.specs.Machine.{SendsUpTo, out_of_memory}
use Rattle.dep_exchange.specs.Sending.{Outside, Passes}
use Rattle.dep_exchange.specs.Shut.{LeavesNoMore}
use Rattle.dep_exchange.specs.Serving.{Answers, KeepsIntake, answer_after}
use Rattle.dep_exchange.specs.declared.arrived.Arrived.{Arrived}
use Rattle.dep_exchange.specs.declared.arrived.Arrived.TheVariants as came
use Rattle.dep_exchange.specs.declared.next.Next.{Next}
use Rattle.dep_exchange.specs.declared.next.Next.TheVariants.{More, Waiting, Closed, Cut, NoSuch}
use Rattle.dep_exchange.specs.declared.sending.Answered.{Answered}
use Rattle.dep_exchange.specs.declared.sending.Answered.TheVariants.{Sent, GaveUp, CutShort}

-- these bytes were sent, and nothing was asked of the store
pub record Stays (old new : Outside) (sent : List ℕ) : Type 0 where
  pub passes : Passes old new sent
  pub state : (s : State) → Represents old.store s → Represents new.store s
  pub leaves : LeavesNoMore old.store new.store

-- nothing was sent
pub record Rests (old new : Outside) : Type 0 where
  pub stays : Stays old new []
  pub failures : new.failures ≡ old.failures

-- memory ran out over these bytes
pub record RunsOut (place : Place) (old new : Outside) (answer : Arrived) : Type 0 where
  pub sent : List ℕ
  pub some : HasBytes place
  pub stays : Stays old new sent
  pub sends : SendsUpTo out_of_memory sent answer
  pub cause : answer ≡ came.Cut → HasRisen old.failures new.failures

-- an item was answered, and it was the last
pub record IsLast (config : Config) (reading : Reading) (moment : ℕ) (old new : Outside)
    (answer : Arrived) : Type 0 where
  pub item : Item
  pub next : Place
  pub how : Answered
  pub first : FirstAt reading.limit reading.place item next
  pub closes : how ≡ Sent → next ≡ Shut
  pub answers : Answers config old new item moment how
  pub answer_is : answer ≡ answer_after how

-- nothing was read any more
pub record IsDead (reading : Reading) (old new : Outside) (answer : Arrived) : Type 0 where
  pub shut : reading.place ≡ Shut
  pub rests : Rests old new
  pub answer_is : answer ≡ came.Closed

-- the connection ends
abbrev pub Ends : Config → Reading → (moment : ℕ) → (old new : Outside) → Place → Arrived → Type 0
Ends config reading moment old new at answer =
    (at ≡ Shut)
    × (IsLast config reading moment old new answer
    ⊎ (RunsOut reading.place old new answer ⊎ IsDead reading old new answer))

-- an item was answered, and the connection goes on
pub record GoesOn (config : Config) (reading : Reading) (moment : ℕ) (old new : Outside)
    (at : Place) : Type 0 where
  pub item : Item
  pub first : FirstAt reading.limit reading.place item at
  pub is_open : IsOpen at
  pub answers : Answers config old new item moment Sent

-- no item is complete
pub record IsWaiting (reading : Reading) (old new : Outside) (at : Place) : Type 0 where
  pub same : at ≡ reading.place
  pub waits : Waits reading.limit reading.place
  pub lives : reading.is_dead ≡ false
  pub rests : Rests old new

abbrev pub AnswersNext : Config → Reading → (moment : ℕ) → (old new : Outside) → Place → Next
    → Type 0
AnswersNext config reading moment old new at More = GoesOn config reading moment old new at
AnswersNext config reading moment old new at Waiting = IsWaiting reading old new at
AnswersNext config reading moment old new at Closed =
    Ends config reading moment old new at came.Closed
AnswersNext config reading moment old new at Cut = Ends config reading moment old new at came.Cut
AnswersNext config reading moment old new at NoSuch = ⊥

-- The next item is answered, where one is complete: the intake stands where that leaves it, and where
-- another may follow, less is left to read.
pub record TakesNext (config : Config) (reading now : Reading) (moment : ℕ) (old new : Outside)
    (answer : Next) : Type 0 where
  pub answers : AnswersNext config reading moment old new now.place answer
  pub keeps : KeepsIntake reading now
  pub less : answer ≡ More → left_to_read now.place < left_to_read reading.place

-- Memory ran out, by what an outlet shows before and after: the fixed reply for it was sent, or a part of
-- it, and nothing is read any more.
pub record ReportsLackOfMemory (taken takes : Option (List ℕ)) (failures failures_after : ℕ)
    (reading now : Reading) (answer : Arrived) : Type 0 where
  pub sent : (bytes : List ℕ) × Appends taken takes bytes × SendsUpTo out_of_memory bytes answer
  pub cause : answer ≡ came.Cut → HasRisen failures failures_after
  pub shut : now ≡ shut_reading reading

-- how an arrival returns that no item is answered any more
abbrev pub arrived_after : Next → Arrived
arrived_after More = came.Open
arrived_after Waiting = came.Open
arrived_after Closed = came.Closed
arrived_after Cut = came.Cut
arrived_after NoSuch = came.NoSuch

-- what comes after an item that was answered so
abbrev pub next_behind : Answered → (is_last : Bool) → Next
next_behind Sent false = More
next_behind Sent true = Closed
next_behind GaveUp is_last = Closed
next_behind CutShort is_last = Cut

-- and how the intake then stands: where the connection ends, nothing is read any more
abbrev pub reading_behind : Reading → Next → Reading
reading_behind reading More = reading
reading_behind reading Waiting = reading
reading_behind reading Closed = shut_reading reading
reading_behind reading Cut = shut_reading reading
reading_behind reading NoSuch = reading
