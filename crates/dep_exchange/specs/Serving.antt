-- How far an arrival has been served.
use Rattle.std.specs.Prelude.{◌≡◌, ◌⊎◌, ℕ, true, List, Some, IsTrue}
use Rattle.dep_types.specs.State.{State}
use Rattle.dep_types.specs.Writing.{HasRisen}
use Rattle.dep_types.specs.declared.config.Config.{Config}
use Rattle.dep_message.specs.Places.{Place, Shut, Reading, place_with}
use Rattle.dep_message.specs.Stream.{FirstAt, Item, Fault, Continue, Request, ReadsItems}
use Rattle.dep_types.specs.Conditions.{Condition, Represents, HasCleanDisk, Leaves}
use Rattle.dep_answers.specs.Performing.{file_id}
use Rattle.dep_exchange.specs.Machine.{step, replies, state_after, continue_line, Fails, Serves}
use Rattle.dep_exchange.specs.Stops.{LeftByFailure, LeftByServing}
use Rattle.dep_exchange.specs.Causes.{IsCutInContent, EndsInContent}
use Rattle.dep_exchange.specs.Sending.{IsSentUpTo, IsReplySent, Outside, Passes, SendsAll}
use Rattle.dep_exchange.specs.Shut.{LeavesNoMore, IfShut, continues, IsFixed, SendsFixed}
use Rattle.dep_exchange.specs.declared.rest.Rest.{Rest}
use Rattle.dep_exchange.specs.declared.arrived.Arrived.{Arrived}
use Rattle.dep_exchange.specs.declared.arrived.Arrived.TheVariants.{Open as StaysOpen, Closed, Cut}
use Rattle.dep_exchange.specs.declared.serving.Piece.{Piece}
use Rattle.dep_exchange.specs.declared.sending.Answered.{Answered}
use Rattle.dep_exchange.specs.declared.sending.Answered.TheVariants.{Sent, GaveUp, CutShort}

-- what an arrival returns after a step that was its last
abbrev pub answer_after : Answered → Arrived
answer_after CutShort = Cut
answer_after GaveUp = Closed
answer_after Sent = Closed

-- A step that failed, from a state that the store represented. While the store is open it represents
-- what the failure left; and whether it is or not, a stop leaves what it may leave there. A cut has
-- a cause.
pub record FailsFrom (config : Config) (s : State) (item : Item) (moment : ℕ) (sent : List ℕ)
    (old new : Outside) (answer : Arrived) : Type 0 where
  pub left : State
  pub fails : Fails config s item moment sent left answer
  pub represents : IsTrue new.store.is_open → Represents new.store left
  pub stop : Leaves new.store (LeftByFailure fails)
  pub cause : answer ≡ Cut → HasRisen old.failures new.failures ⊎ IsCutInContent fails

-- a step, or one that fails
abbrev pub IsAnsweredBy : Config → State → Item → ℕ → List ℕ → (old new : Outside) → Answered
    → Type 0
IsAnsweredBy config s item moment sent old new Sent =
    SendsAll (step config s item moment) old new sent
IsAnsweredBy config s item moment sent old new GaveUp =
    FailsFrom config s item moment sent old new Closed
IsAnsweredBy config s item moment sent old new CutShort =
    FailsFrom config s item moment sent old new Cut

-- a fixed reply was sent, or a part of it
abbrev pub IsFixedSent : List ℕ → Answered → Type 0
IsFixedSent sent answer = (fixed : List ℕ) × IsFixed fixed × IsSentUpTo fixed sent answer

-- over an archive that was shut a step fails, but telling a client to go on asks nothing of it
abbrev pub IsAnsweredShut : Item → List ℕ → Answered → Type 0
IsAnsweredShut Continue sent answer = IsReplySent continue_line sent answer
IsAnsweredShut (Fault r head_only) sent answer = IsFixedSent sent answer
IsAnsweredShut (Request m) sent answer = IsFixedSent sent answer

-- what is still to be sent is the content of the file that the step names
abbrev pub BeginsSource : Config → Item → (moment : ℕ) → (old new : Condition) → Rest → Type 0
BeginsSource config item moment old new r = HasCleanDisk new → (s : State) → Represents old s
    → (step config s item moment).source ≡ Some (file_id r.file)

-- so it is with the item that stands first
abbrev pub BeginsFirst : Config → Reading → (moment : ℕ) → (old new : Condition) → Rest → Type 0
BeginsFirst config reading moment old new r = (item : Item) × (next : Place)
    × FirstAt reading.limit reading.place item next × BeginsSource config item moment old new r

-- An item is answered. The bytes are known without the state: whatever state the store represented,
-- they are sent for it.
pub record Answers (config : Config) (old new : Outside) (item : Item) (moment : ℕ)
    (answer : Answered)
    : Type 0 where
  pub sent : List ℕ
  pub passes : Passes old new sent
  pub steps : HasCleanDisk new.store → (s : State) → Represents old.store s
      → IsAnsweredBy config s item moment sent old new answer
  pub shut : IfShut old.store new.store
      (IsAnsweredShut item sent answer × LeavesNoMore old.store new.store)

-- an arrival at an intake: what it keeps, the piece that comes, and when
pub record Arrival : Type 0 where
  pub reading : Reading
  pub piece : List ℕ
  pub moment : ℕ

abbrev pub arrival_of : Reading → (piece : List ℕ) → (moment : ℕ) → Arrival
arrival_of reading piece moment = record { reading = reading; piece = piece; moment = moment }

-- the same of a piece that comes at its moment
abbrev pub arrival_with : Reading → Piece → Arrival
arrival_with reading piece = arrival_of reading piece.bytes.now piece.moment

-- an intake that reads nothing more is dead: behind a request that closes the connection it was shut
abbrev pub IsDeadIfShut : Reading → Type 0
IsDeadIfShut reading = reading.place ≡ Shut → reading.is_dead ≡ true

-- an intake keeps its limit, and is dead where it reads nothing more if it was so before
pub record KeepsIntake (old new : Reading) : Type 0 where
  pub limit : new.limit ≡ old.limit
  pub dead : IsDeadIfShut old → IsDeadIfShut new

-- these items are the first that are read with the piece, and the reading then stands at the place
abbrev pub ReadsWith : Arrival → List Item → Place → Type 0
ReadsWith a items at = ReadsItems a.reading.limit (place_with a.reading.place a.piece) items at

-- the store represents the state after these items, and their replies are what was sent
pub record Replied (config : Config) (a : Arrival) (s : State) (items : List Item) (sent : List ℕ)
    (old now : Outside) : Type 0 where
  pub represents : Represents now.store (state_after config s items a.moment)
  pub whole : sent ≡ replies config s items a.moment
  pub failures : now.failures ≡ old.failures

-- clients were sent `100 Continue`, and that was all
abbrev pub OnlyContinues : List ℕ → Type 0
OnlyContinues sent = (times : ℕ) × (sent ≡ continues times)

-- so it may go from any state, and that state stays
abbrev pub IsStill : Config → List Item → (moment : ℕ) → (sent : List ℕ) → Type 0
IsStill config items moment sent = (s : State)
    → (state_after config s items moment ≡ s) × (replies config s items moment ≡ sent)

-- how far it was served: these items were read and replied to
pub record ServedSoFar (config : Config) (a : Arrival) (old now : Outside) (at : Place) : Type 0 where
  pub items : List Item
  pub sent : List ℕ
  pub reads : ReadsWith a items at
  pub passes : Passes old now sent
  pub replied : HasCleanDisk now.store → (s : State) → Represents old.store s
      → Replied config a s items sent old now
  pub shut : IfShut old.store now.store (OnlyContinues sent × LeavesNoMore old.store now.store)
  pub still : IfShut old.store now.store (IsStill config items a.moment sent)

-- it was served from what the intake keeps and from a state that the store represented; a connection
-- that stays open has an open store
pub record ServesFrom (config : Config) (a : Arrival) (s : State) (sent : List ℕ)
    (old new : Outside) (at : Place)
    (answer : Arrived) : Type 0 where
  pub left : State
  pub serves : Serves config (ReadsWith a) s a.moment sent left at answer
  pub represents : IsTrue new.store.is_open → Represents new.store left
  pub stays_clean : answer ≡ StaysOpen → IsTrue new.store.is_open
  pub stop : Leaves new.store (LeftByServing serves)
  pub cause : answer ≡ Cut → HasRisen old.failures new.failures ⊎ EndsInContent serves

-- the same over an outlet and a store, for an intake with the limit of the configuration that is dead
-- where it reads nothing more
pub record ServesOver (config : Config) (a : Arrival) (old new : Outside) (at : Place)
    (answer : Arrived)
    : Type 0 where
  pub sent : List ℕ
  pub passes : Passes old new sent
  pub serves : a.reading.limit ≡ config.max_upload → IsDeadIfShut a.reading
      → HasCleanDisk new.store → (s : State)
      → Represents old.store s → ServesFrom config a s sent old new at answer
  pub shut : IfShut old.store new.store
      (SendsFixed sent answer × LeavesNoMore old.store new.store)
  -- over a store that was shut it may go so from any state, and that state stays
  pub still : IfShut old.store new.store (a.reading.limit ≡ config.max_upload
      → IsDeadIfShut a.reading → (s : State)
      → Serves config (ReadsWith a) s a.moment sent s at answer)
