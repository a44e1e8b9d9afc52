-- What a hub represents: the lists of records that may have led to what it keeps.
use Rattle.std.specs.Prelude.{◌≡◌, ◌==◌, ℕ, true, List, [], ◌∷◌, ◌++◌, if◌then◌else◌, Option, None, Some, IsTrue, IsSome}
use Rattle.std.specs.Io.KnownBytes.{Appends, Keeps}
use Rattle.dep_types.specs.State.{State}
use Rattle.dep_types.specs.declared.config.Config.{Config}
use Rattle.dep_message.specs.Places.{Shut, Reading, IsOpen}
use Rattle.dep_message.specs.Stream.{Item, Spells}
use Rattle.dep_types.specs.Conditions.{Condition, Represents, HasCleanDisk, Leaves}
use Rattle.dep_exchange.specs.Records.{ServerEvent, Arrive, Record, stopped, Line, Absent, Live, ShutLine, World, Run, first_world, with_line, Arrives, LeftByArrival, Happens}
use Rattle.dep_exchange.specs.declared.arrived.Arrived.{Arrived}
use Rattle.dep_exchange.specs.declared.arrived.Arrived.TheVariants.{Open as StaysOpen, Closed, Cut, NoSuch}
use Rattle.dep_hub.specs.declared.connections.Connection.{Connection}
use Rattle.dep_exchange.specs.Causes.{HasCause}
use Rattle.dep_exchange.specs.Shut.{LeavesNoMore, IfShut, SendsFixed}
use Rattle.dep_hub.specs.declared.hub.Hub.{Hub}

-- the intake of a connection, if it is there
abbrev pub intake_of : List Connection → ℕ → Option Reading
intake_of [] number = None
intake_of (c ∷ connections) number =
    if c.number == number then Some c.intake else intake_of connections number

-- a live connection keeps what its stream has left
pub record KeepsRest (limit : ℕ) (stream : List ℕ) (reading : Reading) : Type 0 where
  pub items : List Item
  pub same_limit : reading.limit ≡ limit
  pub spells : Spells limit stream items reading.place
  pub is_open : IsOpen reading.place

-- an ended connection reads no more, and its intake is dead
pub record IsShut (limit : ℕ) (reading : Reading) : Type 0 where
  pub same_limit : reading.limit ≡ limit
  pub shut : reading.place ≡ Shut
  pub dead : reading.is_dead ≡ true

-- how a connection of the machine is kept
abbrev pub IsKeptAs : ℕ → Line → Option Reading → Type 0
IsKeptAs limit Absent None = Unit {0}
IsKeptAs limit Absent (Some reading) = ⊥
IsKeptAs limit (Live stream) None = ⊥
IsKeptAs limit (Live stream) (Some reading) = KeepsRest limit stream reading
IsKeptAs limit ShutLine None = ⊥
IsKeptAs limit ShutLine (Some reading) = IsShut limit reading

module _ {A : Type 0} (condition : A → Condition) where
  -- the store of the hub, as the database shows it
  abbrev pub store_of : Hub A → Condition
  store_of hub = condition hub.store

  -- the store is open: no fault has shut it, and the disk has told no lie that was taken as true
  abbrev pub IsClean : Hub A → Type 0
  IsClean hub = IsTrue (store_of hub).is_open

  -- the disk has told no lie that was taken as true; a fault may have shut the store
  abbrev pub IsHonest : Hub A → Type 0
  IsHonest hub = HasCleanDisk (store_of hub)

  -- the hub keeps each of these lines
  abbrev pub KeepsLines : Hub A → (ℕ → Line) → Type 0
  KeepsLines hub lines = (number : ℕ)
      → IsKeptAs hub.config.max_upload (lines number) (intake_of hub.connections.items number)

  -- the hub keeps what the machine is
  pub record RepresentsAt (hub : Hub A) (w : World) : Type 0 where
    pub state : Represents (store_of hub) w.state
    pub kept : KeepsLines hub w.line

  -- the machine may be there after these records
  pub record RepresentsAfter (hub : Hub A) (first : State) (records : List Record) : Type 0 where
    pub world : World
    pub run : Run hub.config first records world
    pub at : RepresentsAt hub world

  -- whatever records led to a world without connections, for whose state the store stood, the hub
  -- represents them: none yet, or those up to a stop
  abbrev pub GoesOnFrom : Config → (store : A) → Hub A → Type 0
  GoesOnFrom config store hub = (first : State) (records : List Record) (w : World)
      → Run config first records w → ((n : ℕ) → w.line n ≡ Absent)
      → Represents (condition store) w.state → RepresentsAfter hub first records

  -- a stop leaves of this store the state of each world at which the hub stood
  abbrev pub LeavesItsState : Hub A → (store : Condition) → Type 0
  LeavesItsState hub store = (w : World) → RepresentsAt hub w → Leaves store (λ found. found ≡ w.state)

  -- it serves the same configuration, and the store was open before where it is open now, and its
  -- disk honest
  pub record ServesAs (old new : Hub A) : Type 0 where
    pub config : new.config ≡ old.config
    pub clean : IsClean new → IsClean old
    pub honest : IsHonest new → IsHonest old

  -- the same of a call that takes no number
  pub record GoesOnAs (old new : Hub A) : Type 0 where
    pub config : new.config ≡ old.config
    pub next : new.next ≡ old.next
    pub clean : IsClean new → IsClean old
    pub honest : IsHonest new → IsHonest old

  -- the same where the store isn't asked
  pub record KeepsStore (old new : Hub A) : Type 0 where
    pub config : new.config ≡ old.config
    pub next : new.next ≡ old.next
    pub store : new.store ≡ old.store

  -- the same, and what a stop leaves of the store is the state at which the hub stood
  pub record LeavesStore (old new : Hub A) : Type 0 where
    pub config : new.config ≡ old.config
    pub next : new.next ≡ old.next
    pub store : new.store ≡ old.store
    pub rests : LeavesItsState old (store_of new)

  -- for all records that it represented, the hub represents them with one more
  abbrev pub AddsRecord : Hub A → Hub A → ServerEvent → List ℕ → Type 0
  AddsRecord old new event sent = (first : State) (records : List Record) → RepresentsAfter old first records
      → RepresentsAfter new first (records ++ record { event = event; sent = sent } ∷ [])

  -- whatever machine the hub kept, it keeps what the event makes of that machine
  abbrev pub Transition : Hub A → Hub A → ServerEvent → List ℕ → Type 0
  Transition old new event sent = (w : World) → RepresentsAt old w
      → (w' : World) × Happens old.config w event sent w' × RepresentsAt new w'

  -- What is made of an arrival, from a world at which the hub stood. While the store is open the hub
  -- stands at the next one, and a stop leaves just that; whether it is or not, a stop leaves what
  -- it may leave after the arrival. A connection that stays open has an open store, and a cut has a
  -- cause, on the bytes that were sent.
  pub record ArrivesTo (config : Config) (new : Hub A) (number : ℕ) (piece : List ℕ) (moment : ℕ)
      (sent : List ℕ) (failures failures_after : ℕ) (answer : Arrived) (w : World) : Type 0 where
    pub left : State
    pub line : Line
    pub arrives : Arrives config piece moment (w.line number) w.state sent left line answer
    pub represents : IsClean new
        → RepresentsAt new (record { state = left; line = with_line number line w.line })
    pub rests : IsClean new → Leaves (store_of new) (λ found. found ≡ left)
    pub stays_clean : answer ≡ StaysOpen → IsClean new
    pub stop : Leaves (store_of new) (LeftByArrival arrives)
    pub cause : answer ≡ Cut → HasCause failures failures_after arrives

  -- what a stop at the end of an arrival leaves represents the records, with the arrival and a stop
  abbrev pub StopsAfter : Hub A → Hub A → ServerEvent → List ℕ → Type 0
  StopsAfter old new event sent = IsHonest new → (first : State) (records : List Record)
      → RepresentsAfter old first records
      → Leaves (store_of new) (λ found. Run old.config first
      (records ++ record { event = event; sent = sent } ∷ stopped ∷ []) (first_world found))

  -- An arrival at a hub whose store was shut. The client is sent a fixed reply at most, behind a
  -- `100 Continue`, and a crash leaves what it could leave before. Whatever lines the hub kept, the
  -- machine may answer so from any state, and stay at that state.
  pub record ArrivesShut (old new : Hub A) (number : ℕ) (piece : List ℕ) (moment : ℕ)
      (sent : List ℕ) (answer : Arrived) : Type 0 where
    pub sends : SendsFixed sent answer
    pub leaves : LeavesNoMore (store_of old) (store_of new)
    pub goes_on : (lines : ℕ → Line) → KeepsLines old lines → (line : Line)
        × ((s : State)
        → Arrives old.config piece moment (lines number) s sent s line answer)
        × KeepsLines new (with_line number line lines)

  -- an arrival at a connection that is there: what is sent for it is a run's, and so is the answer
  pub record IsArrival (old new : Hub A) (number : ℕ) (piece : List ℕ) (moment : ℕ)
      (sent : List ℕ)
      (failures failures_after : ℕ) (answer : Arrived) : Type 0 where
    pub adds : IsClean new → AddsRecord old new (Arrive number piece moment) sent
    pub stops : StopsAfter old new (Arrive number piece moment) sent
    pub clean : IsClean new → IsClean old
    pub honest : IsHonest new → IsHonest old
    pub answers : IsHonest new → (w : World) → RepresentsAt old w
        → ArrivesTo old.config new number piece moment sent failures failures_after answer w
    pub shut : IfShut (store_of old) (store_of new) (ArrivesShut old new number piece moment sent answer)

  -- what was sent over an outlet for an arrival, by what the outlet shows before and after; the
  -- connection was there, and is there
  pub record ArrivesOver (held holds : Option (List ℕ)) (failures failures_after : ℕ)
      (old new : Hub A)
      (number : ℕ) (piece : List ℕ) (moment : ℕ) (answer : Arrived) : Type 0 where
    pub sent : List ℕ
    pub appends : Appends held holds sent
    pub arrival : IsArrival old new number piece moment sent failures failures_after answer
    pub goes : GoesOnAs old new
    pub was_there : IsSome (intake_of old.connections.items number)
    pub is_there : IsSome (intake_of new.connections.items number)

  -- there is no such connection, and nothing happens
  pub record IsNoSuch (held holds : Option (List ℕ)) (old new : Hub A) (number : ℕ) : Type 0 where
    pub absent : intake_of old.connections.items number ≡ None
    pub same : new ≡ old
    pub sends_nothing : Keeps held holds

  -- what is made of an arrival, over an outlet
  abbrev pub ComesTo : (held holds : Option (List ℕ)) → (failures failures_after : ℕ)
      → (old new : Hub A)
      → (number : ℕ) → (piece : List ℕ) → (moment : ℕ) → Arrived → Type 0
  ComesTo held holds failures failures_after old new number piece moment NoSuch =
      IsNoSuch held holds old new number
  ComesTo held holds failures failures_after old new number piece moment StaysOpen =
      ArrivesOver held holds failures failures_after old new number piece moment StaysOpen
  ComesTo held holds failures failures_after old new number piece moment Closed =
      ArrivesOver held holds failures failures_after old new number piece moment Closed
  ComesTo held holds failures failures_after old new number piece moment Cut =
      ArrivesOver held holds failures failures_after old new number piece moment Cut
