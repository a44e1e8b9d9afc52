-- One connection over a reader and an outlet, from its opening to its close.
use Rattle.std.specs.Prelude.{◌<◌, ◌≤◌, ◌+◌, length, ◌≡◌, ◌⊎◌, ℕ, Bool, true, false, List, [], ◌∷◌, ◌++◌, Option, Some, None, IsSome, map}
use Rattle.std.specs.List.{FoldsTo}
use Rattle.std.specs.Io.KnownBytes.{Appends, Consumes, Keeps, IsAtEnd}
use Rattle.dep_types.specs.State.{State}
use Rattle.dep_types.specs.Conditions.{Condition, Leaves}
use Rattle.dep_types.specs.Writing.{next_count}
use Rattle.dep_types.specs.declared.inlet.Inlet as inlet
use Rattle.dep_types.specs.declared.inlet.LastRead.{LastRead}
use Rattle.dep_types.specs.declared.inlet.LastRead.TheVariants as read
use Rattle.dep_types.specs.declared.outlet.Outlet as outlet
use Rattle.dep_exchange.specs.Records.{World, Connect, Close, Record, stopped, Run, first_world}
use Rattle.dep_hub.specs.Numbers.{most_read}
use Rattle.dep_hub.specs.Representing.{RepresentsAt, RepresentsAfter, IsClean, IsHonest, Transition, IsArrival, GoesOnAs, intake_of, store_of}
use Rattle.dep_connection.specs.Turns.{ServedPiece, pieces_of, replies_of, record_of, records_of, most_reads, reads_made, reads_after, HasLastRead, ArePieces, last_answer, HasGoneOut, with_opened, with_closed, Exchanges, LeftByExchanges, EndsAs}
use Rattle.dep_exchange.specs.Archives.{KeepsEachState, CommitsIfDue}
use Rattle.dep_exchange.specs.Shut.{LeavesNoMore, IfShut, SendsFixed}
use Rattle.dep_hub.specs.WorkingAhead.{MakesOneStep}
use Rattle.dep_connection.specs.Flushing.{IsFlushed}
use Rattle.dep_hub.specs.declared.hub.Hub.{Hub}
use Rattle.dep_exchange.specs.declared.arrived.Arrived.{Arrived}
use Rattle.dep_exchange.specs.declared.arrived.Arrived.TheVariants.{Open as StaysOpen, Closed as HasClosed, Cut}
use Rattle.dep_connection.specs.declared.connection.Served.{Served}
use Rattle.dep_connection.specs.declared.connection.Served.TheVariants.{Ended, Closed, Unserved, ReadFault, WriteFault, Bound}

-- the bytes that an outlet took, how often its writes have failed, the bytes of them that it holds
-- back, and whether it has given up
pub record Outflow : Type 0 where
  pub taken : Option (List ℕ)
  pub failures : ℕ
  pub held : List ℕ
  pub has_failed : Bool

-- the bytes that an inlet has left, how many reads it made and how the last one ended; and how the
-- outlet stands
pub record WireState : Type 0 where
  pub unread : Option (List ℕ)
  pub reads : ℕ
  pub last : LastRead
  pub out : Outflow

-- how an outlet stands
abbrev pub outflow : {W : Type 0} → (h : outlet.Ghosts W) → (held : W → List ℕ)
    → (has_failed : W → Bool) → W → Outflow
outflow h held has_failed writer = record {
  taken = h.taken writer;
  failures = h.failures writer;
  held = held writer;
  has_failed = has_failed writer;
}

-- an outlet of this kind may stand so
abbrev pub MayShow : {W : Type 0} → (h : outlet.Ghosts W) → (held : W → List ℕ)
    → (has_failed : W → Bool) → Outflow → Type 0
MayShow {W} h held has_failed out = (writer : W) × (out ≡ outflow h held has_failed writer)

-- how both ends of a connection stand
abbrev pub wire : {R : Type 0} → (g : inlet.Ghosts R) → R → Outflow → WireState
wire g reader out =
    record { unread = g.unread reader; reads = g.reads reader; last = g.last reader; out = out }

-- what was read is these bytes, and these were sent
pub record Transfers (before after : WireState) (read sent : List ℕ) : Type 0 where
  pub pieces : Consumes before.unread after.unread read
  pub replies : Appends before.out.taken after.out.taken sent

-- nothing is read or sent
pub record WireRests (before after : WireState) : Type 0 where
  pub pieces : Keeps before.unread after.unread
  pub reads : after.reads ≡ before.reads
  pub last : after.last ≡ before.last
  pub out : after.out ≡ before.out

-- one read gave no byte, and nothing is sent
pub record GivesNothing (before after : WireState) : Type 0 where
  pub pieces : Keeps before.unread after.unread
  pub reads : after.reads ≡ next_count before.reads
  pub out : after.out ≡ before.out

-- each turn came at the clock's answer
abbrev pub Clocks : {C : Type 0} → (C → ℕ → C → Type 0) → C → List ServedPiece → C → Type 0
Clocks ticks clock turns now =
    FoldsTo (λ before t after. ticks before t.moment after) clock turns now

-- a connection that is served takes one number, and another takes none
abbrev pub next_after : ℕ → Served → ℕ
next_after next Unserved = next
next_after next Ended = next + 1
next_after next Closed = next + 1
next_after next ReadFault = next + 1
next_after next WriteFault = next + 1
next_after next Bound = next + 1

-- in each turn the client was sent a fixed reply at most, behind a `100 Continue`
abbrev pub AreFixed : List ServedPiece → Type 0
AreFixed [] = Unit {0}
AreFixed (t ∷ turns) = SendsFixed t.sent t.answer × AreFixed turns

-- where the serving of a connection stands: its hub, both ends of the connection, and the clock
pub record Session (A C : Type 0) : Type 0 where
  pub hub : Hub A
  pub wire : WireState
  pub clock : C

-- the same, by its parts
abbrev pub session : {A C : Type 0} → Hub A → WireState → C → Session A C
session hub ends clock = record { hub = hub; wire = ends; clock = clock }

-- where it stands over this inlet and this outlet
abbrev pub standing : {R W A C : Type 0} → (g : inlet.Ghosts R) → (h : outlet.Ghosts W)
    → (held : W → List ℕ) → (has_failed : W → Bool) → Hub A → R → W → C → Session A C
standing g h held has_failed hub reader writer clock =
    session hub (wire g reader (outflow h held has_failed writer)) clock

-- a turn may follow: the connection is there, and the clock can be asked
pub record CanGoOn {A C : Type 0} (callable : C → Type 0) (number : ℕ) (hub : Hub A) (clock : C)
    : Type 0 where
  pub there : IsSome (intake_of hub.connections.items number)
  pub call : callable clock

module _ {A : Type 0} (condition : A → Condition) where
  -- for all records that it represented, the hub represents them with these after them, if its store
  -- is open
  abbrev pub AddsRecords : Hub A → Hub A → List Record → Type 0
  AddsRecords old new more = IsClean condition new → (first : State) (records : List Record)
      → RepresentsAfter condition old first records
      → RepresentsAfter condition new first (records ++ more)

  -- what a stop now leaves represents all records that the hub represented, with these after them and
  -- a stop
  abbrev pub StopsAll : Hub A → Hub A → List Record → Type 0
  StopsAll old new more = IsHonest condition new → (first : State) (records : List Record)
      → RepresentsAfter condition old first records
      → Leaves (store_of condition new)
      (λ found. Run old.config first ((records ++ more) ++ stopped ∷ []) (first_world found))

  -- between two calls the store did a part of its later work, once: the hub represents what it stood
  -- for, and a crash leaves just that; only what was due was committed, and nothing of a connection
  -- changes but for one whose next request is prepared
  pub record WorksAhead (may_commit : A → Bool) (old new : Hub A) : Type 0 where
    pub same_config : new.config ≡ old.config
    pub same_intakes : (m : ℕ)
        → intake_of new.connections.items m ≡ intake_of old.connections.items m
    pub step : MakesOneStep old new
    pub store : KeepsEachState (store_of condition old) (store_of condition new)
    pub commits : CommitsIfDue (may_commit old.store) (may_commit new.store)
        (store_of condition old) (store_of condition new)

  -- nothing was read
  pub record NoTurn {C : Type 0} (before after : Session A C) : Type 0 where
    pub same_hub : after.hub ≡ before.hub
    pub nothing : GivesNothing before.wire after.wire
    pub same_clock : after.clock ≡ before.clock

  -- what the machine makes of the turns, from whatever machine the hub kept: it answers them as
  -- they were answered, and the hub keeps the machine after that, if its store is open; a stop then
  -- leaves just that, and where the store is shut what it may leave after the last turn
  pub record IsAnswered (old new : Hub A) (number : ℕ) (turns : List ServedPiece)
      (w : World) : Type 0 where
    pub talked : World
    pub exchanges : Exchanges old.config number (with_opened number w) turns talked
    pub at : IsClean condition new → RepresentsAt condition new (with_closed number talked)
    pub rests : IsClean condition new
        → Leaves (store_of condition new) (λ found. found ≡ talked.state)
    pub stop : Leaves (store_of condition new) (LeftByExchanges exchanges)

  -- nothing is read or written, and the hub represents what it did
  pub record IsUnserved {C : Type 0} (before after : Session A C) : Type 0 where
    pub same : (w : World) → RepresentsAt condition before.hub w → RepresentsAt condition after.hub w
    pub same_store : after.hub.store ≡ before.hub.store
    pub stays : (w : World) → RepresentsAt condition before.hub w
        → Leaves (store_of condition after.hub) (λ found. found ≡ w.state)
    pub adds : AddsRecords before.hub after.hub []
    pub rests : WireRests before.wire after.wire
    pub same_clock : after.clock ≡ before.clock

-- over an outlet that stands, behind each turn, in one of these ways
module _ {A : Type 0} (condition : A → Condition) (may_commit : A → Bool) (shown : Outflow → Type 0) where
  -- The turns leave the connection open, one after another, each with the outlet as the one before left
  -- it. Behind each the outlet was flushed; no other follows, nor does the store work ahead, where the
  -- outlet has given up.
  pub data Talks (number : ℕ)
      : Hub A → (first : Outflow) → List ServedPiece → Hub A → (last : Outflow) → Type 0 where
    silent : {hub : Hub A} {out : Outflow} → Talks number hub out [] hub out
    turn : {hub mid new : Hub A} {first before after : Outflow} {turns : List ServedPiece} (t : ServedPiece)
        → Talks number hub first turns mid before
        → last_answer turns ≡ StaysOpen → HasGoneOut turns before.has_failed
        → mid.config ≡ hub.config
        → IsArrival condition mid new number t.piece t.moment t.sent before.failures after.failures
        t.answer
        → Appends before.taken after.taken t.sent → IsFlushed after.held after.has_failed → shown after
        → Talks number hub first (turns ++ t ∷ []) new after
    ahead : {hub mid new : Hub A} {first after : Outflow} {turns : List ServedPiece}
        → Talks number hub first turns mid after
        → last_answer turns ≡ StaysOpen → HasGoneOut turns after.has_failed
        → WorksAhead condition may_commit mid new
        → Talks number hub first turns new after

  -- turns so far: what they add, read, write, and when
  pub record Talk {C : Type 0} (ticks : C → ℕ → C → Type 0) (number : ℕ) (before after : Session A C)
      (count : ℕ) (answer : Arrived) : Type 0 where
    pub turns : List ServedPiece
    pub counted : length turns ≡ count
    pub sizes : ArePieces turns
    pub talks : Talks number before.hub before.wire.out turns after.hub after.wire.out
    pub transfers : Transfers before.wire after.wire (pieces_of turns) (replies_of turns)
    pub moments : Clocks ticks before.clock turns after.clock
    pub answered : last_answer turns ≡ answer
    pub goes : GoesOnAs condition before.hub after.hub

  -- one turn
  pub record OneTurn {C : Type 0} (ticks : C → ℕ → C → Type 0)
      (number : ℕ) (before after : Session A C)
      (answer : Arrived) : Type 0 where
    pub piece : List ℕ
    pub moment : ℕ
    pub sent : List ℕ
    pub arrives : IsArrival condition before.hub after.hub number piece moment sent
        before.wire.out.failures after.wire.out.failures answer
    pub reads : after.wire.reads ≡ next_count before.wire.reads
    pub last : after.wire.last ≡ read.Bytes
    pub some : 0 < length piece
    pub small : length piece ≤ most_read
    pub transfers : Transfers before.wire after.wire piece sent
    pub flushed : IsFlushed after.wire.out.held after.wire.out.has_failed
    pub shows : shown after.wire.out
    pub ticked : ticks before.clock moment after.clock
    pub goes : GoesOnAs condition before.hub after.hub

  -- one turn that leaves the connection open, and what was sent for it has gone out; behind it the
  -- store works ahead
  pub record OpenTurn {C : Type 0} (ticks : C → ℕ → C → Type 0)
      (number : ℕ) (before after : Session A C) : Type 0 where
    pub served : Hub A
    pub turn : OneTurn ticks number before (session served after.wire after.clock) StaysOpen
    pub gone_out : after.wire.out.has_failed ≡ false
    pub ahead : WorksAhead condition may_commit served after.hub
    pub goes : GoesOnAs condition before.hub after.hub

  -- one turn whose reply was cut, or behind which the outlet has given up
  pub record CutTurn {C : Type 0} (ticks : C → ℕ → C → Type 0)
      (number : ℕ) (before after : Session A C) : Type 0 where
    pub answer : Arrived
    pub turn : OneTurn ticks number before after answer
    pub cut : (answer ≡ Cut) ⊎ (after.wire.out.has_failed ≡ true)

  abbrev pub TurnsTo : {C : Type 0} → (C → ℕ → C → Type 0) → ℕ → (before after : Session A C)
      → Option Served
      → Type 0
  TurnsTo ticks number before after None = OpenTurn ticks number before after
  TurnsTo ticks number before after (Some Closed) =
      OneTurn ticks number before after HasClosed × (after.wire.out.has_failed ≡ false)
  TurnsTo ticks number before after (Some WriteFault) = CutTurn ticks number before after
  TurnsTo ticks number before after (Some Ended) =
      NoTurn condition before after × IsAtEnd after.wire.unread × (after.wire.last ≡ read.Nothing)
  TurnsTo ticks number before after (Some ReadFault) =
      NoTurn condition before after × (after.wire.last ≡ read.Failed)
  TurnsTo ticks number before after (Some Unserved) = ⊥
  TurnsTo ticks number before after (Some Bound) = ⊥

  -- the turns up to the end
  pub record TalksUntil {C : Type 0} (ticks : C → ℕ → C → Type 0)
      (number : ℕ) (before after : Session A C)
      (served : Served) : Type 0 where
    pub count : ℕ
    pub answer : Arrived
    pub talk : Talk ticks number before after count answer
    pub ends : EndsAs after.wire.unread after.wire.out.has_failed talk.turns served
    pub reads : after.wire.reads ≡ reads_after before.wire.reads (reads_made talk.turns served)
    pub last : HasLastRead after.wire.last served

  -- one connection: what was read are its pieces, what was written is what was sent, each at the
  -- clock's answer
  pub record Converses {C : Type 0} (ticks : C → ℕ → C → Type 0) (before after : Session A C)
      (served : Served) : Type 0 where
    pub number : ℕ
    pub turns : List ServedPiece
    pub is_next : number ≡ before.hub.next
    pub fresh : intake_of before.hub.connections.items number ≡ None
    pub opened : Hub A
    pub opens : Transition condition before.hub opened (Connect number) []
    pub talked : Hub A
    pub talks : Talks number opened before.wire.out turns talked after.wire.out
    pub closes : Transition condition talked after.hub (Close number) []
    pub gone : intake_of after.hub.connections.items number ≡ None
    pub answers : IsHonest condition after.hub → (w : World) → RepresentsAt condition before.hub w
        → IsAnswered condition before.hub after.hub number turns w
    pub adds : AddsRecords condition before.hub after.hub (records_of number turns)
    pub stops : StopsAll condition before.hub after.hub
        (record { event = Connect number; sent = [] } ∷ map (record_of number) turns)
    pub transfers : Transfers before.wire after.wire (pieces_of turns) (replies_of turns)
    pub moments : Clocks ticks before.clock turns after.clock
    pub ends : EndsAs after.wire.unread after.wire.out.has_failed turns served
    pub sizes : ArePieces turns
    -- each turn took one read, and there were no more reads than there may be
    pub reads : after.wire.reads ≡ reads_after before.wire.reads (reads_made turns served)
    pub few_reads : after.wire.reads ≤ before.wire.reads + most_reads
    pub last : HasLastRead after.wire.last served
    -- over a hub whose store was shut
    pub shut : IfShut (store_of condition before.hub) (store_of condition after.hub)
        (AreFixed turns
        × LeavesNoMore (store_of condition before.hub) (store_of condition after.hub))

  -- what serving a connection makes, by what it returns
  abbrev pub ConversesOver : {C : Type 0} → (C → ℕ → C → Type 0) → (before after : Session A C)
      → Served → Type 0
  ConversesOver ticks before after Unserved = IsUnserved condition before after
  ConversesOver ticks before after Ended = Converses ticks before after Ended
  ConversesOver ticks before after Closed = Converses ticks before after Closed
  ConversesOver ticks before after ReadFault = Converses ticks before after ReadFault
  ConversesOver ticks before after WriteFault = Converses ticks before after WriteFault
  ConversesOver ticks before after Bound = Converses ticks before after Bound
