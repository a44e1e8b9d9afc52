-- Connections that are accepted at a listener and served one after another.
use Rattle.std.specs.Prelude.{◌≡◌, ◌⊎◌, ◌<◌, ◌+◌, ℕ, Bool, false, List, [], All, None, length}
use Rattle.std.specs.List.{flat_map}
use Rattle.dep_exchange.specs.Records.{Record}
use Rattle.dep_hub.specs.Representing.{ServesAs}
use Rattle.dep_connection.specs.Turns.{ServedPiece, records_of, ArePieces}
use Rattle.dep_connection.specs.Conversation.{Outflow, WireState, session, AddsRecords, Clocks, ConversesOver}
use Rattle.dep_types.specs.Conditions.{Condition}
use Rattle.dep_types.specs.declared.inlet.LastRead.TheVariants.{NoneYet}
use Rattle.dep_hub.specs.declared.hub.Hub.{Hub}
use Rattle.dep_connection.specs.declared.connection.Served.{Served}
use Rattle.dep_program.specs.declared.outcome.Outcome.{Outcome}
use Rattle.dep_program.specs.declared.outcome.Outcome.TheVariants.{Done, TransferFault}

-- a connection that was opened: its number, and its turns
pub record Conversation : Type 0 where
  pub number : ℕ
  pub turns : List ServedPiece

-- the records of connections, one connection after another
abbrev pub all_records_of : List Conversation → List Record
all_records_of talks = flat_map (λ t. records_of t.number t.turns) talks

-- all turns of connections, in the same order
abbrev pub all_turns_of : List Conversation → List ServedPiece
all_turns_of talks = flat_map (λ t. t.turns) talks

-- so many connections, of which some could not be opened
abbrev pub AreAmong : List Conversation → (count : ℕ) → Type 0
AreAmong talks count = (unserved : ℕ) × (length talks + unserved ≡ count)

-- all of them were served, or those before accepting failed
abbrev pub AreServed : List Conversation → (count : ℕ) → Outcome → Type 0
AreServed talks count outcome =
    (AreAmong talks count × (outcome ≡ Done))
    ⊎ ((k : ℕ) × (k < count) × AreAmong talks k × (outcome ≡ TransferFault))

-- an outlet over an accepted socket, over which nothing went yet: it doesn't show what it took
abbrev pub socket_out : Outflow
socket_out = record { taken = None; failures = 0; held = []; has_failed = false }

-- the same socket: it doesn't show either what it will give
abbrev pub socket_wire : WireState
socket_wire = record { unread = None; reads = 0; last = NoneYet; out = socket_out }

-- an outlet that may stand in every way
abbrev pub AnyOut : Outflow → Type 0
AnyOut out = Unit {0}

module _ {A : Type 0} (condition : A → Condition) where
  -- One connection over an accepted socket. The hub goes on as it was configured, and clean only where it was.
  pub record ServesOne (may_commit : A → Bool) {C : Type 0} (ticks : C → ℕ → C → Type 0) (clock now : C)
      (old new : Hub A) (served : Served) : Type 0 where
    pub goes : ServesAs condition old new
    pub after : WireState
    pub converses : ConversesOver condition may_commit AnyOut ticks
        (session old socket_wire clock)
        (session new after now) served

  -- For all records that it represented, the hub represents them with those of the connections behind
  -- them, one connection after another.
  pub record ServesThese (old new : Hub A) (talks : List Conversation) : Type 0 where
    pub sizes : All (λ t. ArePieces t.turns) talks
    pub adds : AddsRecords condition old new (all_records_of talks)

  -- connections are served, each piece at the clock's answer
  abbrev pub ServesAtClock : {C : Type 0} → (ticks : C → ℕ → C → Type 0) → (clock : C)
      → (old new : Hub A) → (count : ℕ) → Outcome → Type 0
  ServesAtClock {C} ticks clock old new count outcome = (talks : List Conversation)
      × AreServed talks count outcome × ServesThese old new talks
      × ((last : C) × Clocks ticks clock (all_turns_of talks) last)

  -- the same at whatever moments; or the port could not be had
  abbrev pub ServesAt : (old new : Hub A) → (count : ℕ) → Outcome → Type 0
  ServesAt old new count outcome =
      ((talks : List Conversation) × AreServed talks count outcome × ServesThese old new talks)
      ⊎ ((new ≡ old) × (outcome ≡ TransferFault))
