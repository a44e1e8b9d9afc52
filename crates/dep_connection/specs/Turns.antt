-- The turns of one connection, and how the machine answers them.
use Rattle.std.specs.Prelude.{◌<◌, ◌≤◌, ◌+◌, length, ◌≡◌, ◌⊎◌, ℕ, zero, suc, Bool, true, false, if◌then◌else◌, List, [], ◌∷◌, ◌++◌, Option, map}
use Rattle.std.specs.List.{flat_map}
use Rattle.std.specs.Io.KnownBytes.{IsAtEnd}
use Rattle.dep_types.specs.State.{State}
use Rattle.dep_types.specs.Writing.{next_count}
use Rattle.dep_types.specs.declared.inlet.LastRead.{LastRead}
use Rattle.dep_types.specs.declared.inlet.LastRead.TheVariants as read
use Rattle.dep_types.specs.declared.config.Config.{Config}
use Rattle.dep_exchange.specs.Records.{World, Line, Live, Absent, with_line, Connect, Arrive, Close, Record, Arrives, LeftByArrival}
use Rattle.dep_hub.specs.Numbers.{most_read}
use Rattle.dep_exchange.specs.declared.arrived.Arrived.{Arrived}
use Rattle.dep_exchange.specs.declared.arrived.Arrived.TheVariants.{Open as StaysOpen, Closed as HasClosed, Cut, NoSuch}
use Rattle.dep_connection.specs.declared.connection.Served.{Served}
use Rattle.dep_connection.specs.declared.connection.Served.TheVariants.{Ended, Closed, Unserved, ReadFault, WriteFault, Bound}

-- a piece that was read, when it came, what was sent for it, and what it came to
pub record ServedPiece : Type 0 where
  pub piece : List ℕ
  pub moment : ℕ
  pub sent : List ℕ
  pub answer : Arrived

-- all that was read, and all that was sent
abbrev pub pieces_of : List ServedPiece → List ℕ
pieces_of turns = flat_map (λ t. t.piece) turns

abbrev pub replies_of : List ServedPiece → List ℕ
replies_of turns = flat_map (λ t. t.sent) turns

abbrev pub record_of : ℕ → ServedPiece → Record
record_of number t = record { event = Arrive number t.piece t.moment; sent = t.sent }

-- the records of one connection, from its opening to its close
abbrev pub records_of : ℕ → List ServedPiece → List Record
records_of number turns =
    record { event = Connect number; sent = [] } ∷ map (record_of number) turns
    ++ record { event = Close number; sent = [] } ∷ []

-- the greatest number of reads
abbrev pub most_reads : ℕ
most_reads = 1048576

abbrev pub IsPiece : ServedPiece → Type 0
IsPiece t = (0 < length t.piece) × (length t.piece ≤ most_read)

abbrev pub ArePieces : List ServedPiece → Type 0
ArePieces [] = Unit {0}
ArePieces (t ∷ turns) = IsPiece t × ArePieces turns

-- the answer to the last piece, or that there was none
abbrev pub last_answer : List ServedPiece → Arrived
last_answer [] = StaysOpen
last_answer (t ∷ []) = t.answer
last_answer (t ∷ u ∷ turns) = last_answer (u ∷ turns)

-- the machine once a connection was opened, and once it was closed
abbrev pub with_opened : ℕ → World → World
with_opened number w = record w { line = with_line number (Live []) w.line }

-- the world once a connection was closed
abbrev pub with_closed : ℕ → World → World
with_closed number w = record w { line = with_line number Absent w.line }

-- the machine answers the turns one after another, each from where the one before left it; a turn
-- that did not leave the connection open is the last
pub data Exchanges (config : Config) (number : ℕ) (first : World) : List ServedPiece → World → Type 0 where
  none_yet : Exchanges config number first [] first
  one_more : {turns : List ServedPiece} {w : World} {left : State} {line : Line} (t : ServedPiece)
      → Exchanges config number first turns w → last_answer turns ≡ StaysOpen
      → Arrives config t.piece t.moment (w.line number) w.state t.sent left line t.answer
      → Exchanges config number first (turns ++ t ∷ [])
      (record { state = left; line = with_line number line w.line })

-- what a stop may leave at the end of the turns: what it may leave at the end of the last, or the
-- first world's state where there is none
abbrev pub LeftByExchanges : {config : Config} {number : ℕ} {first w : World} {turns : List ServedPiece}
    → Exchanges config number first turns w → State → Type 0
LeftByExchanges {first = first} none_yet found = found ≡ first.state
LeftByExchanges (one_more t exchanges stays arrives) found = LeftByArrival arrives found

-- what was sent for these turns, if there are any, has gone out: their outlet hasn't given up
abbrev pub HasGoneOut : List ServedPiece → (has_failed : Bool) → Type 0
HasGoneOut [] has_failed = Unit {0}
HasGoneOut (t ∷ turns) has_failed = has_failed ≡ false

-- why a connection was served no longer, where this was left unread, and its outlet has given up or not
abbrev pub EndsAs : (left : Option (List ℕ)) → (has_failed : Bool) → List ServedPiece → Served → Type 0
EndsAs left has_failed turns Ended = IsAtEnd left × (last_answer turns ≡ StaysOpen)
    × HasGoneOut turns has_failed × (length turns < most_reads)
EndsAs left has_failed turns Closed = (last_answer turns ≡ HasClosed)
    × HasGoneOut turns has_failed × (length turns ≤ most_reads)
EndsAs left has_failed turns WriteFault =
    ((last_answer turns ≡ Cut) ⊎ (¬ HasGoneOut turns has_failed)) × (length turns ≤ most_reads)
EndsAs left has_failed turns ReadFault = (last_answer turns ≡ StaysOpen)
    × HasGoneOut turns has_failed × (length turns < most_reads)
EndsAs left has_failed turns Bound = (last_answer turns ≡ StaysOpen)
    × HasGoneOut turns has_failed × (length turns ≡ most_reads)
EndsAs left has_failed turns Unserved = ⊥

-- how many reads were made: one for each turn, and one that gave nothing or failed
abbrev pub reads_made : List ServedPiece → Served → ℕ
reads_made turns Ended = length turns + 1
reads_made turns ReadFault = length turns + 1
reads_made turns Closed = length turns
reads_made turns WriteFault = length turns
reads_made turns Bound = length turns
reads_made turns Unserved = 0

-- a count of reads after so many more
abbrev pub reads_after : (reads : ℕ) → (more : ℕ) → ℕ
reads_after reads zero = reads
reads_after reads (suc more) = next_count (reads_after reads more)

-- how the last read ended
abbrev pub HasLastRead : LastRead → Served → Type 0
HasLastRead last Ended = last ≡ read.Nothing
HasLastRead last ReadFault = last ≡ read.Failed
HasLastRead last Closed = last ≡ read.Bytes
HasLastRead last WriteFault = last ≡ read.Bytes
HasLastRead last Bound = last ≡ read.Bytes
HasLastRead last Unserved = ⊥

-- what the answer to a turn says of the turns behind it, and of why the connection was served no
-- longer, where its outlet has given up or not
abbrev pub IsEndedBy : Arrived → (has_failed : Bool) → List ServedPiece → (end : Served) → Type 0
IsEndedBy StaysOpen has_failed behind end = has_failed ≡ true → behind ≡ [] → end ≡ WriteFault
IsEndedBy HasClosed has_failed behind end =
    (behind ≡ []) × (end ≡ (if has_failed then WriteFault else Closed))
IsEndedBy Cut has_failed behind end = (behind ≡ []) × (end ≡ WriteFault)
IsEndedBy NoSuch has_failed behind end = ⊥
