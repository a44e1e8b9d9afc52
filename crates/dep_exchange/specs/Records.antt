-- Lists of arrivals, and the runs of the deposit machine that they allow.
use Rattle.std.specs.Prelude.{◌≡◌, ℕ, ◌==◌, List, [], ◌∷◌, ◌++◌, false, if◌then◌else◌}
use Rattle.dep_types.specs.State.{State}
use Rattle.dep_types.specs.declared.config.Config.{Config}
use Rattle.dep_message.specs.Places.{Place, Open, Shut}
use Rattle.dep_message.specs.Stream.{Item, ReadsItems, Spells}
use Rattle.dep_exchange.specs.Machine.{Serves}
use Rattle.dep_exchange.specs.Stops.{LeftByServing, EndsGivenUp}
use Rattle.dep_exchange.specs.declared.arrived.Arrived.{Arrived}
use Rattle.dep_exchange.specs.declared.arrived.Arrived.TheVariants.{Closed}

-- what happens to a server: a connection is opened, bytes of one arrive at a moment, one is closed;
-- or the server stops, which ends every connection
pub data ServerEvent : Type 0 where
  Connect : (number : ℕ) → ServerEvent
  Arrive : (number : ℕ) (piece : List ℕ) (moment : ℕ) → ServerEvent
  Close : (number : ℕ) → ServerEvent
  Stop : ServerEvent

-- an event, with the bytes that were sent for it
pub record Record : Type 0 where
  pub event : ServerEvent
  pub sent : List ℕ

-- a connection of the machine: not there, with its whole stream, or making no more steps
pub data Line : Type 0 where
  Absent : Line
  Live : (stream : List ℕ) → Line
  ShutLine : Line

-- the machine: what it keeps, and each connection by its number
pub record World : Type 0 where
  pub state : State
  pub line : ℕ → Line

abbrev pub with_line : ℕ → Line → (ℕ → Line) → ℕ → Line
with_line number line lines n = if n == number then line else lines n

-- a state, and no connection
abbrev pub first_world : State → World
first_world s = record { state = s; line = λ _. Absent }

-- a live connection goes on with its longer stream; where the reading has come to an end it has
-- ended
abbrev pub line_after : List ℕ → Place → Line
line_after stream (Open continued rest) = Live stream
line_after stream Shut = ShutLine

-- the items that are complete with the piece and not before: those that the stream spells with it,
-- less those that it spelled without
abbrev pub ReadsBeyond : ℕ → List ℕ → List ℕ → List Item → Place → Type 0
ReadsBeyond limit stream piece items at =
    (earlier : List Item) × (left : Place) × Spells limit stream earlier left
    × ReadsItems limit (Open false (stream ++ piece)) (earlier ++ items) at

-- an arrival at a connection: what is sent, what is kept, what becomes of it, what is answered
pub data Arrives (config : Config) (piece : List ℕ) (moment : ℕ)
    : Line → State → (sent : List ℕ) → State → Line → Arrived → Type 0 where
  at_live : {stream sent : List ℕ} {s left : State} {at : Place} {answer : Arrived}
      → Serves config (ReadsBeyond config.max_upload stream piece) s moment sent left at answer
      → Arrives config piece moment (Live stream) s sent left
      (line_after (stream ++ piece) at) answer
  at_shut_line : {s : State} → Arrives config piece moment ShutLine s [] s ShutLine Closed

-- what a stop may leave at the end of an arrival
abbrev pub LeftByArrival : {config : Config} {piece : List ℕ} {moment : ℕ} {line after : Line}
    {s left : State}
    {sent : List ℕ} {answer : Arrived}
    → Arrives config piece moment line s sent left after answer → State → Type 0
LeftByArrival (at_live serves) found = LeftByServing serves found
LeftByArrival {s = s} at_shut_line found = found ≡ s

-- the last item that the arrival began was sent a fixed reply in place of its own
abbrev pub MayShut : {config : Config} {piece : List ℕ} {moment : ℕ} {line after : Line}
    {s left : State}
    {sent : List ℕ} {answer : Arrived}
    → Arrives config piece moment line s sent left after answer → Type 0
MayShut (at_live serves) = EndsGivenUp serves
MayShut at_shut_line = ⊥

-- what may happen to the machine
pub data Happens (config : Config) (w : World) : ServerEvent → List ℕ → World → Type 0 where
  connects : {n : ℕ}
      → Happens config w (Connect n) [] (record w { line = with_line n (Live []) w.line })
  closes : {n : ℕ} → Happens config w (Close n) [] (record w { line = with_line n Absent w.line })
  arrives : {n moment : ℕ} {piece sent : List ℕ} {left : State} {line : Line} {answer : Arrived}
      → Arrives config piece moment (w.line n) w.state sent left line answer
      → Happens config w (Arrive n piece moment) sent
      (record { state = left; line = with_line n line w.line })
  unknown : {n moment : ℕ} {piece : List ℕ} → w.line n ≡ Absent
      → Happens config w (Arrive n piece moment) [] w

-- the record of a stop, by a crash or not
abbrev pub stopped : Record
stopped = record { event = Stop; sent = [] }

-- the machine may be there after these records, from a state and no connection
pub data Run (config : Config) (first : State) : List Record → World → Type 0 where
  begins : Run config first [] (first_world first)
  goes_on : {records : List Record} {event : ServerEvent} {sent : List ℕ} {w w' : World}
      → Run config first records w → Happens config w event sent w'
      → Run config first (records ++ record { event = event; sent = sent } ∷ []) w'
  -- it stops between two calls, or at the end of one that left all well
  stops : {records : List Record} {w : World} → Run config first records w
      → Run config first (records ++ stopped ∷ []) (first_world w.state)
  -- it stops at the end of an arrival after which the store may be shut, and what is found is what that
  -- arrival may leave
  breaks : {records : List Record} {n moment : ℕ} {piece sent : List ℕ} {w : World} {left : State}
      {line : Line} {answer : Arrived} (found : State)
      → Run config first records w
      → (a : Arrives config piece moment (w.line n) w.state sent left line answer)
      → MayShut a → LeftByArrival a found
      → Run config first
      (records ++ record { event = Arrive n piece moment; sent = sent } ∷ stopped ∷ [])
      (first_world found)
