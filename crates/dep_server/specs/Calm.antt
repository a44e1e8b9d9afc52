-- Runs in which no step fails, and the steps that they make.
use Rattle.std.specs.Prelude.{Bool, false, ◌≡◌, ◌==◌, ℕ, List, [], ◌++◌, map, if◌then◌else◌}
use Rattle.std.specs.List.{flat_map}
use Rattle.dep_types.specs.State.{State}
use Rattle.dep_types.specs.declared.config.Config.{Config}
use Rattle.dep_message.specs.Places.{Place}
use Rattle.dep_message.specs.Stream.{Item, Waits}
use Rattle.dep_exchange.specs.Machine.{Serves, serves_all}
use Rattle.dep_exchange.specs.Records.{ServerEvent, Connect, Arrive, Close, Stop, Record, Line, Absent, World, Run, begins, goes_on, stops, Happens, connects, closes, arrives, unknown, Arrives, at_live, at_shut_line, ReadsBeyond}
use Rattle.dep_exchange.specs.declared.arrived.Arrived.{Arrived}
use Rattle.dep_server.specs.Runs.{AnyRun}

-- a step: whose item it is, and when
pub record SteppedItem : Type 0 where
  pub number : ℕ
  pub item : Item
  pub moment : ℕ

abbrev pub steps_of : ℕ → ℕ → List Item → List SteppedItem
steps_of number moment items =
    map (λ item. record { number = number; item = item; moment = moment }) items

-- an arrival at a live connection of this number that makes just these steps
pub data CalmServes {config : Config} {reads : List Item → Place → Type 0} {s : State} {moment : ℕ}
    (number : ℕ)
    : (sent : List ℕ) → (left : State) → (at : Place) → (answer : Arrived)
    → Serves config reads s moment sent left at answer → List SteppedItem → Type 0 where
  all_served : (items : List Item) {at : Place} (r : reads items at)
      (w : Waits config.max_upload at)
      → CalmServes number _ _ _ _ (serves_all items r w) (steps_of number moment items)

-- an arrival at a connection
pub data CalmArrives {config : Config} {piece : List ℕ} {moment : ℕ} (number : ℕ)
    : (line after : Line) → (s left : State) → (sent : List ℕ) → (answer : Arrived)
    → Arrives config piece moment line s sent left after answer → List SteppedItem → Type 0 where
  live : {stream sent : List ℕ} {s left : State} {at : Place} {answer : Arrived}
      {steps : List SteppedItem}
      (v : Serves config (ReadsBeyond config.max_upload stream piece) s moment sent left at answer)
      → CalmServes number _ _ _ _ v steps
      → CalmArrives number _ _ _ _ _ _ (at_live v) steps
  shut_line : {s : State} → CalmArrives number _ _ _ _ _ _ (at_shut_line {s = s}) []

-- an event
pub data Calm {config : Config} {w : World}
    : (event : ServerEvent) → (sent : List ℕ) → (w' : World) → Happens config w event sent w'
    → List SteppedItem → Type 0 where
  connect : {n : ℕ} → Calm _ _ _ (connects {n = n}) []
  close : {n : ℕ} → Calm _ _ _ (closes {n = n}) []
  arrive : {n moment : ℕ} {piece sent : List ℕ} {left : State} {line : Line} {answer : Arrived}
      {steps : List SteppedItem}
      (a : Arrives config piece moment (w.line n) w.state sent left line answer)
      → CalmArrives n _ _ _ _ _ _ a steps → Calm _ _ _ (arrives {n = n} a) steps
  none : {n moment : ℕ} {piece : List ℕ} (e : w.line n ≡ Absent)
      → Calm _ _ _ (unknown {n = n} {moment = moment} {piece = piece} e) []

-- a run, in which the server stops only between two calls
pub data CalmRun {config : Config} {first : State}
    : (records : List Record) → (w : World) → Run config first records w → List SteppedItem
    → Type 0 where
  nothing : CalmRun _ _ begins []
  more : {records : List Record} {event : ServerEvent} {sent : List ℕ} {w w' : World}
      {steps next : List SteppedItem}
      (r : Run config first records w) (h : Happens config w event sent w')
      → CalmRun _ _ r steps → Calm _ _ _ h next → CalmRun _ _ (goes_on r h) (steps ++ next)
  stop : {records : List Record} {w : World} {steps : List SteppedItem}
      (r : Run config first records w)
      → CalmRun _ _ r steps → CalmRun _ _ (stops r) steps

-- a run without failed steps, and the steps that it makes
pub record AnyCalmRun : Type 0 where
  pub run : AnyRun
  pub steps : List SteppedItem
  pub calm : CalmRun run.records run.last run.run steps

-- two runs begin under the same configuration, from the same state
pub record BeginAlike (a b : AnyCalmRun) : Type 0 where
  pub config : a.run.config ≡ b.run.config
  pub first : a.run.first ≡ b.run.first

-- an event of the connection of this number
abbrev pub is_event_of : ℕ → ServerEvent → Bool
is_event_of n (Connect m) = m == n
is_event_of n (Arrive m piece moment) = m == n
is_event_of n (Close m) = m == n
is_event_of n Stop = false

abbrev pub bytes_if : Bool → List ℕ → List ℕ
bytes_if b bytes = if b then bytes else []

-- what was sent to one connection
abbrev pub sent_to : ℕ → List Record → List ℕ
sent_to n records = flat_map (λ r. bytes_if (is_event_of n r.event) r.sent) records

-- they send the same bytes, each connection its own, and end in the same state
pub record RunsEndAlike (a b : AnyCalmRun) : Type 0 where
  pub sent : (n : ℕ) → sent_to n a.run.records ≡ sent_to n b.run.records
  pub state : a.run.last.state ≡ b.run.last.state
