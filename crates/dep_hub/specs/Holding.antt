-- A hub whose connections hold bytes that were offered and have not arrived: they arrive as the
-- items that they complete are answered, one at a time.
use Rattle.std.specs.Prelude.{◌≡◌, ◌==◌, ◌≤◌, ◌+◌, ℕ, List, [], ◌∷◌, ◌++◌, length, if◌then◌else◌, Option, None, Some}
use Rattle.std.specs.Io.KnownBytes.{Appends, Keeps}
use Rattle.dep_types.specs.State.{State}
use Rattle.dep_types.specs.declared.config.Config.{Config}
use Rattle.dep_types.specs.Conditions.{Condition, Represents, Leaves}
use Rattle.dep_message.specs.Places.{Place, Reading, place_with}
use Rattle.dep_message.specs.Stream.{Item}
use Rattle.dep_exchange.specs.Machine.{Serves, serves_all, step_fails, gives_up, SendsUpTo, out_of_memory}
use Rattle.dep_exchange.specs.Records.{ServerEvent, Arrive, Record, stopped, Run, Line, World, first_world, with_line, Arrives, at_live, at_shut_line, LeftByArrival}
use Rattle.dep_hub.specs.Representing.{IsKeptAs, intake_of, store_of, IsClean, IsHonest, IsNoSuch}
use Rattle.dep_exchange.specs.Causes.{HasCause}
use Rattle.dep_exchange.specs.Shut.{LeavesNoMore, IfShut, SendsFixed}
use Rattle.dep_exchange.specs.declared.arrived.Arrived.{Arrived}
use Rattle.dep_exchange.specs.declared.arrived.Arrived.TheVariants as came
use Rattle.dep_exchange.specs.declared.next.Next.{Next}
use Rattle.dep_exchange.specs.declared.next.Next.TheVariants.{More, Waiting, Closed, Cut, NoSuch}
use Rattle.dep_hub.specs.declared.hub.Hub.{Hub}

-- the bytes that each connection holds, with these of one
abbrev pub with_held : ℕ → List ℕ → (ℕ → List ℕ) → ℕ → List ℕ
with_held number bytes held n = if n == number then bytes else held n

-- an intake that was fed bytes more
abbrev pub fed : Reading → List ℕ → Reading
fed reading bytes = record reading { place = place_with reading.place bytes }

-- how a connection of the machine is kept, with bytes that have not arrived: its intake is one that
-- keeps it, fed these bytes
abbrev pub IsHeldAs : ℕ → Line → (held : List ℕ) → Option Reading → Type 0
IsHeldAs limit line held None = IsKeptAs limit line None × (held ≡ [])
IsHeldAs limit line held (Some reading) =
    (head_only : Reading) × IsKeptAs limit line (Some head_only) × (reading ≡ fed head_only held)

-- how many items an arrival answers
abbrev pub items_served : {config : Config} {reads : List Item → Place → Type 0} {s : State}
    {moment : ℕ} {sent : List ℕ} {left : State} {at : Place} {answer : Arrived}
    → Serves config reads s moment sent left at answer → ℕ
items_served (serves_all items reads waits) = length items
items_served (step_fails items item at reads fails) = length items + 1
items_served (gives_up items at reads some sends) = length items

abbrev pub items_answered : {config : Config} {piece : List ℕ} {moment : ℕ} {line after : Line}
    {s left : State} {sent : List ℕ} {answer : Arrived}
    → Arrives config piece moment line s sent left after answer → ℕ
items_answered (at_live serves) = items_served serves
items_answered at_shut_line = 0

-- what is said of such an arrival: how many items it answered, which bytes are held still, and
-- which were sent
abbrev pub ArrivalOutcome : Type 1
ArrivalOutcome = (items : ℕ) → (rest sent : List ℕ) → Type 0

-- the next item was answered
abbrev pub IsNext : Next → ArrivalOutcome
IsNext More items rest sent = items ≡ 1
IsNext Waiting items rest sent = (items ≡ 0) × (rest ≡ []) × (sent ≡ [])
IsNext Closed items rest sent = (items ≤ 1) × (rest ≡ [])
IsNext Cut items rest sent = (items ≤ 1) × (rest ≡ [])
IsNext NoSuch items rest sent = ⊥

-- memory ran out for a piece that was offered: no item was answered, and nothing is held
abbrev pub IsRefused : Arrived → ArrivalOutcome
IsRefused answer items rest sent = (items ≡ 0) × (rest ≡ []) × SendsUpTo out_of_memory sent answer

-- an arrival with such an outcome
abbrev pub ArrivesAs : ArrivalOutcome → Config → (part : List ℕ) → (moment : ℕ) → (line : Line) → (s : State)
    → (sent : List ℕ) → (left : State) → (after : Line) → Arrived → (rest : List ℕ) → Type 0
ArrivesAs outcome config part moment line s sent left after answer rest =
    (a : Arrives config part moment line s sent left after answer)
    × outcome (items_answered a) rest sent

module _ {A : Type 0} (condition : A → Condition) where
  -- the hub keeps each of these lines, and holds these bytes of each connection
  abbrev pub KeepsHolding : Hub A → (ℕ → Line) → (ℕ → List ℕ) → Type 0
  KeepsHolding hub lines held = (number : ℕ)
      → IsHeldAs hub.config.max_upload (lines number) (held number)
      (intake_of hub.connections.items number)

  -- the hub keeps what the machine is, and holds these bytes of each connection
  pub record RepresentsHolding (hub : Hub A) (w : World) (held : ℕ → List ℕ) : Type 0 where
    pub state : Represents (store_of condition hub) w.state
    pub kept : KeepsHolding hub w.line held

  -- the machine may be there after these records, and the hub holds these bytes
  pub record RepresentsHoldingAfter (hub : Hub A) (first : State) (records : List Record)
      (held : ℕ → List ℕ) : Type 0 where
    pub world : World
    pub run : Run hub.config first records world
    pub at : RepresentsHolding hub world held

  -- the hub represents the same records, and holds the same bytes, while its store is open
  abbrev pub RepresentsOn : Hub A → Hub A → Type 0
  RepresentsOn old new = IsClean condition new → (first : State) (records : List Record)
      → (held : ℕ → List ℕ) → RepresentsHoldingAfter old first records held
      → RepresentsHoldingAfter new first records held

  -- what a stop now leaves represents the same records and a stop
  abbrev pub StopsOn : Hub A → Hub A → Type 0
  StopsOn old new = IsHonest condition new → (first : State) (records : List Record)
      → (held : ℕ → List ℕ) → RepresentsHoldingAfter old first records held
      → Leaves (store_of condition new)
      (λ found. Run old.config first (records ++ stopped ∷ []) (first_world found))

  -- whatever lines the hub kept, and whatever it held, it keeps and holds them still
  abbrev pub HoldsOn : Hub A → Hub A → Type 0
  HoldsOn old new = (lines : ℕ → Line) → (held : ℕ → List ℕ)
      → KeepsHolding old lines held → KeepsHolding new lines held

  -- whatever lines the hub kept, and whatever it held, this line is another now
  abbrev pub LineTransition : Hub A → Hub A → (number : ℕ) → Line → (left : (ℕ → List ℕ) → ℕ → List ℕ)
      → Type 0
  LineTransition old new number line left = (lines : ℕ → Line) → (held : ℕ → List ℕ)
      → KeepsHolding old lines held → KeepsHolding new (with_line number line lines) (left held)

  -- No connection had a part in it: the hub represents the same records, holds the same bytes, and
  -- what a stop now leaves represents them too. The store keeps what it kept, in this sense.
  pub record RestsOn (Keeps : Condition → Condition → Type 0) (old new : Hub A) : Type 0 where
    pub represents : RepresentsOn old new
    pub stops : StopsOn old new
    pub store : Keeps (store_of condition old) (store_of condition new)
    pub config : new.config ≡ old.config
    pub connections : new.connections ≡ old.connections
    pub next : new.next ≡ old.next

  -- A part of the bytes that were offered arrives, as a piece of its own, and the rest is held. From
  -- a world at which the hub stood; the clauses are those of an arrival (`ArrivesTo`).
  pub record PartArrives (config : Config) (new : Hub A) (number : ℕ) (offered : List ℕ)
      (moment : ℕ) (sent : List ℕ) (failures failures_after : ℕ) (answer : Arrived) (w : World)
      (held : ℕ → List ℕ) : Type 0 where
    pub part : List ℕ
    pub rest : List ℕ
    pub whole : offered ≡ part ++ rest
    pub left : State
    pub line : Line
    pub arrives : Arrives config part moment (w.line number) w.state sent left line answer
    pub represents : IsClean condition new
        → RepresentsHolding new (record { state = left; line = with_line number line w.line })
        (with_held number rest held)
    pub rests : IsClean condition new → Leaves (store_of condition new) (λ found. found ≡ left)
    pub stays_clean : answer ≡ came.Open → IsClean condition new
    pub stop : Leaves (store_of condition new) (LeftByArrival arrives)
    pub cause : answer ≡ came.Cut → HasCause failures failures_after arrives

  -- whatever lines the hub kept, and whatever it held, a part arrives from any state, and that state
  -- stays
  pub record PartArrivesStill (config : Config) (new : Hub A) (number : ℕ) (offered : List ℕ)
      (moment : ℕ) (sent : List ℕ) (answer : Arrived) (outcome : ArrivalOutcome) (lines : ℕ → Line)
      (held : ℕ → List ℕ) : Type 0 where
    pub part : List ℕ
    pub rest : List ℕ
    pub whole : offered ≡ part ++ rest
    pub line : Line
    pub arrives : (s : State)
        → ArrivesAs outcome config part moment (lines number) s sent s line answer rest
    pub kept : KeepsHolding new (with_line number line lines) (with_held number rest held)

  -- so at a hub whose store was shut: nothing of what it keeps is sent (`ArrivesShut`)
  pub record AnswersShut (old new : Hub A) (number : ℕ) (offered : List ℕ → List ℕ) (moment : ℕ)
      (sent : List ℕ) (answer : Arrived) (outcome : ArrivalOutcome) : Type 0 where
    pub sends : SendsFixed sent answer
    pub leaves : LeavesNoMore (store_of condition old) (store_of condition new)
    pub goes_on : (lines : ℕ → Line) → (held : ℕ → List ℕ) → KeepsHolding old lines held
        → PartArrivesStill old.config new number (offered (held number)) moment sent answer outcome
        lines held

  -- the same over an outlet, from whatever world the hub stood at, and whatever it held
  pub record AnswersOver (taken takes : Option (List ℕ)) (failures failures_after : ℕ)
      (old new : Hub A) (number : ℕ) (offered : List ℕ → List ℕ) (moment : ℕ) (answer : Arrived)
      (outcome : ArrivalOutcome) : Type 0 where
    pub sent : List ℕ
    pub appends : Appends taken takes sent
    pub answers : IsHonest condition new → (w : World) → (held : ℕ → List ℕ)
        → RepresentsHolding old w held
        → (a : PartArrives old.config new number (offered (held number)) moment sent failures
        failures_after answer w held)
        × outcome (items_answered a.arrives) a.rest sent
    pub shut : IfShut (store_of condition old) (store_of condition new)
        (AnswersShut old new number offered moment sent answer outcome)

  -- what answering the next item of a connection makes of it
  abbrev pub ComesToNext : (taken takes : Option (List ℕ)) → (failures failures_after : ℕ)
      → (old new : Hub A) → (number : ℕ) → (moment : ℕ) → Next → Type 0
  ComesToNext taken takes failures failures_after old new number moment NoSuch =
      IsNoSuch condition taken takes old new number
  ComesToNext taken takes failures failures_after old new number moment More =
      AnswersOver taken takes failures failures_after old new number (λ held. held) moment
      came.Open (IsNext More)
  ComesToNext taken takes failures failures_after old new number moment Waiting =
      AnswersOver taken takes failures failures_after old new number (λ held. held) moment
      came.Open (IsNext Waiting)
  ComesToNext taken takes failures failures_after old new number moment Closed =
      AnswersOver taken takes failures failures_after old new number (λ held. held) moment
      came.Closed (IsNext Closed)
  ComesToNext taken takes failures failures_after old new number moment Cut =
      AnswersOver taken takes failures failures_after old new number (λ held. held) moment
      came.Cut (IsNext Cut)

  -- the connection holds the piece too, and nothing is sent
  pub record Offers (taken takes : Option (List ℕ)) (failures failures_after : ℕ) (old new : Hub A)
      (number : ℕ) (piece : List ℕ) : Type 0 where
    pub holds : (lines : ℕ → Line) → (held : ℕ → List ℕ) → KeepsHolding old lines held
        → KeepsHolding new lines (with_held number (held number ++ piece) held)
    pub sends_nothing : Keeps taken takes
    pub same_failures : failures_after ≡ failures

  -- What is made of a piece that is offered. Where memory runs out, all that is held arrives with the
  -- piece, at whatever moment, and the connection ends.
  abbrev pub OffersTo : (taken takes : Option (List ℕ)) → (failures failures_after : ℕ)
      → (old new : Hub A) → (number : ℕ) → (piece : List ℕ) → Arrived → Type 0
  OffersTo taken takes failures failures_after old new number piece came.Open =
      Offers taken takes failures failures_after old new number piece
  OffersTo taken takes failures failures_after old new number piece came.Closed =
      (moment : ℕ) → AnswersOver taken takes failures failures_after old new number
      (λ held. held ++ piece) moment came.Closed (IsRefused came.Closed)
  OffersTo taken takes failures failures_after old new number piece came.Cut =
      (moment : ℕ) → AnswersOver taken takes failures failures_after old new number
      (λ held. held ++ piece) moment came.Cut (IsRefused came.Cut)
  OffersTo taken takes failures failures_after old new number piece came.NoSuch =
      IsNoSuch condition taken takes old new number

  -- an arrival of a part of what was held is a run's next record, and the rest is held, while the
  -- store is open
  abbrev pub AnswersAdd : Hub A → Hub A → Type 0
  AnswersAdd old new = (n : ℕ) (offered : List ℕ) (moment : ℕ) (sent : List ℕ)
      (failures failures_after : ℕ) (answer : Arrived) (first : State) (records : List Record)
      (held : ℕ → List ℕ) (h : RepresentsHoldingAfter old first records held)
      (a : PartArrives old.config new n offered moment sent failures failures_after answer h.world held)
      → new.config ≡ old.config → IsClean condition new
      → RepresentsHoldingAfter new first
      (records ++ record { event = Arrive n a.part moment; sent = sent } ∷ []) (with_held n a.rest held)

  -- what a stop at its end leaves represents that record and a stop
  abbrev pub AnswersStop : Hub A → Hub A → Type 0
  AnswersStop old new = (n : ℕ) (offered : List ℕ) (moment : ℕ) (sent : List ℕ)
      (failures failures_after : ℕ) (answer : Arrived) (first : State) (records : List Record)
      (held : ℕ → List ℕ) (h : RepresentsHoldingAfter old first records held)
      (a : PartArrives old.config new n offered moment sent failures failures_after answer h.world held)
      → Leaves (store_of condition new) (λ found. Run old.config first
      (records ++ record { event = Arrive n a.part moment; sent = sent } ∷ stopped ∷ [])
      (first_world found))

  -- an event for which nothing is sent, and which moves one line, is a run's next record, with the
  -- store as it was
  abbrev pub LineAdds : Hub A → Hub A → ServerEvent → (number : ℕ) → Line
      → (left : (ℕ → List ℕ) → ℕ → List ℕ) → Type 0
  LineAdds old new event number line left = (first : State) (records : List Record)
      (held : ℕ → List ℕ) → RepresentsHoldingAfter old first records held
      → new.config ≡ old.config → new.store ≡ old.store → LineTransition old new number line left
      → RepresentsHoldingAfter new first (records ++ record { event = event; sent = [] } ∷ []) (left held)

  -- what a stop leaves represents the records that were answered and a stop
  abbrev pub StopsAnswered : Hub A → Type 0
  StopsAnswered hub = (first : State) (records : List Record) (held : ℕ → List ℕ)
      → RepresentsHoldingAfter hub first records held
      → Leaves (store_of condition hub)
      (λ found. Run hub.config first (records ++ stopped ∷ []) (first_world found))
