-- Lists of calls on a hub, each of which left of it what its contract says.
use Rattle.std.specs.Prelude.{◌≡◌, ℕ, List, [], ◌∷◌, ◌++◌, Option}
use Rattle.dep_types.specs.State.{State}
use Rattle.dep_types.specs.Conditions.{Condition}
use Rattle.dep_exchange.specs.Records.{Connect, Arrive, Close, Record, World}
use Rattle.dep_hub.specs.Representing.{RepresentsAt, RepresentsAfter, AddsRecord, ComesTo}
use Rattle.dep_hub.specs.declared.hub.Hub.{Hub}
use Rattle.dep_exchange.specs.declared.arrived.Arrived.{Arrived}
use Rattle.dep_exchange.specs.declared.arrived.Arrived.TheVariants.{Open as StaysOpen, Closed, Cut, NoSuch}

module _ {A : Type 0} (condition : A → Condition) where
  -- a connection was opened under this number (`Hub::connect`)
  pub record Connects (old new : Hub A) (number : ℕ) : Type 0 where
    pub config : new.config ≡ old.config
    pub store : new.store ≡ old.store
    pub adds : AddsRecord condition old new (Connect number) []

  -- no connection could be opened (`Hub::connect`)
  pub record RefusesConnection (old new : Hub A) : Type 0 where
    pub config : new.config ≡ old.config
    pub store : new.store ≡ old.store
    pub same : (w : World) → RepresentsAt condition old w → RepresentsAt condition new w

  -- the connection of this number was closed, or wasn't there (`Hub::close`)
  pub record Closes (old new : Hub A) (number : ℕ) : Type 0 where
    pub config : new.config ≡ old.config
    pub store : new.store ≡ old.store
    pub adds : AddsRecord condition old new (Close number) []

  -- a piece of the stream of this number came, and was answered over an outlet, by what the outlet shows
  -- before and after (`Hub::arrive`)
  pub record Comes (old new : Hub A) (number : ℕ) (piece : List ℕ) (moment : ℕ) (answer : Arrived)
      : Type 0 where
    pub held : Option (List ℕ)
    pub holds : Option (List ℕ)
    pub failures : ℕ
    pub failures_after : ℕ
    pub config : new.config ≡ old.config
    pub comes : ComesTo condition held holds failures failures_after old new number piece moment answer

  -- the record of an arrival, with the bytes that were sent for it; there is none where no connection has
  -- the number
  abbrev pub arrival_records : (old new : Hub A) (number : ℕ) (piece : List ℕ) (moment : ℕ) (answer : Arrived)
      → Comes old new number piece moment answer → List Record
  arrival_records old new number piece moment NoSuch c = []
  arrival_records old new number piece moment StaysOpen c =
      record { event = Arrive number piece moment; sent = c.comes.sent } ∷ []
  arrival_records old new number piece moment Closed c =
      record { event = Arrive number piece moment; sent = c.comes.sent } ∷ []
  arrival_records old new number piece moment Cut c =
      record { event = Arrive number piece moment; sent = c.comes.sent } ∷ []

  -- one call, with the records that it adds
  pub data Call (old new : Hub A) : List Record → Type 0 where
    connects : (number : ℕ) → Connects old new number
        → Call old new (record { event = Connect number; sent = [] } ∷ [])
    refuses : RefusesConnection old new → Call old new []
    closes : (number : ℕ) → Closes old new number
        → Call old new (record { event = Close number; sent = [] } ∷ [])
    arrives : (number : ℕ) (piece : List ℕ) (moment : ℕ) (answer : Arrived)
        (c : Comes old new number piece moment answer)
        → Call old new (arrival_records old new number piece moment answer c)

  -- one call after another, each on what the one before left
  pub data Calls (first : Hub A) : List Record → Hub A → Type 0 where
    none : Calls first [] first
    and_then : {records more : List Record} {mid new : Hub A}
        → Calls first records mid → Call mid new more → Calls first (records ++ more) new

  -- for all records that a hub represented, another represents them with these behind
  abbrev pub RepresentsMore : (old new : Hub A) → (more : List Record) → Type 0
  RepresentsMore old new more = (first : State) (records : List Record)
      → RepresentsAfter condition old first records
      → RepresentsAfter condition new first (records ++ more)
