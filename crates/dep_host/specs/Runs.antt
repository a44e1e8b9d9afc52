-- Which records the hub's machine makes of what a host does.
use Rattle.std.specs.Prelude.{◌≡◌, ◌==◌, ◌+◌, ℕ, List, [], ◌∷◌, ◌++◌, if◌then◌else◌, Option, Some, false}
use Rattle.std.specs.List.{flat_map}
use Rattle.std.specs.Io.KnownBytes.{append_known}
use Rattle.dep_types.specs.State.{State}
use Rattle.dep_types.specs.Conditions.{Condition}
use Rattle.dep_exchange.specs.Records.{ServerEvent, Record, Connect, Arrive, Close, Stop}
use Rattle.dep_hub.specs.Representing.{IsClean}
use Rattle.dep_hub.specs.Holding.{RepresentsHoldingAfter, with_held}
use Rattle.dep_hub.specs.Owed.{IsOwed}
use Rattle.dep_hub.specs.RepresentsOwing.{behind_at, is_part}
use Rattle.dep_hub.specs.declared.rest.Behind.TheVariants.{Nothing}
use Rattle.dep_hub.specs.declared.sent_on.SentOn.{SentOn}
use Rattle.dep_hub.specs.declared.hub.Hub.{Hub}
use Rattle.dep_outbox.specs.Wires.{reported}
use Rattle.dep_slot.specs.declared.slot.Slot.{Slot}
use Rattle.dep_slot.specs.ConnectionStates.{is_ended}
use Rattle.dep_slot.specs.declared.log.Closing.{Closing}
use Rattle.dep_host.specs.Actions.{Position, IsEmpty, slot_at, AreShown, HostAction, Opens, Takes, Replies, Sends, Declines, Closes}
use Rattle.dep_host.specs.Hosting.{Steps}

-- The records of the actions, from what each connection held at first to what it holds now: a piece is
-- held until the items of it are answered, and a part of what is held arrives with each answer. What is
-- sent of a content is of the reply that its record has.
pub data Follows (first : ℕ → List ℕ) : List HostAction → List Record → (ℕ → List ℕ) → Type 0 where
  begins : Follows first [] [] first
  opens : {actions : List HostAction} {records : List Record} {held : ℕ → List ℕ} (at n : ℕ)
      (given : Option (List ℕ)) → Follows first actions records held
      → Follows first (actions ++ Opens at n given ∷ [])
      (records ++ record { event = Connect n; sent = [] } ∷ []) held
  takes : {actions : List HostAction} {records : List Record} {held : ℕ → List ℕ} (at n : ℕ)
      (piece : List ℕ) → Follows first actions records held
      → Follows first (actions ++ Takes at n piece ∷ []) records (with_held n (held n ++ piece) held)
  replies : {actions : List HostAction} {records : List Record} {held : ℕ → List ℕ} (at n moment : ℕ)
      (part rest sent reply : List ℕ) → Follows first actions records held → held n ≡ part ++ rest
      → Follows first (actions ++ Replies at n moment sent reply ∷ [])
      (records ++ record { event = Arrive n part moment; sent = reply } ∷ []) (with_held n rest held)
  sends : {actions : List HostAction} {records : List Record} {held : ℕ → List ℕ} (at n : ℕ)
      (sent : List ℕ) (answer : SentOn) → Follows first actions records held
      → Follows first (actions ++ Sends at n sent answer ∷ []) records held
  declines : {actions : List HostAction} {records : List Record} {held : ℕ → List ℕ} (at n moment : ℕ)
      (piece part rest sent : List ℕ) → Follows first actions records held
      → held n ++ piece ≡ part ++ rest
      → Follows first (actions ++ Declines at n piece moment sent ∷ [])
      (records ++ record { event = Arrive n part moment; sent = sent } ∷ []) (with_held n rest held)
  closes : {actions : List HostAction} {records : List Record} {held : ℕ → List ℕ} (at n second : ℕ)
      (reason : Closing) → Follows first actions records held
      → Follows first (actions ++ Closes at n second reason ∷ [])
      (records ++ record { event = Close n; sent = [] } ∷ []) (with_held n [] held)

-- behind these records the hub represents those of the actions
pub record RepresentsBehind {A : Type 0} (condition : A → Condition) (hub : Hub A) (first : State)
    (records : List Record) (held : ℕ → List ℕ) (actions : List HostAction) : Type 0 where
  pub more : List Record
  pub holds : ℕ → List ℕ
  pub follows : Follows held actions more holds
  pub represents : RepresentsHoldingAfter condition hub first (records ++ more) holds

-- the bytes that were read of a connection
abbrev pub read_by : ℕ → HostAction → List ℕ
read_by number (Opens at n given) = []
read_by number (Takes at n piece) = if number == n then piece else []
read_by number (Replies at n moment sent reply) = []
read_by number (Sends at n sent answer) = []
read_by number (Declines at n piece moment sent) = if number == n then piece else []
read_by number (Closes at n second reason) = []

-- what all actions read of a connection
abbrev pub read_of : ℕ → List HostAction → List ℕ
read_of number actions = flat_map (λ d. read_by number d) actions

-- the bytes that its source had to give as it was opened, once for each time
abbrev pub given_by : ℕ → HostAction → List (Option (List ℕ))
given_by number (Opens at n given) = if number == n then given ∷ [] else []
given_by number (Takes at n piece) = []
given_by number (Replies at n moment sent reply) = []
given_by number (Sends at n sent answer) = []
given_by number (Declines at n piece moment sent) = []
given_by number (Closes at n second reason) = []

abbrev pub given_of : ℕ → List HostAction → List (Option (List ℕ))
given_of number actions = flat_map (λ d. given_by number d) actions

-- a connection was opened once, what was read of it is a prefix of what its source had to give then, and
-- while it is read still, its source has the rest
pub record ReadsItsSource {R K S : Type 0} (unread : R → Option (List ℕ)) (actions : List HostAction)
    (slot : Slot R K S) : Type 0 where
  pub rest : List ℕ
  pub whole : given_of slot.connection actions ≡ Some (read_of slot.connection actions ++ rest) ∷ []
  pub left : is_ended slot.state.phase ≡ false → unread slot.source ≡ Some rest

-- the bytes that arrived of it
abbrev pub arrived_by : ℕ → ServerEvent → List ℕ
arrived_by number (Connect n) = []
arrived_by number (Arrive n piece moment) = if number == n then piece else []
arrived_by number (Close n) = []
arrived_by number Stop = []

-- what of all records arrived at a connection
abbrev pub arrived_of : ℕ → List Record → List ℕ
arrived_of number records = flat_map (λ r. arrived_by number r.event) records

-- it was never closed
abbrev pub IsKept : ℕ → HostAction → Type 0
IsKept number (Opens at n given) = Unit {0}
IsKept number (Takes at n piece) = Unit {0}
IsKept number (Replies at n moment sent reply) = Unit {0}
IsKept number (Sends at n sent answer) = Unit {0}
IsKept number (Declines at n piece moment sent) = Unit {0}
IsKept number (Closes at n second reason) = number ≡ n → ⊥

-- none of the actions closed it
abbrev pub IsClosedByNone : ℕ → List HostAction → Type 0
IsClosedByNone number [] = Unit {0}
IsClosedByNone number (d ∷ actions) = IsKept number d × IsClosedByNone number actions

-- how many of its items were answered
abbrev pub replies_by : ℕ → HostAction → ℕ
replies_by number (Opens at n given) = 0
replies_by number (Takes at n piece) = 0
replies_by number (Replies at n moment sent reply) = if n == number then 1 else 0
replies_by number (Sends at n sent answer) = 0
replies_by number (Declines at n piece moment sent) = 0
replies_by number (Closes at n second reason) = 0

abbrev pub reply_count : ℕ → List HostAction → ℕ
reply_count number [] = 0
reply_count number (d ∷ actions) = replies_by number d + reply_count number actions

-- how many steps sent a part of a content to it, behind which more is left
abbrev pub parts_by : ℕ → HostAction → ℕ
parts_by number (Opens at n given) = 0
parts_by number (Takes at n piece) = 0
parts_by number (Replies at n moment sent reply) = 0
parts_by number (Sends at n sent answer) =
    if n == number then if is_part answer then 1 else 0 else 0
parts_by number (Declines at n piece moment sent) = 0
parts_by number (Closes at n second reason) = 0

abbrev pub parts_of : ℕ → List HostAction → ℕ
parts_of number [] = 0
parts_of number (d ∷ actions) = parts_by number d + parts_of number actions

-- what the records say was sent to a connection
abbrev pub sent_for : ℕ → ServerEvent → List ℕ → List ℕ
sent_for number (Connect n) sent = []
sent_for number (Arrive n piece moment) sent = if n == number then sent else []
sent_for number (Close n) sent = []
sent_for number Stop sent = []

abbrev pub sent_of : ℕ → List Record → List ℕ
sent_of number records = flat_map (λ r. sent_for number r.event r.sent) records

-- What a host did since it had no connection is a run behind the records before it. Each connection that
-- is there was sent what the run says, but for what is owed to it still: a rest of a stored content, as it
-- is in the state in which the store is, unless a fault broke it off. Its socket took a prefix of what was
-- sent. What was read of it has arrived, but for what is held, and is a prefix of what its source had to give.
pub record KeepsPromise {A R K S : Type 0} (condition : A → Condition) (unread : R → Option (List ℕ))
    (taken : K → Option (List ℕ)) (held : S → Option (List ℕ)) (q : Position A R K S)
    (first : State) (before : List Record) (actions : List HostAction) : Type 0 where
  pub behind : RepresentsBehind condition q.hub first before (λ n. []) actions
  pub owed : ℕ → List ℕ
  pub owes : (number : ℕ) → IsOwed behind.represents.world.state
      (behind_at q.hub.connections.items number) (owed number)
  pub sent : ((sink : K) → AreShown (taken sink)) → ((spool : S) → AreShown (held spool)) → (at : ℕ)
      → (slot : Slot R K S) → slot_at at q.slots ≡ Some slot
      → append_known (reported taken held slot.wire) (owed slot.connection)
      ≡ Some (sent_of slot.connection behind.more)
  pub read : (at : ℕ) → (slot : Slot R K S) → slot_at at q.slots ≡ Some slot
      → read_of slot.connection actions
      ≡ arrived_of slot.connection behind.more ++ behind.holds slot.connection
  pub given : ((source : R) → AreShown (unread source)) → (at : ℕ) → (slot : Slot R K S)
      → slot_at at q.slots ≡ Some slot → ReadsItsSource unread actions slot

-- no content is still to be sent
abbrev pub OwesNone : {A : Type 0} → Hub A → Type 0
OwesNone hub = (number : ℕ) → behind_at hub.connections.items number ≡ Nothing

-- The promise was kept at each moment at which a connection was closed, also to the one that was.
abbrev pub KeptToTheLast : {A R K S : Type 0} → (A → Condition) → (R → Option (List ℕ))
    → (K → Option (List ℕ)) → (S → Option (List ℕ)) → Position A R K S → State → List Record
    → List HostAction → Type 0
KeptToTheLast {A = A} {R = R} {K = K} {S = S} condition unread taken held p first before actions =
    (done later : List HostAction) → (at number second : ℕ) → (reason : Closing)
    → actions ≡ done ++ Closes at number second reason ∷ later
    → (m : Position A R K S) × (Steps condition unread taken held p done m
    × (KeepsPromise condition unread taken held m first before done
    × ((slot : Slot R K S) × ((slot_at at m.slots ≡ Some slot) × (slot.connection ≡ number)))))

-- The archive promise: from a host without connections, to which nothing is owed, over a store that stands
-- for a state a host gets where it keeps its promise, while its store is open.
abbrev pub Promises : {A R K S : Type 0} → (A → Condition) → (R → Option (List ℕ))
    → (K → Option (List ℕ)) → (S → Option (List ℕ)) → Position A R K S → Position A R K S → Type 0
Promises condition unread taken held p q = (first : State) → (before : List Record)
    → IsEmpty p → OwesNone p.hub → RepresentsHoldingAfter condition p.hub first before (λ n. [])
    → IsClean condition q.hub
    → (actions : List HostAction) × (Steps condition unread taken held p actions q
    × (KeepsPromise condition unread taken held q first before actions
    × KeptToTheLast condition unread taken held p first before actions))
