-- What a host makes of what comes to it, event by event.
use Rattle.std.specs.Prelude.{◌≡◌, ◌⊎◌, ◌<◌, ◌≤◌, ◌-◌, ◌^◌, ℕ, Bool, true, false, List, [], ◌∷◌, ◌++◌, length, set, Option, None, Some, IsNone, IsSome, IsSomeAnd}
use Rattle.std.specs.List.{Contains}
use Rattle.std.specs.Option.{option_map}
use Rattle.std.specs.declared.result.Result.{Result}
use Rattle.std.specs.declared.result.Result.TheVariants as result
use Rattle.dep_types.specs.Conditions.{Condition, HasCleanDisk}
use Rattle.dep_types.specs.declared.store_fault.StoreFault.{StoreFault}
use Rattle.dep_types.specs.Writing.{HasRisen}
use Rattle.dep_exchange.specs.Shut.{ReportsOpen}
use Rattle.dep_exchange.specs.ArchiveCalls.{CallLog, Asked, WorkedAhead, Runs, FailsToReport}
use Rattle.dep_hub.specs.WorkingAhead.{RestsAhead}
use Rattle.dep_hub.specs.Numbers.{most_connections, last_number}
use Rattle.dep_hub.specs.declared.faults.ConnectFault.{ConnectFault}
use Rattle.dep_hub.specs.declared.faults.ConnectFault.TheVariants as fault
use Rattle.dep_hub.specs.declared.hub.Hub.{Hub}
use Rattle.dep_slot.specs.declared.slot.Slot.{Slot}
use Rattle.dep_slot.specs.declared.slot.Time.{Time}
use Rattle.dep_host.specs.declared.host.Host.{Host}
use Rattle.dep_host.specs.declared.ending.Cause.{Cause}
use Rattle.dep_host.specs.declared.ending.Cause.TheVariants as cause
use Rattle.dep_host.specs.declared.ending.Shut.{Shut}
use Rattle.dep_slot.specs.declared.log.Rejection.{Rejection}
use Rattle.dep_slot.specs.declared.log.Rejection.TheVariants as refusal
use Rattle.dep_slot.specs.declared.client.Client.{Client}
use Rattle.dep_host.specs.declared.events.Event.{Event}
use Rattle.dep_host.specs.declared.events.Event.TheVariants as came
use Rattle.dep_host.specs.declared.serving.Ended.{Ended}
use Rattle.dep_host.specs.declared.serving.Ended.TheVariants as ended
use Rattle.dep_host.specs.Coming.{PollCall, origin, slots_from, seconds_in}
use Rattle.dep_slot.specs.Causes.{Causes}
use Rattle.dep_slot.specs.Slots.{woken_slot}
use Rattle.dep_host.specs.Actions.{HostAction, IsEmpty, position, slot_at, Opens}
use Rattle.dep_host.specs.Hosting.{OpensSlot, GoesRound, HasTime, IsVacant, HasNothingToDo, Refused, HostStays, Steps}
use Rattle.dep_slot.specs.Notes.{Note, LetIn, Rejected, GrowsWhereShown}
use Rattle.dep_host.specs.Rounds.{EndsInTime, IsReported, is_overdue}

-- a further connection can be seated at the place that is offered, and nowhere where none is
abbrev pub IsOffer : {A R K S : Type 0} → Host A R K S → Option ℕ → Type 0
IsOffer host None = (at : ℕ) → IsVacant host at → ⊥
IsOffer host (Some at) = IsVacant host at

-- nothing can go on before a socket is ready or a time is up, and the store has no work left
pub record IsIdle {A R K S : Type 0} (size : S → ℕ) (host : Host A R K S) : Type 0 where
  pub waits : (at : ℕ) → HasNothingToDo size (slot_at at host.slots.items)
  pub works : host.is_left ≡ false

-- it may be asked so what comes: a free place is offered, if there is one, and it is told as idle only
-- where it is
pub record MayCall {A R K S : Type 0} (size : S → ℕ) (host : Host A R K S) (call : PollCall R K S)
    : Type 0 where
  pub offered : IsOffer host call.offer
  pub idle : call.is_busy ≡ false → IsIdle size host

-- the socket of the connection at a place may be ready, where one is there
pub record Wakes {A R K S : Type 0} (p q : Host A R K S) (at : ℕ) (is_readable is_writable : Bool)
    : Type 0 where
  pub same_hub : q.hub ≡ p.hub
  pub slots : q.slots.items ≡ set p.slots.items at
      (option_map (λ s. woken_slot s is_readable is_writable) (slot_at at p.slots.items))
  pub stays : HostStays p q

-- it is shut, for this cause
abbrev pub IsShutBy : Option Shut → Cause → Type 0
IsShutBy shut why = IsSomeAnd shut (λ s. s.cause ≡ why)

-- It may end as it is shut for this cause: nobody is there any more, or one of these rounds was an
-- idle time later.
abbrev pub MayEnd : {A R K S : Type 0} → Host A R K S → Cause → (rounds : List ℕ) → Type 0
MayEnd host why rounds = IsShutBy host.shut why × (IsEmpty (position host)
    ⊎ ((second : ℕ) × Contains rounds second
    × (is_overdue host.shut second host.limits ≡ true)))

-- since when it is shut once it was told at a second to stop
abbrev pub shut_by : Option Shut → (second : ℕ) → Option Shut
shut_by None second = Some record { second = second; cause = cause.Stop }
shut_by (Some shut) second = Some shut

-- it was told at a second to stop, and nothing else changes
pub record Stops {A R K S : Type 0} (p q : Host A R K S) (second : ℕ) : Type 0 where
  pub same_hub : q.hub ≡ p.hub
  pub same_slots : q.slots.items ≡ p.slots.items
  pub limits : q.limits ≡ p.limits
  pub unanswered : q.unanswered ≡ p.unanswered
  pub first : q.first ≡ p.first
  pub shut : q.shut ≡ shut_by p.shut second

-- what came, of which these were met: an end is the last
abbrev pub all_given : {R K S : Type 0} → Ended → (last : PollCall R K S) → List (PollCall R K S)
    → List (PollCall R K S)
all_given ended.Events last calls = calls ++ last ∷ []
all_given (ended.Shut why) last calls = calls
all_given ended.Spent last calls = calls

-- the hub opens no further connection
abbrev pub IsFull : {A : Type 0} → Hub A → Type 0
IsFull hub = (most_connections ≤ length hub.connections.items) ⊎ (last_number ≤ hub.next)

-- why a client is rejected: of a lack of memory nothing else is said
abbrev pub MayRefuse : {A R K S : Type 0} → Host A R K S → Client R K S → Rejection → Type 0
MayRefuse p client refusal.Address =
    p.limits.address_connections ≤ slots_from (origin client.address) p.slots.items
MayRefuse p client refusal.Full =
    IsNone p.shut × (IsOffer p None ⊎ IsFull p.hub)
MayRefuse p client refusal.Memory = IsNone p.shut
MayRefuse p client refusal.Shut = IsShutBy p.shut cause.Store
MayRefuse p client refusal.Stopped = IsShutBy p.shut cause.Stop

-- why a client is rejected by a host that is shut
abbrev pub refusal_for : Cause → Rejection
refusal_for cause.Store = refusal.Shut
refusal_for cause.Stop = refusal.Stopped

-- why a client is rejected for whom the hub opens no connection
abbrev pub rejection_for : ConnectFault → Rejection
rejection_for fault.Full = refusal.Full
rejection_for fault.Memory = refusal.Memory

-- why a client is rejected where no place is offered, also by a host that isn't shut, for want of a place
abbrev pub refusal_of : Option Shut → Rejection
refusal_of None = refusal.Full
refusal_of (Some shut) = refusal_for shut.cause

module _ {A R K S : Type 0} (condition : A → Condition) (call_log : A → CallLog)
    (unread : R → Option (List ℕ)) (taken : K → Option (List ℕ)) (held : S → Option (List ℕ)) where
  -- What it makes of the answer whether its store is open: it goes on, unless the store is shut, and
  -- counts where this could not be known, for which there was a cause.
  abbrev pub GoesBy : (p q : Host A R K S) → (second : ℕ) → Result Bool StoreFault → Type 0
  GoesBy p q second (result.Ok true) = IsNone q.shut × (q.unanswered ≡ p.unanswered)
      × ReportsOpen (condition q.hub.store) true
  GoesBy p q second (result.Ok false) =
      (q.shut ≡ Some record { second = second; cause = cause.Store })
      × (q.unanswered ≡ p.unanswered) × ReportsOpen (condition q.hub.store) false
  GoesBy p q second (result.Err fault) = IsNone q.shut × HasRisen p.unanswered q.unanswered
      × (HasCleanDisk (condition q.hub.store)
      → FailsToReport (call_log p.hub.store) (call_log q.hub.store) fault)

  -- it asked its store at a second whether it is open, and went by the answer, unless it was shut
  -- before
  pub record IsAsked (p q : Host A R K S) (second : ℕ) : Type 0 where
    pub steps : Steps condition unread taken held (position p) [] (position q)
    pub reported : IsReported p.shut q.shut (second ∷ [])
    pub limits : q.limits ≡ p.limits
    pub first : q.first ≡ p.first
    pub known : (IsSome p.shut × (q ≡ p)) ⊎ ((answer : Result Bool StoreFault)
        × Runs (Asked answer) (call_log p.hub.store) (call_log q.hub.store)
        × GoesBy p q second answer)

  -- it asked whether its store is open, and then had it work ahead, first for a request that is prepared
  pub record AsksOn (p q : Host A R K S) (second : ℕ) : Type 0 where
    pub mid : Host A R K S
    pub asks : IsAsked p mid second
    pub works : Steps condition unread taken held (position mid) [] (position q)
    pub prepares : RestsAhead condition mid.hub q.hub
    pub stays : HostStays mid q
    pub slots : q.slots ≡ p.slots
    pub ahead : Runs (WorkedAhead q.is_left) (call_log mid.hub.store) (call_log q.hub.store)

  -- each place had its turn at that time, and then it was asked whether the store is open; only which contents are
  -- sent on next changes of what bounds it
  pub record MakesRound (size : S → ℕ) (causes : Causes R K S) (p q : Host A R K S) (time : Time)
      (reported reports : Option (List Note)) : Type 0 where
    pub mid : Host A R K S
    pub goes : GoesRound condition unread taken held size causes (position p) (position mid) p.first
        mid.first time reported reports
    pub left : (at : ℕ) → HasTime time.second mid.limits (slot_at at mid.slots.items)
    pub stays : HostStays (record p { first = mid.first }) mid
    pub asks : AsksOn mid q time.second

module _ {A R K S L : Type 0} (condition : A → Condition) (unread : R → Option (List ℕ))
    (taken : K → Option (List ℕ)) (held : S → Option (List ℕ))
    (notes : L → Option (List Note)) where
  -- a client was let in, and its log was told
  pub record LetsIn (p q : Host A R K S) (l m : L) (at : ℕ) (client : Client R K S) : Type 0 where
    pub slot : Slot R K S
    pub comes : OpensSlot condition unread taken held (position p) (position q) at slot
    pub source : slot.source ≡ client.source
    pub wire : slot.wire ≡ client.wire
    pub address : slot.address ≡ client.address
    -- its socket may be ready
    pub readable : slot.state.is_readable ≡ true
    pub writable : slot.state.is_writable ≡ true
    -- fewer are there that come from its address than may
    pub room : slots_from (origin client.address) p.slots.items < p.limits.address_connections
    pub stays : HostStays p q
    pub noted : GrowsWhereShown (notes l) (notes m) (LetIn slot.connection client.address ∷ [])

  -- a client was rejected for a reason, and its log was told
  pub record TurnsAway (p q : Host A R K S) (l m : L) (client : Client R K S) (why : Rejection)
      : Type 0 where
    pub keeps : Refused condition unread taken held (position p) (position q)
    pub may : MayRefuse p client why
    pub stays : HostStays p q
    pub noted : GrowsWhereShown (notes l) (notes m) (Rejected client.address why ∷ [])

  -- what became of a client that came to a place
  abbrev pub Admits : (p q : Host A R K S) → (l m : L) → (at : ℕ) → Client R K S
      → Result (Unit {0}) Rejection → Type 0
  Admits p q l m at client (result.Ok _) = LetsIn p q l m at client
  Admits p q l m at client (result.Err why) = TurnsAway p q l m client why

module _ {A R K S L : Type 0} (condition : A → Condition) (call_log : A → CallLog)
    (unread : R → Option (List ℕ)) (taken : K → Option (List ℕ)) (held : S → Option (List ℕ))
    (size : S → ℕ) (causes : Causes R K S) (notes : L → Option (List Note)) where
  -- what it makes of one event, before which this place was offered: who is let in is there
  pub data Meets (p q : Host A R K S) (l m : L) : (offer : Option ℕ) → Event R K S → List HostAction
      → Type 0 where
    wakes : {offer : Option ℕ} {at : ℕ} {r w : Bool} → Wakes p q at r w → m ≡ l
        → Meets p q l m offer (came.Ready at r w) []
    lets_in : {client : Client R K S} {at : ℕ}
        → (let_in : LetsIn condition unread taken held notes p q l m at client)
        → Meets p q l m (Some at) (came.Client client)
        (Opens at let_in.slot.connection (unread let_in.slot.source) ∷ [])
    turns_away : {offer : Option ℕ} {client : Client R K S} {why : Rejection}
        → TurnsAway condition unread taken held notes p q l m client why
        → Meets p q l m offer (came.Client client) []
    makes_round : {offer : Option ℕ} {time : Time}
        → (round : MakesRound condition call_log unread taken held size causes p q time (notes l)
        (notes m))
        → Meets p q l m offer (came.Round time) round.goes.actions
    stops : {offer : Option ℕ} {second : ℕ} → Stops p q second → m ≡ l
        → Meets p q l m offer (came.Stop second) []

  -- an event was met by some actions, or was the end, by whether it goes on
  abbrev pub IsMet : {T : Type 0} → (p q : Host A R K S) → (l m : L) → (offer : Option ℕ)
      → Event R K S → Result T Ended → Type 0
  IsMet p q l m offer event (result.Ok now) =
      (actions : List HostAction) × Meets p q l m offer event actions
  IsMet p q l m offer event (result.Err ended.Events) = (event ≡ came.End) × (q ≡ p) × (m ≡ l)
  IsMet p q l m offer event (result.Err (ended.Shut why)) =
      (actions : List HostAction) × Meets p q l m offer event actions
  IsMet p q l m offer event (result.Err ended.Spent) = ⊥

  -- what it makes of all of them, one after another, and all its actions in them: before each a free
  -- place was offered, if there was one, and it was told as idle only where it was
  pub data MeetsAll (p : Host A R K S) (l : L)
      : List (PollCall R K S) → List HostAction → Host A R K S → L → Type 0 where
    begins : MeetsAll p l [] [] p l
    goes_on : {calls : List (PollCall R K S)} {call : PollCall R K S} {actions more : List HostAction}
        {q n : Host A R K S} {m o : L} → MeetsAll p l calls actions q m → MayCall size q call
        → Meets q n m o call.offer call.event more
        → MeetsAll p l (calls ++ call ∷ []) (actions ++ more) n o

  -- What came in a call, where it is shown, and what became of each, by these actions and no others: it
  -- was met, up to the end, and no round was too late, nor the end of what is shut too soon. No more
  -- is asked for once so many came.
  pub record Met (reported_old reported_new : Option (List (PollCall R K S))) (p q : Host A R K S) (l m : L)
      (actions : List HostAction) (most : ℕ) (end : Ended) : Type 0 where
    pub calls : List (PollCall R K S)
    pub last : PollCall R K S
    pub given : GrowsWhereShown reported_old reported_new (all_given end last calls)
    pub each : MeetsAll p l calls actions q m
    pub steps : Steps condition unread taken held (position p) actions (position q)
    pub ends : end ≡ ended.Events → MayCall size q last × (last.event ≡ came.End)
    pub in_time : EndsInTime (seconds_in calls) p.shut q.shut q.limits end
    pub may_end : (why : Cause) → end ≡ ended.Shut why → MayEnd q why (seconds_in calls)
    pub spent : end ≡ ended.Spent → length calls ≡ most

-- so many events are met at most
abbrev pub most_events : ℕ
most_events = 2 ^ 64 - 1
