-- How a host goes on: what becomes of its places, what comes to its hub, and what its wires take for it.
use Rattle.std.specs.Prelude.{◌≡◌, ◌⊎◌, ◌<◌, ◌≤◌, ◌+◌, ◌==◌, nat_lt, ℕ, Bool, List, [], ◌∷◌, ◌++◌, length, set, Option, None, Some, is_some, IfSome, IsSomeAnd, IsNone, if◌then◌else◌, true, false}
use Rattle.std.specs.Io.KnownBytes.{IsAtEnd}
use Rattle.dep_types.specs.Conditions.{Condition}
use Rattle.dep_exchange.specs.Records.{Line, Live, Absent, World}
use Rattle.dep_hub.specs.Representing.{IsClean}
use Rattle.dep_hub.specs.Holding.{KeepsHolding, LineTransition, RepresentsHolding, with_held}
use Rattle.dep_hub.specs.RepresentsOwing.{KeepsBack, behind_at, is_awaited_at}
use Rattle.dep_hub.specs.WorkingAhead.{RestsAhead}
use Rattle.dep_hub.specs.declared.rest.Behind.TheVariants.{Nothing}
use Rattle.dep_hub.specs.declared.sent_on.SentOn.{SentOn}
use Rattle.dep_hub.specs.declared.hub.Hub.{Hub}
use Rattle.dep_outbox.specs.Wires.{reported, owed_count}
use Rattle.dep_slot.specs.declared.connection_state.Phase.TheVariants.{Open, Answering, Draining, Over}
use Rattle.dep_slot.specs.declared.connection_state.NextAction.{NextAction}
use Rattle.dep_slot.specs.declared.connection_state.NextAction.TheVariants as to
use Rattle.dep_slot.specs.declared.slot.Slot.{Slot}
use Rattle.dep_slot.specs.declared.slot.Time.{Time}
use Rattle.dep_host.specs.declared.host.Host.{Host}
use Rattle.dep_host.specs.declared.ending.Shut.{Shut}
use Rattle.dep_slot.specs.declared.limits.Limits.{Limits}
use Rattle.dep_slot.specs.declared.log.Closing.{Closing}
use Rattle.dep_slot.specs.declared.log.Closing.TheVariants as ends
use Rattle.dep_slot.specs.ConnectionStates.{StaysOrIsOver, closing, next_action, is_ended, is_held_back, phase_begun}
use Rattle.dep_slot.specs.Causes.{Causes, HasCauses}
use Rattle.dep_slot.specs.Notes.{Note, LetGo, GrowsWhereShown}
use Rattle.dep_slot.specs.Slots.{HubStays, IsPutOff, SameBehind, SameClient, OwesLess, slot_action, phase_sent, IsUnknown, SlotRests, OffersPiece, Refuses, AnswersAtSlot, Delays, Sends as SendsContent}
use Rattle.dep_host.specs.Sharing.{IsNextPlace, is_turn, most_sent}
use Rattle.dep_host.specs.Actions.{Position, position, slot_at, HostAction, answers_at, pieces_at, sendings_at, sendings_in, unfinished_of, unfinished_in, closings_of, AreDoneAt, IsRightlyReported, Opens, Takes, Replies, Sends, Declines, Closes}

-- the hub stands at each world at which it stood, while its store is open
abbrev pub HubStandsStill : {A : Type 0} → (A → Condition) → (old new : Hub A) → Type 0
HubStandsStill condition old new = IsClean condition new → (w : World) → (kept : ℕ → List ℕ)
    → RepresentsHolding condition old w kept → RepresentsHolding condition new w kept

-- more bytes of unfinished requests are kept than may be, and for no connection more than this one,
-- of which no request can be complete
pub record IsTooLarge {A R K S : Type 0} (p : Position A R K S) (slot : Slot R K S) : Type 0 where
  pub full : p.limits.unfinished_bytes < unfinished_in p.slots
  pub largest : (place : ℕ) → unfinished_of (slot_at place p.slots) ≤ slot.state.unfinished
  pub waits : slot.state.phase ≡ Open

-- who is at a place is read, and none of its requests can be complete
abbrev pub IsReadAt : {A R K S : Type 0} → Position A R K S → ℕ → Type 0
IsReadAt p at = IsSomeAnd (slot_at at p.slots) (λ slot. slot.state.phase ≡ Open)

-- no connection has to be closed for what is kept of it: that isn't too much, or what one has that has
-- most may be a whole request
abbrev pub MayKeep : {A R K S : Type 0} → Position A R K S → Type 0
MayKeep p = (unfinished_in p.slots ≤ p.limits.unfinished_bytes) ⊎ ((at : ℕ)
    × ((place : ℕ) → unfinished_of (slot_at place p.slots) ≤ unfinished_of (slot_at at p.slots))
    × (IsReadAt p at → ⊥))

-- why a connection is closed
abbrev pub HasReason : {A R K S : Type 0} → Position A R K S → (second : ℕ) → Slot R K S → Closing
    → Type 0
HasReason p second slot reason = (closing slot.state second p.limits ≡ Some reason)
    ⊎ ((reason ≡ ends.Large) × IsTooLarge p slot)

module _ {A R K S : Type 0} (condition : A → Condition) (unread : R → Option (List ℕ))
    (taken : K → Option (List ℕ)) (held : S → Option (List ℕ)) where
  -- a connection is opened, over a wire that took nothing, and is where nobody sat; not once it is
  -- shut
  pub record OpensSlot (p q : Position A R K S) (at : ℕ) (slot : Slot R K S) : Type 0 where
    pub there : at < length p.slots
    pub free : slot_at at p.slots ≡ None
    pub sits : q.slots ≡ set p.slots at (Some slot)
    pub is_next : slot.connection ≡ p.hub.next
    pub next : q.hub.next ≡ p.hub.next + 1
    pub moves : LineTransition condition p.hub q.hub slot.connection (Live []) (λ kept. kept)
    pub unowed : behind_at q.hub.connections.items slot.connection ≡ Nothing
    pub behind : SameBehind p.hub q.hub
    pub same_store : q.hub.store ≡ p.hub.store
    pub same_config : q.hub.config ≡ p.hub.config
    pub fresh : IsAtEnd (reported taken held slot.wire)
    pub opens : slot.state.phase ≡ Open
    pub uncounted : slot.state.unfinished ≡ 0
    pub is_open : IsNone p.shut
    pub same_limits : q.limits ≡ p.limits
    pub same_shut : q.shut ≡ p.shut

  -- no connection could be opened, or nothing was to be done
  pub record Refused (p q : Position A R K S) : Type 0 where
    pub sits : q.slots ≡ p.slots
    pub next : q.hub.next ≡ p.hub.next
    pub keeps : (lines : ℕ → Line) → (kept : ℕ → List ℕ) → KeepsHolding condition p.hub lines kept
        → KeepsHolding condition q.hub lines kept
    pub behind : SameBehind p.hub q.hub
    pub same_store : q.hub.store ≡ p.hub.store
    pub same_config : q.hub.config ≡ p.hub.config
    pub same_limits : q.limits ≡ p.limits
    pub same_shut : q.shut ≡ p.shut

  -- the hub is asked whether its store is open, and may say for the first time that it isn't; or the
  -- store works ahead, also for the request that is prepared; or it is told to stop, for the first time
  pub record Asks (p q : Position A R K S) : Type 0 where
    pub sits : q.slots ≡ p.slots
    pub hub : HubStays condition p.hub q.hub
    pub represents : HubStandsStill condition p.hub q.hub
    pub behind : SameBehind p.hub q.hub ⊎ RestsAhead condition p.hub q.hub
    pub same_limits : q.limits ≡ p.limits
    pub reported : (q.shut ≡ p.shut) ⊎ (IsNone p.shut × IsRightlyReported condition q)

  -- a connection has its turn, and no other place changes
  pub record GivesTurn (p q : Position A R K S) (at : ℕ) (before after : Slot R K S) : Type 0 where
    pub there : at < length p.slots
    pub sat : slot_at at p.slots ≡ Some before
    pub sits : q.slots ≡ set p.slots at (Some after)
    pub client : SameClient before after
    pub hub : HubStays condition p.hub q.hub
    pub ended : is_ended before.state.phase ≡ true → is_ended after.state.phase ≡ true
    pub same_limits : q.limits ≡ p.limits
    pub same_shut : q.shut ≡ p.shut

  -- a connection is closed for a reason
  pub record Goes (p q : Position A R K S) (at second : ℕ) (reason : Closing) (slot : Slot R K S)
      : Type 0 where
    pub there : at < length p.slots
    pub sat : slot_at at p.slots ≡ Some slot
    pub gone : q.slots ≡ set p.slots at None
    pub done : HasReason p second slot reason
    pub next : q.hub.next ≡ p.hub.next
    pub moves : LineTransition condition p.hub q.hub slot.connection Absent (with_held slot.connection [])
    pub behind : (number : ℕ) → behind_at q.hub.connections.items number
        ≡ (if number == slot.connection then Nothing
        else behind_at p.hub.connections.items number)
    pub same_store : q.hub.store ≡ p.hub.store
    pub same_config : q.hub.config ≡ p.hub.config
    pub same_limits : q.limits ≡ p.limits
    pub same_shut : q.shut ≡ p.shut

  -- one step of a host, and what it does in it
  pub data HostStep (p q : Position A R K S) : List HostAction → Type 0 where
    refused : Refused p q → HostStep p q []
    asks : Asks p q → HostStep p q []
    comes : {at : ℕ} {slot : Slot R K S} → OpensSlot p q at slot
        → HostStep p q (Opens at slot.connection (unread slot.source) ∷ [])
    rests : {at : ℕ} {before after : Slot R K S} → GivesTurn p q at before after
        → SlotRests condition unread taken held p.hub q.hub before after → HostStep p q []
    offers : {at : ℕ} {is_full : Bool} {before after : Slot R K S} → GivesTurn p q at before after
        → (o : OffersPiece condition unread taken held p.hub q.hub before after is_full (is_some p.shut))
        → HostStep p q (Takes at before.connection o.piece ∷ [])
    delays : {at : ℕ} {before after : Slot R K S} → GivesTurn p q at before after
        → Delays condition unread taken held p.hub q.hub before after → HostStep p q []
    sends : {at : ℕ} {before after : Slot R K S} → GivesTurn p q at before after
        → (s : SendsContent condition unread taken held p.hub q.hub before after)
        → HostStep p q (Sends at before.connection s.sends.sent s.answer ∷ [])
    refuses : {at moment : ℕ} {is_full : Bool} {before after : Slot R K S}
        → GivesTurn p q at before after
        → (r : Refuses condition unread taken held p.hub q.hub before after moment is_full
        (is_some p.shut))
        → HostStep p q (Declines at before.connection r.piece moment r.answers.sent ∷ [])
    answers : {at moment : ℕ} {before after : Slot R K S} → GivesTurn p q at before after
        → (a : AnswersAtSlot condition unread taken held p.hub q.hub before after moment)
        → HostStep p q (Replies at before.connection moment a.now a.answers.sent ∷ [])
    leaves : {at second : ℕ} {reason : Closing} {slot : Slot R K S} → Goes p q at second reason slot
        → HostStep p q (Closes at slot.connection second reason ∷ [])

  -- one step after another, and all that the host does in them
  pub data Steps (first : Position A R K S) : List HostAction → Position A R K S → Type 0 where
    begins : Steps first [] first
    goes_on : {actions more : List HostAction} {p q : Position A R K S} → Steps first actions p
        → HostStep p q more → Steps first (actions ++ more) q

  -- it goes from one position to another by some actions
  abbrev pub LeadsTo : Position A R K S → Position A R K S → Type 0
  LeadsTo first last = (actions : List HostAction) × Steps first actions last

  -- the largest is closed, and the log is told so, or nothing is done, where nothing has to be
  abbrev pub EvictsLargest : Position A R K S → Position A R K S → (second : ℕ) → List HostAction
      → (reported reports : Option (List Note)) → Type 0
  EvictsLargest p q second actions reported reports =
      ((q ≡ p) × MayKeep p × (actions ≡ []) × (reports ≡ reported))
      ⊎ ((at : ℕ) × (slot : Slot R K S) × Goes p q at second ends.Large slot
      × (actions ≡ Closes at slot.connection second ends.Large ∷ [])
      × GrowsWhereShown reported reports (LetGo slot.connection ends.Large ∷ []))

  -- a connection was closed by one of these actions, as it was then
  pub record IsClosed (p q : Position A R K S) (actions : List HostAction) (place : ℕ) (slot : Slot R K S)
      : Type 0 where
    pub earlier : List HostAction
    pub later : List HostAction
    pub second : ℕ
    pub reason : Closing
    pub all : actions ≡ earlier ++ Closes place slot.connection second reason ∷ later
    pub mid : Position A R K S
    pub next : Position A R K S
    pub came : Steps p earlier mid
    pub goes : Goes mid next place second reason slot
    pub rest : Steps next later q

  -- it is there still, as it is, or was closed as it was then
  abbrev pub IsLeftOrClosed : (p q : Position A R K S) → List HostAction → (place : ℕ) → Slot R K S → Type 0
  IsLeftOrClosed p q actions place slot = (slot_at place q.slots ≡ Some slot)
      ⊎ IsClosed p q actions place slot

-- what a connection does next once its turn begins, where a request waits for what is sent to it or not
abbrev pub turn_action : {R K S : Type 0} → (S → ℕ) → Option Shut → Slot R K S → (is_awaited : Bool)
    → NextAction
turn_action size shut slot is_awaited = next_action (phase_begun slot.state.phase (is_some shut)) is_awaited
    (nat_lt 0 (owed_count size slot.wire)) slot.state.is_readable slot.state.is_writable

module _ {A R K S : Type 0} (condition : A → Condition) (unread : R → Option (List ℕ))
    (taken : K → Option (List ℕ)) (held : S → Option (List ℕ)) (size : S → ℕ)
    (causes : Causes R K S) where
  -- behind the first of these actions the hub was asked, and this is so of what it was and what it then was
  pub record IsOnce (So : (old new : Hub A) → Type 0) (p q : Position A R K S) (actions : List HostAction)
      : Type 0 where
    pub earlier : List HostAction
    pub later : List HostAction
    pub all : actions ≡ earlier ++ later
    pub mid : Position A R K S
    pub next : Position A R K S
    pub came : Steps condition unread taken held p earlier mid
    pub is : So mid.hub next.hub
    pub goes : Steps condition unread taken held next later q

  -- behind the first of these actions the hub had no connection of that number
  abbrev pub IsLost : (p q : Position A R K S) → List HostAction → (number : ℕ) → Type 0
  IsLost p q actions number = IsOnce (λ old new. IsUnknown old number) p q actions

  -- and there a request waited for the content that is sent to it, or not
  abbrev pub WasAwaited : (p q : Position A R K S) → List HostAction → (number : ℕ) → Bool → Type 0
  WasAwaited p q actions number is_awaited =
      IsOnce (λ old new. is_awaited_at old.connections.items number ≡ is_awaited) p q actions

  -- and there its next item was kept back: it stays as it was, and isn't closed for that
  pub record IsKeptBack (p q : Position A R K S) (actions : List HostAction) (before after : Slot R K S)
      : Type 0 where
    pub keeps : IsOnce (λ old new. KeepsBack condition (reported taken held before.wire)
        (reported taken held after.wire) before.wire.failures after.wire.failures old new
        before.connection) p q actions
    pub stays : after.state.phase ≡ Answering
    pub stirs : after.state.has_moved ≡ true
    pub counts_not : after.state.is_kept_back ≡ true
    pub leaves : after.state.unfinished ≡ before.state.unfinished

  -- What was to be done for a connection was done, after which it is this: its next item was answered, or
  -- kept back for what is sent to others or to be prepared; one step of a content was sent, where it is its turn, and it goes on as
  -- that came to; what is owed was sent, as far as its socket takes it; a piece was read, where one may be and
  -- the socket had one; or its client was told that nothing more is sent. But for that it is as far as it
  -- was once its turn began, or over.
  abbrev pub IsServed : (p q : Position A R K S) → (actions : List HostAction) → (is_full may_send : Bool)
      → (before after : Slot R K S) → (answered read : ℕ) → (sent : List SentOn) → NextAction → Type 0
  IsServed p q actions is_full may_send before after answered read sent to.Flush = OwesLess size before after
      × StaysOrIsOver (phase_begun before.state.phase (is_some p.shut)) after.state.phase
  IsServed p q actions is_full may_send before after answered read sent to.Answer = (answered ≡ 1)
      ⊎ (IsLost p q actions before.connection ⊎ IsKeptBack p q actions before after)
  IsServed p q actions is_full may_send before after answered read sent to.Send =
      ((may_send ≡ true) × ((answer : SentOn) × (sent ≡ answer ∷ []) × (after.state.phase
      ≡ phase_sent (phase_begun before.state.phase (is_some p.shut)) answer)))
      ⊎ ((may_send ≡ false) × (sent ≡ []) × IsPutOff size before after
      × StaysOrIsOver (phase_begun before.state.phase (is_some p.shut)) after.state.phase)
  IsServed p q actions is_full may_send before after answered read sent to.Read = (read ≡ 1)
      ⊎ (((is_held_back before.state is_full (is_some p.shut) ≡ true)
      × (after.state.phase ≡ phase_begun before.state.phase (is_some p.shut)))
      ⊎ (((after.state.is_readable ≡ false)
      × (after.state.phase ≡ phase_begun before.state.phase (is_some p.shut)))
      ⊎ (after.state.phase ≡ Over)))
  IsServed p q actions is_full may_send before after answered read sent to.Finish =
      after.state.phase ≡ Draining
  IsServed p q actions is_full may_send before after answered read sent to.Drain =
      StaysOrIsOver (phase_begun before.state.phase (is_some p.shut)) after.state.phase
  IsServed p q actions is_full may_send before after answered read sent to.Wait =
      after.state.phase ≡ phase_begun before.state.phase (is_some p.shut)

  -- A connection had its turn, in which it was served, and after which it is or was this. Where it
  -- waits for its socket since, or is over, its socket or its spool said so in that turn.
  pub record IsTurned (p q : Position A R K S) (is_full may_send : Bool) (actions : List HostAction)
      (place : ℕ) (before : Slot R K S) : Type 0 where
    pub after : Slot R K S
    pub left : IsLeftOrClosed condition unread taken held p q actions place after
    pub caused : HasCauses causes (IsLost p q actions before.connection) before after
    pub is_awaited : Bool
    pub asked : WasAwaited p q actions before.connection is_awaited
    pub served : IsServed p q actions is_full may_send before after (answers_at place actions)
        (pieces_at place actions) (sendings_at place actions) (turn_action size p.shut before is_awaited)

  -- so had who sat at a place, where somebody did
  abbrev pub IsServedAt : (p q : Position A R K S) → (is_full may_send : Bool) → (actions : List HostAction)
      → (place : ℕ) → Option (Slot R K S) → Type 0
  IsServedAt p q is_full may_send actions place None = Unit {0}
  IsServedAt p q is_full may_send actions place (Some slot) =
      IsTurned p q is_full may_send actions place slot

  -- one place has its turn, where too many bytes of unfinished requests are kept or not; a content was sent on,
  -- which may be, or not
  pub record ServesSlot (p q : Position A R K S) (at : ℕ) (time : Time) (is_full may_send has_sent : Bool)
      (reported reports : Option (List Note)) : Type 0 where
    pub actions : List HostAction
    pub steps : Steps condition unread taken held p actions q
    pub once : answers_at at actions ≤ 1
    pub others : (place : ℕ) → (place ≡ at → ⊥) → answers_at place actions ≡ 0
    pub waits : is_full ≡ true → 0 < unfinished_of (slot_at at p.slots) → pieces_at at actions ≡ 0
    pub unread_others : (place : ℕ) → (place ≡ at → ⊥) → pieces_at place actions ≡ 0
    pub sends_once : length (sendings_at at actions) ≤ 1
    pub unsent_others : (place : ℕ) → (place ≡ at → ⊥) → sendings_at place actions ≡ []
    pub counted : sendings_in actions ≡ (if has_sent then 1 else 0)
    pub allowed : has_sent ≡ true → may_send ≡ true
    pub served : IsServedAt p q is_full may_send actions at (slot_at at p.slots)
    pub in_time : AreDoneAt time actions
    -- what the log was told before, and what it was told then
    pub noted : GrowsWhereShown reported reports (closings_of actions)

  -- Each place has its turn, in which it is served: of no connection more than one item is
  -- answered, to none more than one step of a content sent, and where too many bytes of unfinished requests are
  -- kept, nothing more is read of these. No more than so many contents are sent on, of those whose turn it is: of
  -- each at the first place and behind it, until they are so many. The next round goes on behind these.
  pub record GoesRound (p q : Position A R K S) (first next : ℕ) (time : Time)
      (reported reports : Option (List Note)) : Type 0 where
    pub actions : List HostAction
    pub steps : Steps condition unread taken held p actions q
    pub once : (place : ℕ) → answers_at place actions ≤ 1
    pub waits : p.limits.unfinished_bytes < unfinished_in p.slots → (place : ℕ)
        → 0 < unfinished_of (slot_at place p.slots) → pieces_at place actions ≡ 0
    pub sends_once : (place : ℕ) → length (sendings_at place actions) ≤ 1
    pub sends_few : sendings_in actions ≤ most_sent
    pub goes_by : IsNextPlace (length p.slots) first next (sendings_in actions)
    pub served : (place : ℕ) → IsServedAt p q
        (nat_lt p.limits.unfinished_bytes (unfinished_in p.slots)) (is_turn first next place) actions
        place (slot_at place p.slots)
    pub in_time : AreDoneAt time actions
    pub noted : GrowsWhereShown reported reports (closings_of actions)
    -- once each had its turn, the largest is closed where it has to be, by the last of the actions
    pub evicts : (turned : Position A R K S) × (early : List HostAction) × (last : List HostAction)
        × (so_far : Option (List Note)) × (actions ≡ early ++ last)
        × Steps condition unread taken held p early turned × GrowsWhereShown reported so_far (closings_of early)
        × EvictsLargest condition unread taken held turned q time.second last so_far reports

-- who is at a place has time left, and is not over
abbrev pub HasTime : {R K S : Type 0} → (second : ℕ) → Limits → Option (Slot R K S) → Type 0
HasTime second limits None = Unit {0}
HasTime second limits (Some slot) = closing slot.state second limits ≡ None

-- who is at a place has nothing to do before its socket is ready or its time is up
abbrev pub HasNothingToDo : {R K S : Type 0} → (S → ℕ) → Option (Slot R K S) → Type 0
HasNothingToDo size None = Unit {0}
HasNothingToDo size (Some slot) = slot_action size slot ≡ to.Wait

-- a further connection can be seated at a place
abbrev pub IsVacant : {A R K S : Type 0} → Host A R K S → ℕ → Type 0
IsVacant host at = (at < length host.slots.items) × (slot_at at host.slots.items ≡ None)
    × IsNone host.shut

-- what bounds a host, since when it is shut, how many places it has and from which contents are sent on next is as
-- it was
pub record HostStays {A R K S : Type 0} (old new : Host A R K S) : Type 0 where
  pub places : length new.slots.items ≡ length old.slots.items
  pub limits : new.limits ≡ old.limits
  pub shut : new.shut ≡ old.shut
  pub unanswered : new.unanswered ≡ old.unanswered
  pub first : new.first ≡ old.first

-- what a log is told of who is at a place and is closed for a reason
abbrev pub farewell : {R K S : Type 0} → Closing → Option (Slot R K S) → List Note
farewell reason None = []
farewell reason (Some slot) = LetGo slot.connection reason ∷ []

-- a connection is at a place that may be closed for a reason
abbrev pub MayGo : {A R K S : Type 0} → Position A R K S → (second : ℕ) → Closing
    → Option (Slot R K S) → Type 0
MayGo p second reason None = ⊥
MayGo p second reason (Some slot) = HasReason p second slot reason

module _ {A R K S : Type 0} (condition : A → Condition) (unread : R → Option (List ℕ))
    (taken : K → Option (List ℕ)) (held : S → Option (List ℕ)) where
  -- who sat at a place, if anybody did, is gone from there, and nothing else changed
  pub record Closed (p q : Host A R K S) (at second : ℕ) (reason : Closing) : Type 0 where
    pub goes : IfSome (slot_at at p.slots.items)
        (Goes condition unread taken held (position p) (position q) at second reason)
    pub gone : slot_at at q.slots.items ≡ None
    pub others : (place : ℕ) → (place ≡ at → ⊥)
        → slot_at place q.slots.items ≡ slot_at place p.slots.items
    pub stays : HostStays p q
