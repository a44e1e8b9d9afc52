-- What a turn of a connection does: what of it comes to the hub, and what is sent for it.
use Rattle.std.specs.Prelude.{◌≡◌, ◌≢◌, ◌⊎◌, ◌<◌, ◌≤◌, ◌+◌, ◌-◌, ◌^◌, min, nat_lt, ℕ, Bool, List, ◌++◌, length, Option, None, if◌then◌else◌, true, false}
use Rattle.std.specs.Io.KnownBytes.{Appends, Keeps, Consumes, IsAtEnd}
use Rattle.dep_types.specs.Conditions.{Condition}
use Rattle.dep_exchange.specs.Records.{Line}
use Rattle.dep_exchange.specs.Nexts.{arrived_after}
use Rattle.dep_hub.specs.Numbers.{most_read}
use Rattle.dep_hub.specs.Representing.{IsClean, IsHonest, intake_of}
use Rattle.dep_hub.specs.Holding.{KeepsHolding, AnswersOver, IsNext, IsRefused, with_held}
use Rattle.dep_exchange.specs.Owing.{with_more}
use Rattle.dep_hub.specs.Owed.{bytes_later}
use Rattle.dep_hub.specs.Claims.{is_content}
use Rattle.dep_hub.specs.RepresentsOwing.{BeginsUnawaited, KeepsBack, NextIsFree, NextIsPrepared, OthersStay, Owes, SendsOn, behind_at, is_unsent}
use Rattle.dep_hub.specs.declared.rest.Behind.TheVariants.{Broken}
use Rattle.dep_hub.specs.declared.sent_on.SentOn.{SentOn}
use Rattle.dep_hub.specs.declared.sent_on.SentOn.TheVariants.{Part, All, Broken as BrokenOff}
use Rattle.dep_hub.specs.declared.hub.Hub.{Hub}
use Rattle.dep_exchange.specs.declared.arrived.Arrived.{Arrived}
use Rattle.dep_exchange.specs.declared.arrived.Arrived.TheVariants as came
use Rattle.dep_exchange.specs.declared.next.Next.{Next}
use Rattle.dep_exchange.specs.declared.next.Next.TheVariants.{More, Waiting, NoSuch}
use Rattle.dep_outbox.specs.Wires.{reported, owed, owed_count}
use Rattle.dep_slot.specs.declared.slot.Slot.{Slot}
use Rattle.dep_slot.specs.declared.connection_state.Phase.{Phase}
use Rattle.dep_slot.specs.declared.connection_state.Phase.TheVariants.{Open, Answering, Sending, SendingLast, Last, Draining, Over}
use Rattle.dep_slot.specs.declared.connection_state.NextAction.{NextAction}
use Rattle.dep_slot.specs.declared.connection_state.NextAction.TheVariants as to
use Rattle.dep_slot.specs.ConnectionStates.{SendsStill, StaysOrEnds, StaysOrIsOver, next_action, is_ended, is_held_back, is_sending, woken}
use Rattle.dep_slot.specs.Causes.{Causes, HasCauses}

-- its socket may be ready
abbrev pub woken_slot : {R K S : Type 0} → Slot R K S → (is_readable is_writable : Bool) → Slot R K S
woken_slot slot r w = record slot { state = woken slot.state r w }

-- how far a connection is once a piece of it was offered
abbrev pub phase_offered : Arrived → Phase
phase_offered came.Open = Answering
phase_offered came.NoSuch = Over
phase_offered arrived = Last

-- and once its next item was answered, behind whose reply a content is sent or not
abbrev pub phase_answered : Next → (is_sending : Bool) → Phase
phase_answered More sends = if sends then Sending else Answering
phase_answered Waiting sends = if sends then Sending else Open
phase_answered NoSuch sends = Over
phase_answered next sends = if sends then SendingLast else Last

-- and once the content behind its last reply is out
abbrev pub phase_behind : Phase → Phase
phase_behind Sending = Answering
phase_behind p = Last

-- and once a few blocks of that were sent
abbrev pub phase_sent : Phase → SentOn → Phase
phase_sent p Part = p
phase_sent p All = phase_behind p
phase_sent p BrokenOff = Last

-- how many bytes were read since an item was answered last, once that was answered
abbrev pub left_unfinished : Next → ℕ → ℕ
left_unfinished Waiting n = n
left_unfinished next n = 0

-- a connection is the one that it was, of the same client
pub record SameClient {R K S : Type 0} (before after : Slot R K S) : Type 0 where
  pub connection : after.connection ≡ before.connection
  pub address : after.address ≡ before.address

-- bytes are owed to it
abbrev pub owes_some : {R K S : Type 0} → (S → ℕ) → Slot R K S → Bool
owes_some size slot = nat_lt 0 (owed_count size slot.wire)

-- what a connection does next
abbrev pub slot_action : {R K S : Type 0} → (S → ℕ) → Slot R K S → NextAction
slot_action size slot = next_action slot.state.phase slot.state.is_awaited (owes_some size slot)
    slot.state.is_readable slot.state.is_writable

-- it does this next, where it is so far and nothing is owed
pub record IsDue {R K S : Type 0} (held : S → Option (List ℕ)) (size : S → ℕ) (slot : Slot R K S)
    (so_far : Phase) (next : NextAction) : Type 0 where
  pub unowed : IsAtEnd (owed held slot.wire)
  pub phase : slot.state.phase ≡ so_far
  pub due : slot_action size slot ≡ next

-- fewer bytes are owed, or the socket takes no more now, or it or the spool failed
abbrev pub OwesLess : {R K S : Type 0} → (S → ℕ) → (before after : Slot R K S) → Type 0
OwesLess size before after = (owed_count size after.wire < owed_count size before.wire)
    ⊎ ((after.state.is_writable ≡ false) ⊎ (after.state.phase ≡ Over))

-- what is owed was sent, as far as the socket takes it, and not more or less
pub record Flushes {R K S : Type 0} (taken : K → Option (List ℕ)) (held : S → Option (List ℕ))
    (size : S → ℕ) (causes : Causes R K S) (before after : Slot R K S) : Type 0 where
  pub keeps : Keeps (reported taken held before.wire) (reported taken held after.wire)
  pub failures : after.wire.failures ≡ before.wire.failures
  pub same : after ≡ record before { wire = after.wire; state = after.state }
  pub state : StaysOrEnds before.state after.state
  pub sends : 0 < owed_count size before.wire → OwesLess size before after
  pub caused : HasCauses causes ⊥ before after

-- Its content was put off, as it wasn't its turn: what is owed was sent, as far as the socket takes it, and where
-- nothing is, it isn't closed for that.
pub record IsPutOff {R K S : Type 0} (size : S → ℕ) (before after : Slot R K S) : Type 0 where
  pub sends : before.state.is_writable ≡ true → 0 < owed_count size before.wire
      → OwesLess size before after
  pub stirs : owed_count size before.wire ≡ 0 → after.state.has_moved ≡ true
  pub counts_not : owed_count size before.wire ≡ 0 → after.state.is_kept_back ≡ true

-- so it was, and nothing else changes, but that it may be over
pub record PutsOff {R K S : Type 0} (taken : K → Option (List ℕ)) (held : S → Option (List ℕ))
    (size : S → ℕ) (causes : Causes R K S) (before after : Slot R K S) : Type 0 where
  pub keeps : Keeps (reported taken held before.wire) (reported taken held after.wire)
  pub same : after ≡ record before { wire = after.wire; state = after.state }
  pub phase : StaysOrIsOver before.state.phase after.state.phase
  pub moved : after.state.moved ≡ before.state.moved
  pub unfinished : after.state.unfinished ≡ before.state.unfinished
  pub put_off : IsPutOff size before after
  pub caused : HasCauses causes ⊥ before after

-- its client was told that nothing more is sent, and from here on what it sends is thrown away
pub record Finishes {R K S : Type 0} (taken : K → Option (List ℕ)) (held : S → Option (List ℕ))
    (before after : Slot R K S) : Type 0 where
  pub keeps : reported taken held after.wire ≡ reported taken held before.wire
  pub same : after ≡ record before { wire = after.wire; state = after.state }
  pub state : after.state ≡ record before.state {
    phase = Draining;
    has_moved = true;
    unfinished = 0;
  }

-- the hub has no connection of that number
abbrev pub IsUnknown : {A : Type 0} → Hub A → ℕ → Type 0
IsUnknown hub number = intake_of hub.connections.items number ≡ None

-- behind the last reply of each connection stands what stood there
abbrev pub SameBehind : {A : Type 0} → (old new : Hub A) → Type 0
SameBehind old new = (number : ℕ)
    → behind_at new.connections.items number ≡ behind_at old.connections.items number

-- no connection was opened, and the store is open only where it was before, and the disk honest
pub record HubStays {A : Type 0} (condition : A → Condition) (old new : Hub A) : Type 0 where
  pub next : new.next ≡ old.next
  pub same_config : new.config ≡ old.config
  pub clean : IsClean condition new → IsClean condition old
  pub honest : IsHonest condition new → IsHonest condition old

module _ {A R K S : Type 0} (condition : A → Condition) (unread : R → Option (List ℕ))
    (taken : K → Option (List ℕ)) (held : S → Option (List ℕ)) where
  -- nothing comes to the hub, and nothing is sent
  pub record SlotRests (old new : Hub A) (before after : Slot R K S) : Type 0 where
    pub same : new ≡ old
    pub keeps : Keeps (reported taken held before.wire) (reported taken held after.wire)
    -- what is read and thrown away is of a connection that is read no more
    pub gives : is_ended after.state.phase ≡ false
        → Keeps (unread before.source) (unread after.source)
    pub opens : after.state.phase ≡ Open → before.state.phase ≡ Open
    pub sends_still : SendsStill before.state.phase after.state.phase
    pub keeps_count : is_ended after.state.phase ≡ false
        → after.state.unfinished ≡ before.state.unfinished

  -- a piece was read where nothing was owed and all that was read before was answered, the host isn't
  -- shut, and where too many bytes of unfinished requests are kept only as the first of one
  pub record PieceIsRead (before after : Slot R K S) (piece : List ℕ) (is_full is_shut : Bool) : Type 0 where
    pub unowed : IsAtEnd (owed held before.wire)
    pub waits : before.state.phase ≡ Open
    pub some : 0 < length piece
    pub small : length piece ≤ most_read
    pub gives : Consumes (unread before.source) (unread after.source) piece
    pub allowed : is_full ≡ true → before.state.unfinished ≡ 0
    pub is_open : is_shut ≡ false
    pub stirs : after.state.has_moved ≡ true
    pub moves : min (before.state.moved + length piece) (2 ^ 64 - 1) ≤ after.state.moved
    pub counts : after.state.unfinished
        ≡ min (before.state.unfinished + length piece) (2 ^ 64 - 1)

  -- the hub holds the piece, and nothing is sent
  pub record OffersPiece (old new : Hub A) (before after : Slot R K S) (is_full is_shut : Bool) : Type 0 where
    pub piece : List ℕ
    pub read : PieceIsRead before after piece is_full is_shut
    pub answers_next : after.state.phase ≡ Answering
    pub keeps : Keeps (reported taken held before.wire) (reported taken held after.wire)
    pub same_store : new.store ≡ old.store
    pub behind : SameBehind old new
    pub holds : (lines : ℕ → Line) → (kept : ℕ → List ℕ) → KeepsHolding condition old lines kept
        → KeepsHolding condition new lines
        (with_held before.connection (kept before.connection ++ piece) kept)

  -- memory ran out for the piece: the fixed reply for it is sent, and the connection is read no more
  pub record Refuses (old new : Hub A) (before after : Slot R K S) (moment : ℕ)
      (is_full is_shut : Bool) : Type 0 where
    pub piece : List ℕ
    pub read : PieceIsRead before after piece is_full is_shut
    pub ends : is_ended after.state.phase ≡ true
    pub unsent : is_sending after.state.phase ≡ false
    pub behind : SameBehind old new
    pub answer : Arrived
    pub answers : AnswersOver condition (reported taken held before.wire) (reported taken held after.wire)
        before.wire.failures after.wire.failures old new before.connection
        (λ kept. kept ++ piece) moment answer (IsRefused answer)

  -- The next item was answered where nothing was owed, and only what was sent for it was taken; with what
  -- is still to be sent of a content behind it that is the reply.
  pub record AnswersAtSlot (old new : Hub A) (before after : Slot R K S) (moment : ℕ) : Type 0 where
    pub unowed : IsAtEnd (owed held before.wire)
    pub was_read : before.state.phase ≡ Answering
    pub same_source : after.source ≡ before.source
    pub next : Next
    pub known : next ≢ NoSuch
    pub more : Option (List ℕ)
    pub now : List ℕ
    pub appends : Appends (reported taken held before.wire) (reported taken held after.wire) now
    pub answers : AnswersOver condition (reported taken held before.wire)
        (with_more (reported taken held after.wire) more) before.wire.failures after.wire.failures
        old new before.connection (λ kept. kept) moment (arrived_after next) (IsNext next)
    pub owes : Owes condition new before.connection (bytes_later more)
    pub paid : is_unsent (behind_at old.connections.items before.connection) ≡ false
    pub free : NextIsFree old before.connection
    pub prepared : NextIsPrepared old before.connection
    pub others : OthersStay old new before.connection
    pub unbroken : behind_at new.connections.items before.connection ≢ Broken
    pub unawaited : BeginsUnawaited condition old new before.connection
    -- a connection is read again once no item of it is complete, and answered again once the content is out
    pub goes : after.state.phase ≡ phase_answered next
        (is_content (behind_at new.connections.items before.connection))
    pub stirs : after.state.has_moved ≡ true
    pub leaves : after.state.unfinished ≡ left_unfinished next before.state.unfinished

  -- the next item was kept back where nothing was owed: it stays, and nothing is sent
  pub record Delays (old new : Hub A) (before after : Slot R K S) : Type 0 where
    pub unowed : IsAtEnd (owed held before.wire)
    pub was_read : before.state.phase ≡ Answering
    pub same_source : after.source ≡ before.source
    pub keeps : KeepsBack condition (reported taken held before.wire) (reported taken held after.wire)
        before.wire.failures after.wire.failures old new before.connection
    pub stays : after.state.phase ≡ Answering
    -- so that it isn't closed for that
    pub stirs : after.state.has_moved ≡ true
    pub counts_not : after.state.is_kept_back ≡ true
    pub leaves : after.state.unfinished ≡ before.state.unfinished

  -- A few blocks more of a content were sent, where nothing was owed, or a request waits for that content;
  -- once all of it is out, or it broke off, the connection goes on.
  pub record Sends (old new : Hub A) (before after : Slot R K S) : Type 0 where
    pub unowed : before.state.is_awaited ≡ false → IsAtEnd (owed held before.wire)
    pub was_sending : is_sending before.state.phase ≡ true
    pub same_source : after.source ≡ before.source
    pub answer : SentOn
    pub sends : SendsOn condition (reported taken held before.wire) (reported taken held after.wire)
        before.wire.failures after.wire.failures old new before.connection answer
    pub goes : after.state.phase ≡ phase_sent before.state.phase answer
    pub leaves : after.state.unfinished ≡ before.state.unfinished

  -- Why nothing comes to the hub in a turn, by what comes next. Where an item is to be answered, no
  -- connection is there; where a piece is to be read, it isn't to be read now, or the socket gave
  -- none, or the connection is over, and no piece was thrown away; where a content is to be sent on, it isn't
  -- its turn. How far it is stays so, but where it is over.
  abbrev pub MayRest : (S → ℕ) → Hub A → (before after : Slot R K S)
      → (is_full is_shut may_send : Bool) → NextAction → Type 0
  MayRest size hub before after is_full is_shut may_send to.Flush =
      OwesLess size before after × StaysOrIsOver before.state.phase after.state.phase
  MayRest size hub before after is_full is_shut may_send to.Answer = IsUnknown hub before.connection
  MayRest size hub before after is_full is_shut may_send to.Send = (may_send ≡ false)
      × IsPutOff size before after × StaysOrIsOver before.state.phase after.state.phase
  MayRest size hub before after is_full is_shut may_send to.Read =
      ((is_held_back before.state is_full is_shut ≡ true)
      × (after.state.phase ≡ before.state.phase))
      ⊎ (((after.state.is_readable ≡ false) × (after.state.phase ≡ before.state.phase))
      ⊎ ((after.state.phase ≡ Over)
      × (Keeps (unread before.source) (unread after.source) ⊎ IsUnknown hub before.connection)))
  MayRest size hub before after is_full is_shut may_send to.Finish = after.state.phase ≡ Draining
  MayRest size hub before after is_full is_shut may_send to.Drain =
      StaysOrIsOver before.state.phase after.state.phase
  MayRest size hub before after is_full is_shut may_send to.Wait =
      after.state.phase ≡ before.state.phase

  -- a turn is one of these, by what comes next: at most one piece is read, at most one item answered, and
  -- at most one step of a content sent
  abbrev pub ActsOnce : (S → ℕ) → (old new : Hub A) → (before after : Slot R K S) → (moment : ℕ)
      → (is_full is_shut may_send : Bool) → Type 0
  ActsOnce size old new before after moment is_full is_shut may_send =
      (SlotRests old new before after
      × MayRest size old before after is_full is_shut may_send (slot_action size before))
      ⊎ ((OffersPiece old new before after is_full is_shut × (slot_action size before ≡ to.Read))
      ⊎ ((Refuses old new before after moment is_full is_shut × (slot_action size before ≡ to.Read))
      ⊎ ((AnswersAtSlot old new before after moment × (slot_action size before ≡ to.Answer))
      ⊎ ((Delays old new before after × (slot_action size before ≡ to.Answer))
      ⊎ (Sends old new before after × (slot_action size before ≡ to.Send)
      × (may_send ≡ true))))))

  -- a turn of a connection, which stays the one that it was, and waits for its socket, or is over, only
  -- for a cause
  pub record TakesTurn (size : S → ℕ) (causes : Causes R K S) (old new : Hub A)
      (before after : Slot R K S) (moment : ℕ) (is_full is_shut may_send : Bool) : Type 0 where
    pub client : SameClient before after
    pub hub : HubStays condition old new
    pub ended : is_ended before.state.phase ≡ true → is_ended after.state.phase ≡ true
    pub acts : ActsOnce size old new before after moment is_full is_shut may_send
    pub caused : HasCauses causes (IsUnknown old before.connection) before after

  -- a turn in which a piece may be read, where it may be
  abbrev pub MayRead : (S → ℕ) → Causes R K S → (old new : Hub A) → (before after : Slot R K S)
      → Type 0
  MayRead size causes old new before after = (moment : ℕ) (is_full is_shut may_send : Bool)
      → (is_full ≡ true → before.state.unfinished ≡ 0) → is_shut ≡ false
      → TakesTurn size causes old new before after moment is_full is_shut may_send

  -- a turn in which an item may be answered, also where no piece may be read
  abbrev pub MayAnswer : (S → ℕ) → Causes R K S → (old new : Hub A) → (before after : Slot R K S)
      → (moment : ℕ) → Type 0
  MayAnswer size causes old new before after moment = (is_full is_shut may_send : Bool)
      → TakesTurn size causes old new before after moment is_full is_shut may_send

  -- a turn in which a content may be sent on
  abbrev pub MaySend : (S → ℕ) → Causes R K S → (old new : Hub A) → (before after : Slot R K S) → Type 0
  MaySend size causes old new before after = (moment : ℕ) (is_full is_shut : Bool)
      → TakesTurn size causes old new before after moment is_full is_shut true
