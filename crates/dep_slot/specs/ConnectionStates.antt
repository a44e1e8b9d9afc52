-- What a connection does next, and when it is closed.
use Rattle.std.specs.Prelude.{◌≡◌, ◌⊎◌, ℕ, ◌-◌, Bool, true, false, not, ◌&&◌, ◌||◌, nat_lt, if◌then◌else◌, Option, None, Some}
use Rattle.dep_slot.specs.declared.connection_state.ConnectionState.{ConnectionState}
use Rattle.dep_slot.specs.declared.connection_state.Phase.{Phase}
use Rattle.dep_slot.specs.declared.connection_state.Phase.TheVariants.{Open, Answering, Sending, SendingLast, Last, Draining, Over}
use Rattle.dep_slot.specs.declared.connection_state.NextAction.{NextAction}
use Rattle.dep_slot.specs.declared.connection_state.NextAction.TheVariants.{Flush, Answer, Send, Read, Finish, Drain, Wait}
use Rattle.dep_slot.specs.declared.limits.Limits.{Limits}
use Rattle.dep_slot.specs.declared.log.Closing.{Closing}
use Rattle.dep_slot.specs.declared.log.Closing.TheVariants as ends

-- What a connection does next to which a content is sent: it is sent on where nothing is owed, and where a
-- request waits for it whatever is owed.
abbrev pub action_sending : (is_awaited owes is_writable : Bool) → NextAction
action_sending true owes w = Send
action_sending false true w = if w then Flush else Wait
action_sending false false w = Send

-- what it does next, where bytes are owed or not: they are sent before all else
abbrev pub next_action : Phase → (is_awaited owes is_readable is_writable : Bool) → NextAction
next_action Over a owes r w = Wait
next_action Sending a owes r w = action_sending a owes w
next_action SendingLast a owes r w = action_sending a owes w
next_action p a true r w = if w then Flush else Wait
next_action Open a false r w = if r then Read else Wait
next_action Answering a false r w = Answer
next_action Last a false r w = Finish
next_action Draining a false r w = if r then Drain else Wait

-- a content is sent behind its last reply
abbrev pub is_sending : Phase → Bool
is_sending Sending = true
is_sending SendingLast = true
is_sending p = false

-- how far it is once its turn begins: once the host is shut it is read no more
abbrev pub phase_begun : Phase → (is_shut : Bool) → Phase
phase_begun Open is_shut = if is_shut then Last else Open
phase_begun p is_shut = p

-- it isn't read though it could be: the host is shut, or too many bytes of unfinished requests are
-- kept, and some of these are its
abbrev pub is_held_back : ConnectionState → (is_full is_shut : Bool) → Bool
is_held_back c is_full is_shut = is_shut || (is_full && nat_lt 0 c.unfinished)

-- an idle time has passed since a second
abbrev pub is_past : (since second : ℕ) → Limits → Bool
is_past since second limits = nat_lt limits.idle_seconds (second - since)

-- it was silent for longer than it may be
abbrev pub has_been_silent : ConnectionState → (second : ℕ) → Limits → Bool
has_been_silent c second limits = not c.has_moved && is_past c.since second limits

-- a request or a reply of it is under way, and fewer bytes moved in an idle time than have to
abbrev pub is_slow : ConnectionState → (second : ℕ) → Limits → Bool
is_slow c second limits = not c.has_moved && (c.is_due && (is_past c.mark second limits && nat_lt c.moved limits.least_rate))

-- why it is closed now, where it is
abbrev pub closing_of : Phase → (silent slow : Bool) → Option Closing
closing_of Over silent slow = Some ends.Over
closing_of p silent slow = if silent then Some ends.Silent else if slow then Some ends.Slow else None

-- why the connection is closed at a second, if it is
abbrev pub closing : ConnectionState → (second : ℕ) → Limits → Option Closing
closing c second limits = closing_of c.phase (has_been_silent c second limits) (is_slow c second limits)

-- a request or a reply of it is under way, and it isn't for others that its request was kept back
abbrev pub is_under_way : ConnectionState → (owes : Bool) → Bool
is_under_way c owes =
    (owes || (nat_lt 0 c.unfinished || is_sending c.phase)) && not c.is_kept_back

-- its bytes are counted anew: nothing is under way, a request was kept back, or enough moved in an idle time
abbrev pub counts_anew : ConnectionState → (owes : Bool) → (second : ℕ) → Limits → Bool
counts_anew c owes second limits =
    not (is_under_way c owes) || (is_past c.mark second limits && not (nat_lt c.moved limits.least_rate))

-- its socket may be ready
abbrev pub woken : ConnectionState → (is_readable is_writable : Bool) → ConnectionState
woken c r w = record c { is_readable = c.is_readable || r; is_writable = c.is_writable || w }

-- nothing of what its client sends comes to the hub any more
abbrev pub is_ended : Phase → Bool
is_ended Open = false
is_ended Answering = false
is_ended Sending = false
is_ended p = true

-- it goes on as it was, or is over, and nothing counts as moved
pub record StaysOrEnds (before after : ConnectionState) : Type 0 where
  pub phase : (after.phase ≡ before.phase) ⊎ (after.phase ≡ Over)
  pub stirs : after.has_moved ≡ before.has_moved
  pub moved : after.moved ≡ before.moved
  pub unfinished : after.unfinished ≡ before.unfinished

-- a content is sent to it where one was, or it is over
abbrev pub SendsStill : (before after : Phase) → Type 0
SendsStill before after = (after ≡ Over)
    ⊎ ((is_sending after ≡ is_sending before) × (before ≡ Over → ⊥))

-- its phase stays, or it is over
abbrev pub StaysOrIsOver : (before after : Phase) → Type 0
StaysOrIsOver before after = (after ≡ before) ⊎ (after ≡ Over)
