-- Where the connections of a host are, and what it does for each of them.
use Rattle.std.specs.Prelude.{◌≡◌, ◌+◌, ◌==◌, ℕ, List, [], ◌∷◌, get_or, Option, None, Some, IfSome, if◌then◌else◌}
use Rattle.std.specs.List.{flat_map}
use Rattle.dep_types.specs.Conditions.{Condition}
use Rattle.dep_hub.specs.Representing.{IsClean}
use Rattle.dep_hub.specs.declared.sent_on.SentOn.{SentOn}
use Rattle.dep_hub.specs.declared.hub.Hub.{Hub}
use Rattle.dep_slot.specs.declared.slot.Slot.{Slot}
use Rattle.dep_slot.specs.declared.slot.Time.{Time}
use Rattle.dep_host.specs.declared.host.Host.{Host}
use Rattle.dep_host.specs.declared.ending.Cause.TheVariants as cause
use Rattle.dep_host.specs.declared.ending.Shut.{Shut}
use Rattle.dep_slot.specs.declared.limits.Limits.{Limits}
use Rattle.dep_slot.specs.declared.log.Closing.{Closing}
use Rattle.dep_slot.specs.Notes.{Note, LetGo}

-- the hub, who is where, what bounds them, and since when it is shut
pub record Position (A R K S : Type 0) : Type 0 where
  pub hub : Hub A
  pub slots : List (Option (Slot R K S))
  pub limits : Limits
  pub shut : Option Shut

-- a host, by its parts
abbrev pub position : {A R K S : Type 0} → Host A R K S → Position A R K S
position host = record {
  hub = host.hub;
  slots = host.slots.items;
  limits = host.limits;
  shut = host.shut;
}

-- who is at a place
abbrev pub slot_at : {X : Type 0} → ℕ → List (Option X) → Option X
slot_at at slots = get_or slots at None

-- nobody is anywhere
abbrev pub IsEmpty : {A R K S : Type 0} → Position A R K S → Type 0
IsEmpty p = (at : ℕ) → slot_at at p.slots ≡ None

-- what a host does for the connection of a number, which is at a place
pub data HostAction : Type 0 where
  -- it is opened, over a source that has these bytes to give, where it shows them
  Opens : (at number : ℕ) → (given : Option (List ℕ)) → HostAction
  -- a piece is read, and comes to the hub
  Takes : (at number : ℕ) → (piece : List ℕ) → HostAction
  -- its next item is answered, where one is complete: these bytes are sent for it at once, of this reply
  Replies : (at number moment : ℕ) → (sent reply : List ℕ) → HostAction
  -- some of a content are sent that is behind its last reply, and what that came to
  Sends : (at number : ℕ) → (sent : List ℕ) → (answer : SentOn) → HostAction
  -- a piece is read for which memory runs out, and these bytes are sent for it
  Declines : (at number : ℕ) → (piece : List ℕ) → (moment : ℕ) → (sent : List ℕ) → HostAction
  -- it is closed at a second, for a reason
  Closes : (at number second : ℕ) → (reason : Closing) → HostAction

-- what was sent to a connection
abbrev pub sent_by_action : ℕ → HostAction → List ℕ
sent_by_action number (Opens at n given) = []
sent_by_action number (Takes at n piece) = []
sent_by_action number (Replies at n moment sent reply) = if n == number then sent else []
sent_by_action number (Sends at n sent answer) = if n == number then sent else []
sent_by_action number (Declines at n piece moment sent) = if n == number then sent else []
sent_by_action number (Closes at n second reason) = []

-- what all actions sent to the connection of a number
abbrev pub replies_to : ℕ → List HostAction → List ℕ
replies_to number actions = flat_map (λ d. sent_by_action number d) actions

-- the bytes are shown
abbrev pub AreShown : Option (List ℕ) → Type 0
AreShown None = ⊥
AreShown (Some bytes) = Unit {0}

-- how many items of the connection at a place were answered
abbrev pub answer_at : ℕ → HostAction → ℕ
answer_at place (Opens at n given) = 0
answer_at place (Takes at n piece) = 0
answer_at place (Replies at n moment sent reply) = if at == place then 1 else 0
answer_at place (Sends at n sent answer) = 0
answer_at place (Declines at n piece moment sent) = if at == place then 1 else 0
answer_at place (Closes at n second reason) = 0

abbrev pub answers_at : ℕ → List HostAction → ℕ
answers_at place [] = 0
answers_at place (d ∷ actions) = answer_at place d + answers_at place actions

-- how many pieces of the connection at a place were read
abbrev pub piece_at : ℕ → HostAction → ℕ
piece_at place (Opens at n given) = 0
piece_at place (Takes at n piece) = if at == place then 1 else 0
piece_at place (Replies at n moment sent reply) = 0
piece_at place (Sends at n sent answer) = 0
piece_at place (Declines at n piece moment sent) = if at == place then 1 else 0
piece_at place (Closes at n second reason) = 0

abbrev pub pieces_at : ℕ → List HostAction → ℕ
pieces_at place [] = 0
pieces_at place (d ∷ actions) = piece_at place d + pieces_at place actions

-- what each step of a content came to that was sent to the connection at a place
abbrev pub sending_at : ℕ → HostAction → List SentOn
sending_at place (Opens at n given) = []
sending_at place (Takes at n piece) = []
sending_at place (Replies at n moment sent reply) = []
sending_at place (Sends at n sent answer) = if at == place then answer ∷ [] else []
sending_at place (Declines at n piece moment sent) = []
sending_at place (Closes at n second reason) = []

abbrev pub sendings_at : ℕ → List HostAction → List SentOn
sendings_at place actions = flat_map (λ d. sending_at place d) actions

-- how many steps of contents are sent, to whomever
abbrev pub sending_by : HostAction → ℕ
sending_by (Opens at n given) = 0
sending_by (Takes at n piece) = 0
sending_by (Replies at n moment sent reply) = 0
sending_by (Sends at n sent answer) = 1
sending_by (Declines at n piece moment sent) = 0
sending_by (Closes at n second reason) = 0

abbrev pub sendings_in : List HostAction → ℕ
sendings_in [] = 0
sendings_in (d ∷ actions) = sending_by d + sendings_in actions

-- how many bytes of unfinished requests are kept for who is at a place, and for all
abbrev pub unfinished_of : {R K S : Type 0} → Option (Slot R K S) → ℕ
unfinished_of None = 0
unfinished_of (Some slot) = slot.state.unfinished

abbrev pub unfinished_in : {R K S : Type 0} → List (Option (Slot R K S)) → ℕ
unfinished_in [] = 0
unfinished_in (s ∷ slots) = unfinished_of s + unfinished_in slots

-- what a log is told of a action
abbrev pub note_of : HostAction → List Note
note_of (Opens at n given) = []
note_of (Takes at n piece) = []
note_of (Replies at n moment sent reply) = []
note_of (Sends at n sent answer) = []
note_of (Declines at n piece moment sent) = []
note_of (Closes at n second reason) = LetGo n reason ∷ []

-- and of all actions: of each closing its reason
abbrev pub closings_of : List HostAction → List Note
closings_of actions = flat_map note_of actions

-- what is answered is answered at the moment, and what is closed is closed at the second
abbrev pub IsDoneAt : Time → HostAction → Type 0
IsDoneAt time (Opens at n given) = Unit {0}
IsDoneAt time (Takes at n piece) = Unit {0}
IsDoneAt time (Replies at n moment sent reply) = moment ≡ time.moment
IsDoneAt time (Sends at n sent answer) = Unit {0}
IsDoneAt time (Declines at n piece moment sent) = moment ≡ time.moment
IsDoneAt time (Closes at n second reason) = second ≡ time.second

abbrev pub AreDoneAt : Time → List HostAction → Type 0
AreDoneAt time [] = Unit {0}
AreDoneAt time (d ∷ actions) = IsDoneAt time d × AreDoneAt time actions

-- the store is shut, if a host is shut for that cause
abbrev pub IsRightlyReported : {A R K S : Type 0} → (A → Condition) → Position A R K S → Type 0
IsRightlyReported condition p =
    IfSome p.shut (λ shut. shut.cause ≡ cause.Store → IsClean condition p.hub → ⊥)

-- what a host still does once it is shut: nothing is opened and nothing read
abbrev pub IsOutgoing : HostAction → Type 0
IsOutgoing (Opens at n given) = ⊥
IsOutgoing (Takes at n piece) = ⊥
IsOutgoing (Replies at n moment sent reply) = Unit {0}
IsOutgoing (Sends at n sent answer) = Unit {0}
IsOutgoing (Declines at n piece moment sent) = ⊥
IsOutgoing (Closes at n second reason) = Unit {0}

-- so are all of them
abbrev pub AreOutgoing : List HostAction → Type 0
AreOutgoing [] = Unit {0}
AreOutgoing (d ∷ actions) = IsOutgoing d × AreOutgoing actions
