-- Segments that are sent again: what was in work when a run ended, and what is taken once more.
use Rattle.std.specs.Prelude.{◌≡◌, ℕ, List, true, is_some}
use Rattle.std.specs.FinMap as map
use Rattle.dep_types.specs.State.{State, tick}
use Rattle.dep_types.specs.declared.config.Config.{Config}
use Rattle.dep_message.specs.Places.{Place}
use Rattle.dep_message.specs.Stream.{Item, Request}
use Rattle.dep_message.specs.declared.message.Message.{Message}
use Rattle.dep_exchange.specs.Machine.{state_after, Serves, serves_all, step_fails, gives_up}
use Rattle.dep_exchange.specs.Records.{ServerEvent, Record, Line, World, Arrives, at_live, at_shut_line, Happens, connects, closes, arrives, unknown, Run, begins, goes_on, stops, breaks}
use Rattle.dep_exchange.specs.declared.arrived.Arrived.{Arrived}
use Rattle.dep_server.specs.Acknowledged.{WasAt, BeginsWithStatus}
use Rattle.dep_server.specs.Requests.{AnyRequest, reply_to, IsPostAccepted, IsAcceptedSegment}
use Rattle.dep_server.specs.Runs.{AnyRun, request_at}

-- the step of this item was begun in this state, and failed
abbrev pub FailsAt : {config : Config} {reads : List Item → Place → Type 0} {s left : State}
    {moment : ℕ}
    {sent : List ℕ} {at : Place} {answer : Arrived}
    → Serves config reads s moment sent left at answer → Item → State → Type 0
FailsAt (serves_all items reads waits) item began = ⊥
FailsAt {config = config} {s = s} {moment = moment} (step_fails items failed at reads fails)
    item began =
    (item ≡ failed) × (began ≡ state_after config s items moment)
FailsAt (gives_up items at reads some sends) item began = ⊥

abbrev pub ArrivalFailsAt : {config : Config} {piece : List ℕ} {moment : ℕ} {line after : Line}
    {s left : State} {sent : List ℕ} {answer : Arrived}
    → Arrives config piece moment line s sent left after answer → Item → State → Type 0
ArrivalFailsAt (at_live serves) item began = FailsAt serves item began
ArrivalFailsAt at_shut_line item began = ⊥

abbrev pub EventFailsAt : {config : Config} {w w' : World} {event : ServerEvent} {sent : List ℕ}
    → Happens config w event sent w' → Item → (moment : ℕ) → State → Type 0
EventFailsAt connects item moment began = ⊥
EventFailsAt closes item moment began = ⊥
EventFailsAt (arrives {moment = at} arrival) item moment began =
    (moment ≡ at) × ArrivalFailsAt arrival item began
EventFailsAt (unknown absent) item moment began = ⊥

-- the run ended in the step of this item, begun in this state at this moment: it failed, or a stop
-- broke its arrival, and nothing says what is left of it
abbrev pub EndsInWork : {config : Config} {first : State} {records : List Record} {w : World}
    → Run config first records w → Item → (moment : ℕ) → State → Type 0
EndsInWork begins item moment began = ⊥
EndsInWork (goes_on run happens) item moment began = EventFailsAt happens item moment began
EndsInWork (stops run) item moment began = EndsInWork run item moment began
EndsInWork (breaks {moment = at} found run arrival shut leaves) item moment began =
    (moment ≡ at) × ArrivalFailsAt arrival item began

-- a request that was in work when a run ended: the state in which its step was begun, and when
pub record RequestInWork (r : AnyRun) : Type 0 where
  pub message : Message
  pub moment : ℕ
  pub began : State
  pub ends : EndsInWork r.run (Request message) moment began

-- the request as its step was begun
abbrev pub as_begun : {r : AnyRun} → RequestInWork r → AnyRequest
as_begun {r} q = request_at r q.began q.message q.moment

-- a run was at a state in which the request is accepted, at some moment, as this segment
pub record CouldTake (r : AnyRun) (m : Message) (upload segment : ℕ) : Type 0 where
  pub through : State
  pub moment : ℕ
  pub was_at : WasAt r through
  pub accepts : IsAcceptedSegment (request_at r through m moment) upload segment

-- it is accepted as a POST to this upload, and answered 204
pub record IsAcknowledged (q : AnyRequest) (number : ℕ) : Type 0 where
  pub accepted : IsPostAccepted q number
  pub replied : BeginsWithStatus 204 (reply_to q)

-- at the end of a run that is so at each moment at which the upload is there
abbrev pub IsTakenAgain : AnyRun → Message → (number : ℕ) → Type 0
IsTakenAgain r m number = (later : ℕ)
    → is_some (map.get (tick r.config r.last.state later).uploads number) ≡ true
    → IsAcknowledged (request_at r r.last.state m later) number
