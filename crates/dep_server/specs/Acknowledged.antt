-- What a run goes through, and segments that were received.
use Rattle.std.specs.Prelude.{◌≡◌, ◌⊎◌, ℕ, List, ◌∷◌, ◌++◌, Some, None, IsTrue, nat_eq}
use Rattle.std.specs.List.{list_any}
use Rattle.std.specs.FinMap as map
use Rattle.dep_types.specs.State.{State, Upload, tick, expires, clock_at}
use Rattle.dep_types.specs.declared.config.Config.{Config}
use Rattle.dep_message.specs.Places.{Place}
use Rattle.dep_types.specs.declared.target.Target.{Target}
use Rattle.dep_fields.specs.declared.kind.Kind.TheVariants.{Segment}
use Rattle.dep_reply.specs.Head.{status_line}
use Rattle.dep_decisions.specs.Kinds.{content_kind}
use Rattle.dep_message.specs.Stream.{Item, Fault, Continue, Request}
use Rattle.dep_message.specs.declared.message.Message.{Message}
use Rattle.dep_decisions.specs.Decisions.{decision}
use Rattle.dep_decisions.specs.Effects.{used}
use Rattle.dep_decisions.specs.Laws.{posted_to}
use Rattle.dep_server.specs.Moves.{Move, Made, Begun, state_by}
use Rattle.dep_server.specs.Requests.{IsLetThrough}
use Rattle.dep_server.specs.Runs.{AnyRun, PointOf, state_at}
use Rattle.dep_exchange.specs.Machine.{operation_of, state_after, Serves, serves_all, step_fails, gives_up}
use Rattle.dep_exchange.specs.Records.{ServerEvent, Record, Line, World, Run, begins, goes_on, stops, breaks, Happens, connects, closes, arrives, unknown, Arrives, at_live, at_shut_line}
use Rattle.dep_exchange.specs.declared.arrived.Arrived.{Arrived}

-- the state after some of these items
pub record IsAfterSome (config : Config) (s : State) (items : List Item) (moment : ℕ)
    (through : State) : Type 0 where
  pub front : List Item
  pub behind : List Item
  pub joined : items ≡ front ++ behind
  pub is : through ≡ state_after config s front moment

-- the machine was at this state after items of an arrival whose replies were sent
abbrev pub ServesThrough : {config : Config} {reads : List Item → Place → Type 0}
    {s : State} {moment : ℕ}
    {sent : List ℕ} {left : State} {at : Place} {answer : Arrived}
    → Serves config reads s moment sent left at answer → State → Type 0
ServesThrough {config = config} {s = s} {moment = moment} (serves_all items reads waits) through =
    IsAfterSome config s items moment through
ServesThrough {config = config} {s = s} {moment = moment}
    (step_fails items item at reads fails) through =
    IsAfterSome config s items moment through
ServesThrough {config = config} {s = s} {moment = moment}
    (gives_up items at reads some sends) through =
    IsAfterSome config s items moment through

abbrev pub ArrivesThrough : {config : Config} {piece : List ℕ} {moment : ℕ} {line after : Line}
    {s left : State} {sent : List ℕ} {answer : Arrived}
    → Arrives config piece moment line s sent left after answer → State → Type 0
ArrivesThrough (at_live serves) through = ServesThrough serves through
ArrivesThrough at_shut_line through = ⊥

abbrev pub HappensThrough : {config : Config} {w w' : World} {event : ServerEvent} {sent : List ℕ}
    → Happens config w event sent w' → State → Type 0
HappensThrough connects through = ⊥
HappensThrough closes through = ⊥
HappensThrough (arrives a) through = ArrivesThrough a through
HappensThrough (unknown e) through = ⊥

-- a run was at this state: at its beginning, after what happened or was found after a stop, or
-- within an arrival after items whose replies were sent
abbrev pub RunsThrough : {config : Config} {first : State} {records : List Record} {w : World}
    → Run config first records w → State → Type 0
RunsThrough {first = first} begins through = through ≡ first
RunsThrough (goes_on {w' = w'} run happens) through =
    RunsThrough run through ⊎ (HappensThrough happens through ⊎ (through ≡ w'.state))
RunsThrough (stops run) through = RunsThrough run through
RunsThrough (breaks found run a shut leaves) through =
    RunsThrough run through ⊎ (ArrivesThrough a through ⊎ (through ≡ found))

-- a run was at this state
abbrev pub WasAt : AnyRun → State → Type 0
WasAt r s = RunsThrough r.run s

-- the upload has these bytes as this segment
pub record HasSegment (s : State) (number segment : ℕ) (bytes : List ℕ) : Type 0 where
  pub upload : Upload
  pub there : map.get s.uploads number ≡ Some upload
  pub received : map.get upload.segments segment ≡ Some bytes

-- no other bytes were received as this segment
abbrev pub HasNoOther : State → (number segment : ℕ) → (bytes : List ℕ) → Type 0
HasNoOther s u k bytes = (others : List ℕ) → HasSegment s u k others → others ≡ bytes

-- there is no such upload: it was deposited or deleted, or has timed out
abbrev pub IsGone : State → ℕ → Type 0
IsGone s number = map.get s.uploads number ≡ None

-- the bytes begin with the line of this status
abbrev pub BeginsWithStatus : ℕ → List ℕ → Type 0
BeginsWithStatus status sent = (behind : List ℕ) × (sent ≡ status_line status ++ behind)

-- the request names a segment of the upload, which has its content there
pub record IsReceived (s : State) (m : Message) (number : ℕ) : Type 0 where
  pub segment : ℕ
  pub named : content_kind (operation_of m (posted_to number)) ≡ Some (Segment segment)
  pub represents : HasSegment s number segment m.content

-- ---- why an upload goes

-- it is left idle for longer than is allowed when the clock goes to this moment
abbrev pub TimesOut : Config → State → (moment number : ℕ) → Type 0
TimesOut config s moment number = IsTrue (expires config (clock_at s moment) s.uploads number)

-- an accepted request deposits it or deletes it
pub record IsUsed (config : Config) (s : State) (m : Message) (number : ℕ) : Type 0 where
  pub target : Target
  pub accepted : IsLetThrough config s m target
  pub among : IsTrue (list_any (nat_eq number) (used (decision config (operation_of m target))))

abbrev pub EndsUpload : Config → State → Move → (number : ℕ) → Type 0
EndsUpload config s (Made (Fault r head_only) moment) number = TimesOut config s moment number
EndsUpload config s (Made Continue moment) number = ⊥
EndsUpload config s (Made (Request m) moment) number =
    TimesOut config s moment number ⊎ IsUsed config (tick config s moment) m number
EndsUpload config s (Begun (Fault r head_only) moment) number = TimesOut config s moment number
EndsUpload config s (Begun Continue moment) number = ⊥
EndsUpload config s (Begun (Request m) moment) number = TimesOut config s moment number

-- one of these moves, from this state on, ends the upload
pub record IsEnded (config : Config) (s : State) (moves : List Move) (number : ℕ) : Type 0 where
  pub before : List Move
  pub behind : List Move
  pub move : Move
  pub among : moves ≡ before ++ move ∷ behind
  pub ends : EndsUpload config (state_by config s before) move number

-- the upload has the segment at the last, or was deposited, deleted or timed out by one of these
-- moves
abbrev pub StaysUntilEnded : Config → State → List Move → (last : State) → (number segment : ℕ)
    → (bytes : List ℕ) → Type 0
StaysUntilEnded config s moves last u k bytes =
    HasSegment last u k bytes ⊎ IsEnded config s moves u

-- it does so from this point of a run on
abbrev pub SegmentStaysFrom : {r : AnyRun} → PointOf r → (number segment : ℕ) → (bytes : List ℕ)
    → Type 0
SegmentStaysFrom {r} p u k bytes =
    StaysUntilEnded r.config (state_at p) p.behind r.last.state u k bytes
