-- Runs, points of them and requests in them, as the laws speak of them.
use Rattle.std.specs.Prelude.{◌≡◌, ℕ, List, ◌∷◌, ◌++◌}
use Rattle.dep_types.specs.State.{State}
use Rattle.dep_types.specs.declared.config.Config.{Config}
use Rattle.dep_message.specs.declared.message.Message.{Message}
use Rattle.dep_message.specs.Stream.{Request}
use Rattle.dep_exchange.specs.Records.{Record, World, Run}
use Rattle.dep_connection.specs.Turns.{ServedPiece, Exchanges, with_opened}
use Rattle.dep_server.specs.Moves.{Move, Made, moves_of, state_by}
use Rattle.dep_server.specs.Requests.{AnyRequest}

-- a run: under which configuration, from which state, by which records, to which world
pub record AnyRun : Type 0 where
  pub config : Config
  pub first : State
  pub records : List Record
  pub last : World
  pub run : Run config first records last

-- it may go on by these records to this world
abbrev pub ContinuesTo : AnyRun → List Record → World → Type 0
ContinuesTo r more w = Run r.config r.first (r.records ++ more) w

-- the machine answers these turns of a connection that is opened at its end, and is in this world
-- then
abbrev pub TalksThen : AnyRun → (number : ℕ) → List ServedPiece → World → Type 0
TalksThen r number turns talked = Exchanges r.config number (with_opened number r.last) turns talked

-- a request that comes in this state at this moment, under the configuration of a run
abbrev pub request_at : AnyRun → State → Message → (moment : ℕ) → AnyRequest
request_at r s m moment =
    record { config = r.config; state = s; message = m; moment = moment }

-- a point of a run: the moves before it, and those behind it
pub record PointOf (r : AnyRun) : Type 0 where
  pub before : List Move
  pub behind : List Move
  pub joined : moves_of r.run ≡ before ++ behind

-- the state there
abbrev pub state_at : {r : AnyRun} → PointOf r → State
state_at {r} p = state_by r.config r.first p.before

-- a request whose step a run made: the moves before its step, and those behind it
pub record RequestIn (r : AnyRun) : Type 0 where
  pub before : List Move
  pub message : Message
  pub moment : ℕ
  pub behind : List Move
  pub joined : moves_of r.run ≡ before ++ Made (Request message) moment ∷ behind

-- the request as it came
abbrev pub as_it_came : {r : AnyRun} → RequestIn r → AnyRequest
as_it_came {r} q = request_at r (state_by r.config r.first q.before) q.message q.moment
