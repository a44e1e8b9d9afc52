-- Files that stay until they are replaced or deleted.
use Rattle.std.specs.Prelude.{◌≡◌, ◌⊎◌, ℕ, ◌+◌, List, ◌∷◌, ◌++◌, Some, IsTrue, slice_get}
use Rattle.dep_types.specs.State.{State, File, file_at, tick}
use Rattle.dep_types.specs.declared.config.Config.{Config}
use Rattle.dep_types.specs.declared.target.Target.{Target}
use Rattle.dep_message.specs.declared.message.Message.{Message}
use Rattle.dep_message.specs.Stream.{Request}
use Rattle.dep_docs_in.specs.declared.reference.Reference.{Reference}
use Rattle.dep_decisions.specs.Decisions.{references_in}
use Rattle.dep_decisions.specs.Laws.{IsDepositedFrom, deposited_object, takes_file}
use Rattle.dep_exchange.specs.Machine.{operation_of}
use Rattle.dep_server.specs.Moves.{Move, Made, state_by}
use Rattle.dep_server.specs.Requests.{AnyRequest, step_of, ticked, left_by, IsLetThrough, IsAcceptedFor}
use Rattle.dep_server.specs.Runs.{AnyRun, PointOf, state_at, RequestIn, as_it_came}

-- one of these moves, from this state on, replaces the file or deletes it: it is the step of an
-- accepted PUT or DELETE of the file, of the files of its object, or of the object
pub record IsTaken (config : Config) (s : State) (moves : List Move)
    (object file : ℕ) : Type 0 where
  pub before : List Move
  pub behind : List Move
  pub message : Message
  pub moment : ℕ
  pub target : Target
  pub among : moves ≡ before ++ Made (Request message) moment ∷ behind
  pub accepted :
      IsLetThrough config (tick config (state_by config s before) moment) message target
  pub takes : IsTrue (takes_file object file target)

-- the object that a deposit at this resource adds its files to
abbrev pub deposit_object : AnyRequest → Target → ℕ
deposit_object q t = deposited_object (ticked (step_of q)) t.resource

-- the number of the file that it makes of its entry at this place
abbrev pub deposited_number : AnyRequest → (place : ℕ) → ℕ
deposited_number q place = (ticked (step_of q)).next.file + place

-- the file is there at the last, or was replaced or deleted by one of these moves
abbrev pub StaysUntilTaken : Config → State → List Move → (last : State) → (object number : ℕ)
    → File
    → Type 0
StaysUntilTaken config s moves last n f file =
    (file_at last n f ≡ Some file) ⊎ IsTaken config s moves n f

-- it does so from this point of a run on
abbrev pub FileStaysFrom : {r : AnyRun} → PointOf r → (object number : ℕ) → File → Type 0
FileStaysFrom {r} p n f file =
    StaysUntilTaken r.config (state_at p) p.behind r.last.state n f file

-- it is accepted as a deposit by reference, and its document has this entry at this place
pub record IsDeposit (q : AnyRequest) (t : Target) (place : ℕ) (reference : Reference)
    : Type 0 where
  pub references : List Reference
  pub accepted : IsAcceptedFor q t
  pub read : references_in q.config (operation_of q.message t) ≡ Some references
  pub reported : slice_get references place ≡ Some reference

-- what the deposit makes of its entry at this place has the number that is next, and stays through
-- the moves that come after its step
pub record StaysDeposited (q : AnyRequest) (t : Target) (place : ℕ) (reference : Reference)
    (after : List Move) (last : State) : Type 0 where
  pub file : File
  pub there : file_at (left_by q) (deposit_object q t) (deposited_number q place) ≡ Some file
  pub deposited : IsDepositedFrom (ticked (step_of q)) (left_by q) reference file
  pub stays :
      StaysUntilTaken q.config (left_by q) after last (deposit_object q t) (deposited_number q place) file

-- it does so from this step of a run on
abbrev pub EntryStaysFrom : {r : AnyRun} → RequestIn r → Target → (place : ℕ) → Reference → Type 0
EntryStaysFrom {r} q t place reference =
    StaysDeposited (as_it_came q) t place reference q.behind r.last.state
