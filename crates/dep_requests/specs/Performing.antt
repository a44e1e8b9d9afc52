-- What is ruled of a request, and what comes of it.
use Rattle.sqlite.specs.State as db
use Rattle.std.specs.Prelude.{◌≡◌, ◌≢◌, ◌↔◌, ◌⊎◌, ℕ, List, Option, Some, None, Result, IfOk, IsTrue, false, if◌then◌else◌}
use Rattle.std.specs.Option.{option_or}
use Rattle.dep_types.specs.State.{State}
use Rattle.dep_types.specs.Sound.{IsSound}
use Rattle.dep_types.specs.declared.config.Config.{Config}
use Rattle.dep_types.specs.declared.refusal.Refusal.{Refusal}
use Rattle.dep_types.specs.declared.rows.FileRow.{FileRow}
use Rattle.dep_types.specs.declared.store_fault.StoreFault.{StoreFault}
use Rattle.dep_types.specs.declared.target.Method.{Method}
use Rattle.dep_types.specs.declared.target.Method.TheVariants.{Delete}
use Rattle.dep_fields.specs.Fit.{AreFit}
use Rattle.dep_answers.specs.Performing.{IsReady}
use Rattle.dep_answers.specs.Replies.{answer_to}
use Rattle.dep_answers.specs.Steps.{operation_step}
use Rattle.dep_answers.specs.ReadSets.{shown_at, read_set_of}
use Rattle.dep_answers.specs.Answers.{Answer}
use Rattle.dep_answers.specs.declared.performed.Performed.{Performed}
use Rattle.dep_answers.specs.declared.read_set.Shown.{Shown}
use Rattle.dep_answers.specs.declared.read_set.Shown.TheVariants.{Nothing}
use Rattle.dep_tables.specs.Tables.{IsOurs}
use Rattle.dep_row_maps.specs.Clauses.{FromMaps, SeesState}
use Rattle.dep_views.specs.Ahead.{AreRowsAhead, IsAhead}
use Rattle.dep_views.specs.declared.ahead.RowsAhead.{RowsAhead}
use Rattle.dep_views.specs.declared.ahead.WorkAhead.{WorkAhead}
use Rattle.dep_decisions.specs.Effects.{effect}
use Rattle.dep_decisions.specs.declared.decision.Decision.{Decision}
use Rattle.dep_decisions.specs.Decisions.{decision}
use Rattle.dep_types.specs.Methods.{is_safe}
use Rattle.dep_decisions.specs.Rules.{refusal}
use Rattle.dep_decisions.specs.declared.decision.Decision.TheVariants.{Show}
use Rattle.dep_decisions.specs.declared.operation.Operation.{Operation}
use Rattle.dep_operations.specs.Rulings.{IsRuling}
use Rattle.dep_operations.specs.Views.{touched_by, true_view}
use Rattle.dep_operations.specs.declared.ruling.Ruling.{Ruling}
use Rattle.dep_operations.specs.declared.ruling.Ruling.TheVariants.{Do, Refuse}
use Rattle.dep_views.specs.Seen.{loaded_undigested, loaded_view, loaded_with_digests, touched_payload}
use Rattle.dep_views.specs.declared.view.LoadedView.{LoadedView}
use Rattle.dep_requests.specs.Known.{known_shown}
use Rattle.dep_requests.specs.declared.performing.Done.{Done}
use Rattle.dep_requests.specs.declared.performing.Ruled.{Ruled}

-- the view shows the state truly, and so does the row of a payload file
pub record SeesTruly (config : Config) (s : State) (op : Operation) (ruled : Ruled) : Type 0 where
  pub view : ruled.view ≡ true_view config s op
  pub payload : ruled.payload ≡ touched_payload s (touched_by config op)

-- so it is of what is let through; what is refused may have been ruled before uploads were looked up or hashed
abbrev pub SeesFor : Config → State → Operation → Ruled → Ruling → Type 0
SeesFor config s op ruled (Refuse r) = Unit {0}
SeesFor config s op ruled (Do d) = SeesTruly config s op ruled

-- the clock is the state's, the ruling is right there, and what it lets through was seen truly
pub record Rules (config : Config) (s : State) (op : Operation) (ruled : Ruled) : Type 0 where
  pub clock : ruled.view.clock ≡ s.clock
  pub ruling : IsRuling config s op ruled.ruling
  pub seen : SeesFor config s op ruled ruled.ruling

-- what was loaded before any upload that references name
abbrev pub IsLoadedFor : Config → State → Operation → LoadedView → Type 0
IsLoadedFor config s op loaded = loaded ≡ loaded_view s op.content (touched_by config op)

-- and with the digests of uploads
abbrev pub IsDigestedFor : Config → State → Operation → LoadedView → Type 0
IsDigestedFor config s op loaded = loaded ≡ loaded_with_digests s op.content (touched_by config op)

-- what was looked up before any digest was taken: a refusal is right, and where there is none all was seen truly but
-- for digests
pub record IsLookedUp (config : Config) (s : State) (op : Operation) (loaded : LoadedView)
    (looked : Option Refusal) : Type 0 where
  pub clock : loaded.view.clock ≡ s.clock
  pub refused : (r : Refusal) → looked ≡ Some r → refusal config s op ≡ Some r
  pub passed : looked ≡ None → loaded ≡ loaded_undigested s op.content (touched_by config op)

-- nothing is changed where it is refused, or only asks to be shown
abbrev pub AsksToBeShown : Ruling → Type 0
AsksToBeShown (Refuse r) = Unit {0}
AsksToBeShown (Do d) = d ≡ Show

-- so it is of a request that is refused, or asks for nothing but to be shown
abbrev pub ChangesNothing : Config → State → Operation → Type 0
ChangesNothing config s op = (refusal config s op ≢ None) ⊎ (decision config op ≡ Show)

-- what the reply to a request that was accepted shows of a state
abbrev pub shown_in_reply : State → Operation → Shown
shown_in_reply s op = shown_at s (read_set_of s.next op.target.resource op.target.method)

-- the answer that it gets there
abbrev pub answered_at : Config → State → Operation → Answer
answered_at config s op = answer_to config s op.target.resource op.target.method

-- What is known of it without a look at the tables, where this is decided: of a deletion nothing is shown.
abbrev pub known_at : State → (content : List ℕ) → Decision → Method → Option Shown
known_at s content d Delete = Some Nothing
known_at s content d m = known_shown s content d

abbrev pub known_by : State → Operation → Decision → Option Shown
known_by s op d = known_at s op.content d op.target.method

-- the row of a file that is only read, where it was looked at for the ruling
abbrev pub row_for : Operation → Ruled → Option FileRow
row_for op ruled =
    if is_safe op.target.method then option_or ruled.view.file ruled.payload else None

-- the tables are those of what it makes of the state, of which this is shown
abbrev pub ShowsEffect : Config → State → Operation → db.State → Shown → Type 0
ShowsEffect config s op new shown =
    SeesState new (effect config s op) × (shown ≡ shown_in_reply (effect config s op) op)

-- what was decided is carried out, and shown, where it was ruled rightly
abbrev pub IsCarriedOut : (old new : db.State) → Operation → Ruled → Decision → RowsAhead
    → Result Shown StoreFault → Type 0
IsCarriedOut old new op ruled decision rows result = FromMaps old new (λ s. (config : Config)
    → IsSound s → AreFit op.fields → SeesTruly config s op ruled → IsRuling config s op (Do decision)
    → AreRowsAhead s rows → IfOk result (ShowsEffect config s op new))

-- this is ready as the reply of the step, and the tables are those of the state that it leaves
abbrev pub IsStepped : Config → State → Operation → db.State → Performed → Type 0
IsStepped config s op new performed = IsReady (operation_step config s op) performed
    × SeesState new (operation_step config s op).state

-- what was done for a request, in a transaction that showed the one database before and shows the other now
pub record IsDone (old new : db.State) (config : Config) (op : Operation) (ahead : WorkAhead) (done : Done)
    : Type 0 where
  pub map : FromMaps old new (λ s. IsSound s → IsAhead s ahead → AreFit op.fields
      → IsStepped config s op new done.performed)
  -- nothing is changed just where it is refused, or only asks to be shown
  pub changes : FromMaps old new (λ s. IsSound s → IsAhead s ahead
      → done.has_changes ≡ false ↔ ChangesNothing config s op)
  pub unchanged : done.has_changes ≡ false → db.HasCleanDisk new → IsOurs old
      → db.IsUnchanged old new
  pub ours : db.HasCleanDisk new → IsTrue old.in_transaction → IsOurs old → IsOurs new

-- what was done ahead is true of the state, as it was before
abbrev pub KeepsAhead : (old new : db.State) → (before now : WorkAhead) → Type 0
KeepsAhead old new before now =
    FromMaps old new (λ s. IsSound s → IsAhead s before → IsAhead s now)

-- what was ruled rightly is followed
abbrev pub FollowsRuling : (old new : db.State) → Config → Operation → Ruled → RowsAhead
    → Result Performed StoreFault → Type 0
FollowsRuling old new config op ruled rows result = FromMaps old new (λ s. IsSound s
    → AreFit op.fields → Rules config s op ruled → AreRowsAhead s rows
    → IfOk result (IsStepped config s op new))
