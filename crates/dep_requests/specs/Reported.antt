-- What a decision relies on of the state, as a view shows it.
use Rattle.std.specs.Prelude.{◌≡◌, ◌≤◌, ℕ, true, false, List, [], ◌∷◌, length, slice_get, Option, Some, None}
use Rattle.std.specs.FinMap as map
use Rattle.dep_types.specs.Maps.{Numbered}
use Rattle.dep_types.specs.State.{State, Object, File, Upload}
use Rattle.dep_types.specs.Rows.{object_row, upload_row}
use Rattle.dep_types.specs.Sound.{IsSound}
use Rattle.dep_types.specs.Uploads.{assembled}
use Rattle.dep_types.specs.declared.config.Config.{Config}
use Rattle.dep_fixity.specs.Fixity.{digests_of}
use Rattle.dep_staging.specs.Assembling.{HasItsSegments}
use Rattle.dep_decisions.specs.LookUps.{repeats}
use Rattle.dep_decisions.specs.Rules.{occurs_twice}
use Rattle.dep_decisions.specs.Effects.{uploads_of}
use Rattle.dep_decisions.specs.declared.decision.ContentSource.{ContentSource}
use Rattle.dep_decisions.specs.declared.decision.ContentSource.TheVariants.{Posted, Assembled}
use Rattle.dep_decisions.specs.declared.decision.NewFile.{NewFile}
use Rattle.dep_decisions.specs.declared.decision.Deposit.{Deposit}
use Rattle.dep_decisions.specs.declared.decision.Deposit.TheVariants.{Files, Metadata}
use Rattle.dep_decisions.specs.declared.decision.Decision.{Decision}
use Rattle.dep_decisions.specs.declared.decision.Decision.TheVariants.{Create, Append, Replace, Complete, SetMetadata, SetFiles, SetFile, DropFile, DropObject, Receive, DropUpload}
use Rattle.dep_decisions.specs.declared.operation.Operation.{Operation}
use Rattle.dep_operations.specs.Rulings.{IsRuling}
use Rattle.dep_operations.specs.Views.{true_view, upload_view}
use Rattle.dep_operations.specs.declared.ruling.Ruling.TheVariants.{Do}
use Rattle.dep_operations.specs.declared.view.View.{View}
use Rattle.dep_operations.specs.declared.view.UploadView.{UploadView}
use Rattle.dep_operations.specs.declared.view.UploadState.TheVariants.{Live}
use Rattle.dep_requests.specs.declared.change.Change.{Change}

-- the view has the clock and the counters
abbrev pub ReportsNumbers : View → State → Type 0
ReportsNumbers view s = (view.clock ≡ s.clock) × (view.next ≡ s.next)

-- the object of this number is there, and is the view's
abbrev pub ReportsObject : View → State → ℕ → Object → Type 0
ReportsObject view s n o =
    (view.object ≡ Some (object_row n o)) × (map.get s.objects n ≡ Some o)

-- ---- where the bytes of new files come from

-- each segment of the upload was received, and they have the size that it was opened with
pub record IsWhole (it : Upload) : Type 0 where
  pub segments : HasItsSegments it
  pub size : length (assembled it) ≡ it.size

-- how such an upload is seen for a deposit by reference
abbrev pub whole_view : ℕ → Upload → UploadView
whole_view u it = record {
  upload = u;
  state = Live (record {
    row = upload_row u it;
    is_whole = true;
    digests = Some (digests_of (assembled it));
  });
}

-- an upload is there, is whole, and is the one that is seen
pub record IsSeenWhole (uploads : Numbered Upload) (u : ℕ) (seen : Option UploadView) : Type 0 where
  pub upload : Upload
  pub there : map.get uploads u ≡ Some upload
  pub whole : IsWhole upload
  pub seen_so : seen ≡ Some (whole_view u upload)

-- the bytes are the content, of which the digests are known, or those of the upload that is seen
abbrev pub IsSource : State → (content : List ℕ) → Option UploadView → ContentSource → Type 0
IsSource s content seen (Posted digests) = digests ≡ digests_of content
IsSource s content seen (Assembled u) = IsSeenWhole s.uploads u seen

-- of each new file, where the uploads are seen in the order of the files, and no upload stands twice
abbrev pub AreSources : State → (content : List ℕ) → List UploadView → List NewFile → Type 0
AreSources s content seen new =
    ((i : ℕ) (one : NewFile) → slice_get new i ≡ Some one
    → IsSource s content (slice_get seen i) one.source)
    × (occurs_twice (uploads_of new) ≡ false)

abbrev pub HasSources : State → (content : List ℕ) → List UploadView → Deposit → Type 0
HasSources s content seen (Files new) = AreSources s content seen new
HasSources s content seen (Metadata texts) = Unit {0}

-- the same of the deposit of this change
abbrev pub HasItsSources : State → Change → Deposit → Type 0
HasItsSources s change d = HasSources s change.content.now change.view.now.uploads d

-- the bytes of the new file at this place are known
abbrev pub ReportsSource : Change → State → (place : ℕ) → ContentSource → Type 0
ReportsSource change s place source =
    IsSource s change.content.now (slice_get change.view.now.uploads place) source

-- and so are the clock and the counters, of which the rest of it is made
abbrev pub ReportsNewFile : Change → State → (place : ℕ) → ContentSource → Type 0
ReportsNewFile change s place source =
    ReportsNumbers change.view.now s × ReportsSource change s place source

-- the same of a deposit
abbrev pub ReportsDeposit : Change → State → Deposit → Type 0
ReportsDeposit change s d =
    ReportsNumbers change.view.now s × HasItsSources s change d

-- ---- decisions

-- the object of this number is there with this file, and is the view's
abbrev pub ReportsFile : View → State → ℕ → Object → (f : ℕ) → File → Type 0
ReportsFile view s n o f file = ReportsObject view s n o × (map.get o.files f ≡ Some file)

-- The upload of this number is the view's, and where it has this segment, whether the bytes are the content.
-- The segment is one of those that it is to have.
abbrev pub ReportsUpload : View → State → (u : ℕ) → Upload → (segment : ℕ) → (content : List ℕ)
    → Type 0
ReportsUpload view s u it k content =
    (view.uploads ≡ upload_view false s u ∷ []) × (map.get s.uploads u ≡ Some it)
    × (view.repeats ≡ repeats it k content) × (k ≤ it.count)

-- what a decision changes is there, what it takes is known, and what it puts in is new
abbrev pub ReportsFor : View → State → (content : List ℕ) → Decision → Type 0
ReportsFor view s content (Create d ingests) =
    (map.get s.objects s.next.object ≡ None) × HasSources s content view.uploads d
ReportsFor view s content (Append n d ingests) =
    (o : Object) × ReportsObject view s n o × HasSources s content view.uploads d
ReportsFor view s content (Replace n d ingests) =
    (o : Object) × ReportsObject view s n o × HasSources s content view.uploads d
ReportsFor view s content (Complete n) = (o : Object) × ReportsObject view s n o
ReportsFor view s content (SetMetadata n texts) = (o : Object) × ReportsObject view s n o
ReportsFor view s content (SetFiles n new) =
    (o : Object) × ReportsObject view s n o × AreSources s content view.uploads new
ReportsFor view s content (SetFile n f new) =
    (o : Object) × (file : File) × ReportsFile view s n o f file
    × (new.source ≡ Posted (digests_of content))
ReportsFor view s content (DropFile n f) = (o : Object) × (file : File) × ReportsFile view s n o f file
ReportsFor view s content (DropObject n) = (o : Object) × ReportsObject view s n o
ReportsFor view s content (Receive u k) = (it : Upload) × ReportsUpload view s u it k content
ReportsFor view s content (DropUpload u) = (it : Upload) × (map.get s.uploads u ≡ Some it)
ReportsFor view s content _ = Unit {0}

-- with the clock and the counters, it is all that the decision relies on
abbrev pub ReportsDecision : Change → State → Decision → Type 0
ReportsDecision change s d =
    ReportsNumbers change.view.now s × ReportsFor change.view.now s change.content.now d

-- A request that no rule refuses in a sound state asks for this decision. The view shows the state
-- where it touches it, and the content is its own.
pub record IsAccepted (s : State) (view : View) (content : List ℕ) (d : Decision) : Type 0 where
  pub config : Config
  pub op : Operation
  pub sound : IsSound s
  pub seen : view ≡ true_view config s op
  pub ruling : IsRuling config s op (Do d)
  pub sent : content ≡ op.content
