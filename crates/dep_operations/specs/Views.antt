-- What a view shows of a state: the clock, the counters, and what is there at the numbers that a request
-- touches.
use Rattle.std.specs.Prelude.{ℕ, ◌&&◌, Bool, false, List, [], ◌∷◌, map, is_some, Option, Some, None, option_map, if◌then◌else◌}
use Rattle.std.specs.List.{filter_map}
use Rattle.std.specs.Option.{option_map_or}
use Rattle.std.specs.FinMap as finmap
use Rattle.std.specs.FinSet as set
use Rattle.dep_types.specs.Maps.{◌>>=◌}
use Rattle.dep_types.specs.State as state
use Rattle.dep_types.specs.State.{State, file_at}
use Rattle.dep_types.specs.Rows.{object_row, file_row, upload_row}
use Rattle.dep_types.specs.Uploads.{is_complete}
use Rattle.dep_types.specs.declared.rows.ObjectRow.{ObjectRow}
use Rattle.dep_types.specs.declared.rows.FileRow.{FileRow}
use Rattle.dep_types.specs.declared.config.Config.{Config}
use Rattle.dep_types.specs.declared.target.Resource.{Resource}
use Rattle.dep_types.specs.declared.target.Resource.TheVariants.{Object, Metadata, FileSet, File, Upload, BagList, BagFile}
use Rattle.dep_fields.specs.declared.kind.Kind.{Kind}
use Rattle.dep_fields.specs.declared.kind.Kind.TheVariants as of
use Rattle.dep_docs_in.specs.declared.reference.Reference.{Reference}
use Rattle.dep_decisions.specs.Decisions.{references_in, upload_number}
use Rattle.dep_decisions.specs.Kinds.{content_kind}
use Rattle.dep_decisions.specs.LookUps.{assembled_digests, has_bag_path, repeats}
use Rattle.dep_decisions.specs.declared.operation.Operation.{Operation}
use Rattle.dep_operations.specs.declared.view.SegmentId.{SegmentId}
use Rattle.dep_operations.specs.declared.view.Touched.{Touched}
use Rattle.dep_operations.specs.declared.view.View.{View}
use Rattle.dep_operations.specs.declared.view.LiveUpload.{LiveUpload}
use Rattle.dep_operations.specs.declared.view.UploadView.{UploadView}
use Rattle.dep_operations.specs.declared.view.UploadState.{UploadState}
use Rattle.dep_operations.specs.declared.view.UploadState.TheVariants.{Unknown, TimedOut, Live}

-- ---- the numbers that a request touches

abbrev pub object_in : Resource → Option ℕ
object_in (Object n) = Some n
object_in (Metadata n) = Some n
object_in (FileSet n) = Some n
object_in (File n f) = Some n
object_in (BagList n) = Some n
object_in (BagFile n path) = Some n
object_in _ = None

abbrev pub file_in : Resource → Option ℕ
file_in (File n f) = Some f
file_in _ = None

-- the path in a bag that is asked for
abbrev pub path_in : Resource → Option (List ℕ)
path_in (BagFile n path) = Some path
path_in _ = None

-- the uploads that entries point at, in their order
abbrev pub uploads_named : List Reference → List ℕ
uploads_named refs = filter_map (λ r. upload_number r.target) refs

abbrev pub referred_uploads : Option (List Reference) → List ℕ
referred_uploads None = []
referred_uploads (Some refs) = uploads_named refs

abbrev pub uploads_looked_up : Resource → Option (List Reference) → List ℕ
uploads_looked_up (Upload u) refs = u ∷ []
uploads_looked_up _ refs = referred_uploads refs

-- the segment of a Temporary-URL's upload that a content of this kind is sent as
abbrev pub segment_in : Resource → Option Kind → Option SegmentId
segment_in (Upload u) (Some (of.Segment k)) = Some (record { upload = u; number = k })
segment_in _ _ = None

-- with the kind of the content, and the references in it
abbrev pub touched_with : Resource → Option Kind → Option (List Reference) → Touched
touched_with resource kind refs = record {
  object = object_in resource;
  file = file_in resource;
  path = path_in resource;
  uploads = uploads_looked_up resource refs;
  segment = segment_in resource kind;
  references = refs;
}

-- what of the archive has to be looked up before a request can be ruled
abbrev pub touched_by : Config → Operation → Touched
touched_by config op = touched_with op.target.resource (content_kind op) (references_in config op)

-- ---- the view

-- for a deposit by reference an upload is shown with whether it is whole, and its digests, and else by its row
-- alone
abbrev pub live_upload : (by_reference : Bool) → ℕ → state.Upload → LiveUpload
live_upload by_reference n u = record {
  row = upload_row n u;
  is_whole = by_reference && is_complete u;
  digests = if by_reference then assembled_digests u else None;
}

abbrev pub upload_state : (by_reference : Bool) → State → ℕ → UploadState
upload_state by_reference s u =
    option_map_or (λ upload. Live (live_upload by_reference u upload)) (finmap.get s.uploads u)
    (if set.contains s.timed_out u then TimedOut else Unknown)

abbrev pub upload_view : (by_reference : Bool) → State → ℕ → UploadView
upload_view by_reference s u = record { upload = u; state = upload_state by_reference s u }

abbrev pub touched_object : State → Touched → Option ObjectRow
touched_object s t = t.object >>= (λ n. option_map (object_row n) (finmap.get s.objects n))

abbrev pub touched_file : State → Touched → Option FileRow
touched_file s t =
    t.object >>= (λ n. t.file >>= (λ f. option_map (file_row n f) (file_at s n f)))

-- whether the object's bag has the path
abbrev pub has_path : State → Touched → Bool
has_path s t = option_map_or (λ n. option_map_or (has_bag_path s n) t.path false) t.object false

-- where the segment was received before, whether its bytes are the content
abbrev pub touched_repeat : State → (content : List ℕ) → Touched → Option Bool
touched_repeat s content t =
    t.segment >>= (λ id. finmap.get s.uploads id.upload >>= (λ u. repeats u id.number content))

-- the view that shows the state, and the content of the request, truly at these numbers
abbrev pub seen_at : State → (content : List ℕ) → Touched → View
seen_at s content t = record {
  clock = s.clock;
  next = s.next;
  object = touched_object s t;
  file = touched_file s t;
  has_path = has_path s t;
  uploads = map (upload_view (is_some t.references) s) t.uploads;
  repeats = touched_repeat s content t;
  references = t.references;
}

-- the view that shows the state truly where the request touches it
abbrev pub true_view : Config → State → Operation → View
true_view config s op = seen_at s op.content (touched_by config op)

-- ---- the same before any digest of an upload is taken

abbrev pub state_undigested : UploadState → UploadState
state_undigested (Live l) = Live (record l { digests = None })
state_undigested TimedOut = TimedOut
state_undigested Unknown = Unknown

abbrev pub upload_undigested : (by_reference : Bool) → State → ℕ → UploadView
upload_undigested by_reference s u = record {
  upload = u;
  state = state_undigested (upload_state by_reference s u);
}

abbrev pub seen_undigested : State → (content : List ℕ) → Touched → View
seen_undigested s content t = record (seen_at s content t) {
  uploads = map (upload_undigested (is_some t.references) s) t.uploads;
}

abbrev pub undigested_view : Config → State → Operation → View
undigested_view config s op = seen_undigested s op.content (touched_by config op)

-- ---- the same before any upload that references name is looked up

abbrev pub unnamed_view : Config → State → Operation → View
unnamed_view config s op = record (true_view config s op) { uploads = [] }
