-- What the rules look up in a view.
use Rattle.std.specs.Prelude.{ℕ, ◌-◌, ◌*◌, ◌==◌, Bool, true, false, List, [], ◌∷◌, is_some, Option, Some, None, option_map, if◌then◌else◌}
use Rattle.dep_types.specs.declared.rows.UploadRow.{UploadRow}
use Rattle.dep_types.specs.declared.target.Resource.{Resource}
use Rattle.dep_types.specs.declared.target.Resource.TheVariants.{Object, Metadata, FileSet, File}
use Rattle.dep_fixity.specs.declared.field.DigestList.{DigestList}
use Rattle.dep_docs_in.specs.declared.reference.Reference.{Reference}
use Rattle.dep_docs_in.specs.declared.reference.Pointed.{Pointed}
use Rattle.dep_docs_in.specs.declared.reference.Pointed.TheVariants.{Upload as AnUpload, Elsewhere}
use Rattle.dep_decisions.specs.LookUps.{Entry, KnownUpload, LookUps}
use Rattle.dep_operations.specs.declared.view.View.{View}
use Rattle.dep_operations.specs.declared.view.LiveUpload.{LiveUpload}
use Rattle.dep_operations.specs.declared.view.UploadView.{UploadView}
use Rattle.dep_operations.specs.declared.view.UploadState.{UploadState}
use Rattle.dep_operations.specs.declared.view.UploadState.TheVariants.{Unknown, TimedOut, Live}

-- the upload, where it is live
abbrev pub live_in : UploadState → Option LiveUpload
live_in (Live l) = Some l
live_in _ = None

-- it was dropped when it had been left alone for too long
abbrev pub is_timed_out : UploadState → Bool
is_timed_out TimedOut = true
is_timed_out _ = false

-- of the one upload that a Temporary-URL names
abbrev pub upload_in : List UploadView → UploadState
upload_in (v ∷ []) = v.state
upload_in _ = Unknown

abbrev pub tag_seen : View → Resource → Option ℕ
tag_seen view (Object n) = option_map (λ row. row.object_tag) view.object
tag_seen view (Metadata n) = option_map (λ row. row.metadata_tag) view.object
tag_seen view (FileSet n) = option_map (λ row. row.files_tag) view.object
tag_seen view (File n f) = option_map (λ row. row.tag) view.file
tag_seen view _ = None

abbrev pub row_length : UploadRow → (segment : ℕ) → ℕ
row_length row k =
    if k == row.count then row.size - (row.count - 1) * row.segment_size else row.segment_size

-- what was promised of an upload at its opening, as its row keeps it
abbrev pub promised_in : UploadRow → DigestList
promised_in row = record { sha256 = row.sha256; sha512 = row.sha512 }

abbrev pub entry_seen : Reference → UploadState → Entry LiveUpload
entry_seen r state = record {
  reference = r;
  upload = live_in state;
  timed_out = is_timed_out state;
}

-- an entry, with the view of its upload, before those behind it
abbrev pub entry_before : (rest : List UploadView → List (Entry LiveUpload)) → Reference → Pointed
    → List UploadView → List (Entry LiveUpload)
entry_before rest r Elsewhere views = rest views
entry_before rest r (AnUpload u) [] = rest []
entry_before rest r (AnUpload u) (v ∷ views) = entry_seen r v.state ∷ rest views

-- there is a view for each entry that points at an upload, in their order
unfoldable pub entries_seen : List Reference → List UploadView → List (Entry LiveUpload)
entries_seen [] views = []
entries_seen (r ∷ refs) views = entry_before (entries_seen refs) r r.target views

abbrev pub known_live : KnownUpload LiveUpload
known_live = record {
  size = λ l. l.row.size;
  count = λ l. l.row.count;
  segment_length = λ l k. row_length l.row k;
  promised = λ l. promised_in l.row;
  is_whole = λ l. l.is_whole;
  digests = λ l. l.digests;
}

abbrev pub in_view : View → LookUps LiveUpload
in_view view = record {
  next = view.next;
  has_object = λ n. is_some view.object;
  has_file = λ n f. is_some view.file;
  has_path = λ n path. view.has_path;
  tag = tag_seen view;
  upload = λ u. live_in (upload_in view.uploads);
  timed_out = λ u. is_timed_out (upload_in view.uploads);
  references = λ config op. view.references;
  entries = λ refs. entries_seen refs view.uploads;
  known = known_live;
  repeats = λ l k bytes. view.repeats;
}
