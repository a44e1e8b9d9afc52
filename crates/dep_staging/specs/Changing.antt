-- What the calls that change an upload make of a state, where their rows are true of it.
use Rattle.std.specs.Prelude.{◌≡◌, ℕ, List, length, Some, None}
use Rattle.std.specs.FinMap as map
use Rattle.sha2.specs.Sha512.{sha512}
use Rattle.sqlite.specs.State as db
use Rattle.dep_types.specs.State.{State, Object, File, Upload, tick, with_upload}
use Rattle.dep_types.specs.Rows.{upload_row, file_row}
use Rattle.dep_types.specs.Uploads.{assembled}
use Rattle.dep_types.specs.declared.config.Config.{Config}
use Rattle.dep_types.specs.declared.rows.FileRow.{FileRow}
use Rattle.dep_types.specs.declared.rows.UploadRow.{UploadRow}
use Rattle.dep_tables.specs.declared.segments.SegmentRow.{SegmentRow}
use Rattle.dep_row_maps.specs.Clauses.{SeesState}
use Rattle.dep_row_maps.specs.Stored.{segment_row}
use Rattle.dep_staging.specs.Assembling.{HasItsSegments, deposited}

module _ (row : UploadRow) where
  -- where the row is that of a new upload with no segment, the state with it is so
  abbrev pub Opens : State → (becomes : State → Type 0) → Type 0
  Opens s becomes = (it : Upload) → row ≡ upload_row row.upload it → it.segments ≡ map.empty
      → becomes (with_upload s row.upload it)

  -- where the row is that of an upload, which keeps its segments, the state with it is so
  abbrev pub RewritesUpload : State → (becomes : State → Type 0) → Type 0
  RewritesUpload s becomes = (was it : Upload) → map.get s.uploads row.upload ≡ Some was
      → row ≡ upload_row row.upload it → it.segments ≡ was.segments → it.sha512 ≡ was.sha512
      → becomes (with_upload s row.upload it)

  -- the same where the upload gets a segment that it lacked, which is this one
  abbrev pub ReceivesSegment : SegmentRow → (bytes : List ℕ) → State → (becomes : State → Type 0) → Type 0
  ReceivesSegment segment bytes s becomes = (was it : Upload) → map.get s.uploads row.upload ≡ Some was
      → map.get was.segments segment.number ≡ None → row ≡ upload_row row.upload it
      → segment ≡ segment_row row.upload segment.number (length bytes)
      → it.segments ≡ map.insert was.segments segment.number bytes → it.sha512 ≡ was.sha512
      → becomes (with_upload s row.upload it)

  -- where the rows are those of an upload with all its segments and of the file that they make, whose
  -- SHA-512 this is, the state with the file in its place is so
  abbrev pub Assembles : FileRow → (value : List ℕ) → State → (becomes : State → Type 0) → Type 0
  Assembles made value s becomes = (o : Object) (it : Upload) (file : File)
      → map.get s.objects made.object ≡ Some o → map.get s.uploads row.upload ≡ Some it
      → HasItsSegments it → row ≡ upload_row row.upload it
      → made ≡ file_row made.object made.file file → value ≡ sha512 file.content
      → file.content ≡ assembled it
      → becomes (deposited s made.object o made.file file row.upload)

-- the clock and the tables after a tick
abbrev pub IsTicked : Config → State → (moment : ℕ) → db.State → (clock : ℕ) → Type 0
IsTicked config s moment now clock =
    (clock ≡ (tick config s moment).clock) × SeesState now (tick config s moment)
