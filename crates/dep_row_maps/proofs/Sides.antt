-- The tables in two sides, those of the objects and those of the uploads: what an edit leaves alone stands once.
use Rattle.std.proofs.Common.{◌≡◌, ℕ, List, [], ◌∷◌}
use Rattle.dep_types.specs.declared.counters.Counters.{Counters}
use Rattle.sqlite_value.specs.Order.{Row}
use Rattle.dep_types.specs.Maps.{Numbered, Numbers}
use Rattle.dep_types.specs.State.{State, Object, Upload}
use Rattle.dep_tables.specs.Tables.{Tables}
use Rattle.dep_tables.specs.Versions.{HasVersion}
use Rattle.dep_row_maps.specs.Keyed.{rows_of}
use Rattle.dep_row_maps.specs.Stored.{state_stored, object_stored, upload_stored}
use Rattle.dep_row_maps.specs.TablesAre.{TablesAreOf, Parts, MetadataAre, FilesAre, SegmentsAre, NumbersAre, BlocksAre, AreFilesParts, AreUploadsParts, metadata_at, files_at, segments_at}

-- the rows of objects, texts and files are of these objects, and the parts of their files are these
pub record HaveObjects (object_rows text_rows file_rows : List Row) (its : Numbered Object) (parts : Parts) : Type 0 where
  pub objects : object_rows ≡ rows_of object_stored its
  pub metadata : MetadataAre text_rows (metadata_at its)
  pub files : FilesAre file_rows (files_at its)
  pub own : AreFilesParts its parts

-- the rows of uploads and segments are of these uploads, whose segments are these parts
pub record HaveUploads (upload_rows segment_rows : List Row) (its : Numbered Upload) (parts : Parts) : Type 0 where
  pub uploads : upload_rows ≡ rows_of upload_stored its
  pub segments : SegmentsAre segment_rows (segments_at its)
  pub own : AreUploadsParts its parts

module _ {version : ℕ} {t : Tables} {s : State} (h : TablesAreOf version t s) where
  pub objects_side : HaveObjects t.objects t.metadata t.files s.objects h.parts
  objects_side = record { objects = h.objects; metadata = h.metadata; files = h.files; own = h.files_parts }

  pub uploads_side : HaveUploads t.uploads t.segments s.uploads h.parts
  uploads_side = record { uploads = h.uploads; segments = h.segments; own = h.uploads_parts }

  -- other rows of objects and uploads, and other blocks; nothing is told of the SHA-512 values
  pub sides_changed : {rows texts files staged segments blocks values : List Row} {objects : Numbered Object} {uploads : Numbered Upload} (parts : Parts) → BlocksAre blocks parts
      → HaveObjects rows texts files objects parts → HaveUploads staged segments uploads parts
      → TablesAreOf version (record t { objects = rows; metadata = texts; files = files; uploads = staged; segments = segments; blocks = blocks; sha512s = values }) (record s { objects = objects; uploads = uploads })
  sides_changed parts blocks of_objects of_uploads =
      record { format = h.format; state = h.state; objects = of_objects.objects; metadata = of_objects.metadata; files = of_objects.files; uploads = of_uploads.uploads; segments = of_uploads.segments; timed_out = h.timed_out; parts = parts; blocks = blocks; files_parts = of_objects.own; uploads_parts = of_uploads.own }

  -- another version, other counters, and other uploads that timed out
  pub rest_changed : {values : List Row} (now : ℕ) (format state timed_out : List Row) (clock : ℕ) (next : Counters) (numbers : Numbers) → HasVersion now (record t { format = format })
      → state ≡ state_stored (record s { clock = clock; next = next }) ∷ [] → NumbersAre timed_out numbers
      → TablesAreOf now (record t { format = format; state = state; timed_out = timed_out; sha512s = values }) (record s { clock = clock; next = next; timed_out = numbers })
  rest_changed now format_rows state_rows numbers_rows clock next numbers format state timed_out =
      record { format = format; state = state; objects = h.objects; metadata = h.metadata; files = h.files; uploads = h.uploads; segments = h.segments; timed_out = timed_out; parts = h.parts; blocks = h.blocks; files_parts = h.files_parts; uploads_parts = h.uploads_parts }
