-- What each statement makes of the tables, and what each query returns of them.
use Rattle.std.specs.Prelude.{◌≡◌, ℕ, pos, false, Bool, if◌then◌else◌, None, Some, Option, is_some, find, option_map, List, [], ◌∷◌, take, filter, map, not}
use Rattle.std.specs.List.{list_any}
use Rattle.std.specs.Option.{option_to_list}
use Rattle.sqlite.specs.declared.types.Value.{Value}
use Rattle.sqlite.specs.declared.types.Value.TheVariants.{Int}
use Rattle.sqlite.specs.Order.{Row}
use Rattle.sqlite_trees.specs.Tree.{put_row, without_rowid, rowid}
use Rattle.dep_tables.specs.Rowids.{row_at, replaced, is_after, is_below_number, has_number, put_next, InOrder, AreFirst, IsFirst}
use Rattle.dep_types.specs.declared.rows.ObjectRow.{ObjectRow}
use Rattle.dep_types.specs.declared.rows.FileRow.{FileRow}
use Rattle.dep_tables.specs.declared.state.StateRow.{StateRow}
use Rattle.dep_tables.specs.declared.metadata.MetadataRow.{MetadataRow}
use Rattle.dep_tables.specs.declared.segments.SegmentRow.{SegmentRow}
use Rattle.dep_tables.specs.declared.uploads.LeftUpload.{LeftUpload}
use Rattle.dep_tables.specs.declared.uploads.UploadColumns.{UploadColumns}
use Rattle.dep_tables.specs.declared.owner.BlockOwner.{BlockOwner}
use Rattle.dep_tables.specs.declared.owner.BlockKey.{BlockKey}
use Rattle.dep_tables.specs.declared.owner.BlockPlace.{BlockPlace}
use Rattle.dep_tables.specs.Rows.{stored_format, sha512_values, is_sha512_of, value_in, stored_state, state_values, shown_state, stored_object, object_values, shown_object, metadata_values, shown_metadata, is_text_of, has_metadata_key, by_name_and_place, stored_file, file_values, shown_file, stored_upload, upload_values, shown_upload, segment_values, shown_segment, has_segment_key, by_number, stored_number, block_values, bytes_in, shown_place, place_values, is_block, is_block_of, is_part_of, is_earlier_block, moved_to, by_part_and_place, by_falling_place, shown_number, left_values, shown_left, by_last_and_upload}
use Rattle.dep_tables.specs.FileKeys.{is_file_from}
use Rattle.dep_tables.specs.Tables.{Tables}
use Rattle.dep_tables.specs.Versions.{our_version}

-- ---- format

-- the row of `format` has our version
abbrev pub with_our_version : Tables → Tables
with_our_version t = record t { format = replaced (stored_format our_version) t.format }

-- ---- state

-- the row of `state` has this clock and these next numbers
abbrev pub with_state_row : StateRow → Tables → Tables
with_state_row row t = record t { state = replaced (stored_state row) t.state }

-- this clock and these next numbers are those of the row of `state`
abbrev pub HasStateRow : Tables → StateRow → Type 0
HasStateRow t row = option_map shown_state (row_at t.state 1) ≡ Some (state_values row)

-- ---- objects

-- an object's row is put in, under its number
abbrev pub with_new_object_row : ObjectRow → Tables → Tables
with_new_object_row row t = record t { objects = put_row (stored_object row) t.objects }

-- an object's row takes the place of the one with its number
abbrev pub with_object_row : ObjectRow → Tables → Tables
with_object_row row t = record t { objects = replaced (stored_object row) t.objects }

-- the row of the object of this number is deleted
abbrev pub without_object_row : ℕ → Tables → Tables
without_object_row object t = record t { objects = without_rowid (pos object) t.objects }

-- no object has this number
abbrev pub LacksObjectRow : ℕ → Tables → Type 0
LacksObjectRow object t = row_at t.objects object ≡ None

-- the row of the object of this number was found, or none where it has no row
abbrev pub IsObjectRowAt : ℕ → Tables → Option ObjectRow → Type 0
IsObjectRowAt object t found =
    option_map object_values found ≡ option_map shown_object (row_at t.objects object)

-- the first number of an object above this one was found, if there is one
abbrev pub IsObjectAfter : ℕ → Tables → Option ℕ → Type 0
IsObjectAfter after t found =
    option_map (λ n. Int (pos n)) found ≡ option_map rowid (find (is_after after) t.objects)

-- ---- metadata

-- one value of a name of an object's metadata is put in
abbrev pub with_new_metadata_row : MetadataRow → Tables → Tables
with_new_metadata_row row t = record t { metadata = put_next (metadata_values row) t.metadata }

-- all metadata of this object are deleted
abbrev pub without_metadata_rows : ℕ → Tables → Tables
without_metadata_rows object t =
    record t { metadata = filter (λ r. not (has_number 1 object r)) t.metadata }

-- no value has the place under the name that this row has in its object
abbrev pub LacksMetadataRow : MetadataRow → Tables → Type 0
LacksMetadataRow row t = list_any (has_metadata_key row) t.metadata ≡ false

-- all metadata of this object were found, by name and place
abbrev pub AreMetadataRowsOf : ℕ → Tables → List MetadataRow → Type 0
AreMetadataRowsOf object t found =
    InOrder by_name_and_place (map shown_metadata (filter (has_number 1 object) t.metadata))
    (map metadata_values found)

-- the place of the last text of a name of an object
abbrev pub IsLastText : (object : ℕ) → (name : List ℕ) → Tables → Option ℕ → Type 0
IsLastText object name t found =
    IsFirst by_falling_place (map (shown_number 3) (filter (is_text_of object name) t.metadata))
    (map (λ n. Int (pos n) ∷ []) (option_to_list found))

-- how many rows are found at most, where they are read in pages
abbrev pub page_size : ℕ
page_size = 512

-- a page of the texts that pass a test: the first of them by name and place
abbrev pub AreFirstTexts : (test : Row → Bool) → Tables → List MetadataRow → Type 0
AreFirstTexts test t found =
    AreFirst page_size by_name_and_place (map shown_metadata (filter test t.metadata))
    (map metadata_values found)

-- ---- files

-- a file's row is put in, under its number; its SHA-512 is not among its columns
abbrev pub with_new_file_row : FileRow → Tables → Tables
with_new_file_row row t = record t { files = put_row (stored_file row) t.files }

-- the row of the file of this number is deleted
abbrev pub without_file_row : ℕ → Tables → Tables
without_file_row file t = record t { files = without_rowid (pos file) t.files }

-- the rows of all files of this object are deleted
abbrev pub without_file_rows : ℕ → Tables → Tables
without_file_rows object t = record t { files = filter (λ r. not (has_number 2 object r)) t.files }

-- no file has this number
abbrev pub LacksFileRow : ℕ → Tables → Type 0
LacksFileRow file t = row_at t.files file ≡ None

-- the row of the file of this number was found, or none where it has no row
abbrev pub IsFileRowAt : ℕ → Tables → Option FileRow → Type 0
IsFileRowAt file t found =
    option_map file_values found ≡ option_map shown_file (row_at t.files file)

-- the rows of all files of this object from a number on were found, by number
abbrev pub AreFileRowsOf : (object from : ℕ) → Tables → List FileRow → Type 0
AreFileRowsOf object from t found =
    map file_values found ≡ map shown_file (filter (is_file_from object from) t.files)

-- a page of them: the first
abbrev pub AreFirstFileRows : (object from : ℕ) → Tables → List FileRow → Type 0
AreFirstFileRows object from t found =
    map file_values found
    ≡ take page_size (map shown_file (filter (is_file_from object from) t.files))

-- ---- uploads

-- an upload's row is put in, under its number
abbrev pub with_new_upload_row : UploadColumns → Tables → Tables
with_new_upload_row row t = record t { uploads = put_row (stored_upload row) t.uploads }

-- an upload's row takes the place of the one with its number
abbrev pub with_upload_row : UploadColumns → Tables → Tables
with_upload_row row t = record t { uploads = replaced (stored_upload row) t.uploads }

-- the row of the upload of this number is deleted
abbrev pub without_upload_row : ℕ → Tables → Tables
without_upload_row upload t = record t { uploads = without_rowid (pos upload) t.uploads }

-- no upload has this number
abbrev pub LacksUploadRow : ℕ → Tables → Type 0
LacksUploadRow upload t = row_at t.uploads upload ≡ None

-- the row of the upload of this number was found, or none where it has no row
abbrev pub IsUploadRowAt : ℕ → Tables → Option UploadColumns → Type 0
IsUploadRowAt upload t found =
    option_map upload_values found ≡ option_map shown_upload (row_at t.uploads upload)

-- the least number of an upload above this one was found, if there is one
abbrev pub IsUploadAfter : ℕ → Tables → Option ℕ → Type 0
IsUploadAfter after t found =
    option_map (λ n. Int (pos n)) found ≡ option_map rowid (find (is_after after) t.uploads)

-- of those that were last written to before this moment, the one that was left the longest
abbrev pub IsLeftBefore : ℕ → Tables → Option LeftUpload → Type 0
IsLeftBefore moment t found =
    IsFirst by_last_and_upload (map shown_left (filter (is_below_number 6 moment) t.uploads))
    (map left_values (option_to_list found))

-- ---- segments

-- the row of a segment is put in, which has its size and not its bytes
abbrev pub with_new_segment_row : SegmentRow → Tables → Tables
with_new_segment_row row t = record t { segments = put_next (segment_values row) t.segments }

-- the rows of all segments of this upload are deleted
abbrev pub without_segment_rows : ℕ → Tables → Tables
without_segment_rows upload t =
    record t { segments = filter (λ r. not (has_number 1 upload r)) t.segments }

-- the upload has no segment with this row's number
abbrev pub LacksSegmentRow : SegmentRow → Tables → Type 0
LacksSegmentRow row t = list_any (has_segment_key row) t.segments ≡ false

-- the rows of all segments of this upload were found, by number
abbrev pub AreSegmentRowsOf : ℕ → Tables → List SegmentRow → Type 0
AreSegmentRowsOf upload t found =
    InOrder by_number (map shown_segment (filter (has_number 1 upload) t.segments))
    (map segment_values found)

-- ---- timed_out

-- the number is put among those of uploads that timed out
abbrev pub with_timed_out : ℕ → Tables → Tables
with_timed_out upload t = record t { timed_out = put_row (stored_number upload) t.timed_out }

-- the number is not among those of uploads that timed out
abbrev pub LacksTimedOut : ℕ → Tables → Type 0
LacksTimedOut upload t = row_at t.timed_out upload ≡ None

-- whether the number is among those of uploads that timed out
abbrev pub has_timed_out : ℕ → Tables → Bool
has_timed_out upload t = is_some (row_at t.timed_out upload)

-- ---- blocks

-- a block of these bytes is put in, under its owner, part and place
abbrev pub with_new_block : BlockKey → List ℕ → Tables → Tables
with_new_block key bytes t = record t { blocks = put_next (block_values key bytes) t.blocks }

-- all blocks of this owner are deleted
abbrev pub without_blocks_of : BlockOwner → Tables → Tables
without_blocks_of owner t = record t { blocks = filter (λ r. not (is_block_of owner r)) t.blocks }

-- the blocks of an owner are another's
abbrev pub with_blocks_moved : (o to : BlockOwner) → Tables → Tables
with_blocks_moved o to t =
    record t { blocks = map (λ r. if is_block_of o r then moved_to to r else r) t.blocks }

-- the blocks of one part before a place are another owner's
abbrev pub with_run_moved : BlockKey → BlockOwner → Tables → Tables
with_run_moved end to t =
    record t { blocks = map (λ r. if is_earlier_block end r then moved_to to r else r) t.blocks }

-- the blocks of one part before a place are deleted
abbrev pub without_run : BlockKey → Tables → Tables
without_run end t = record t { blocks = filter (λ r. not (is_earlier_block end r)) t.blocks }

-- the owner has no block at this part and place
abbrev pub LacksBlock : BlockKey → Tables → Type 0
LacksBlock key t = list_any (is_block key) t.blocks ≡ false

-- the bytes of the block at this part and place were found, or nothing where there is none
abbrev pub AreBytesAt : BlockKey → Tables → List Value → Type 0
AreBytesAt key t found = map bytes_in (filter (is_block key) t.blocks) ≡ found

-- the first of an owner, by part and place
abbrev pub IsFirstBlock : BlockOwner → Tables → Option BlockPlace → Type 0
IsFirstBlock owner t found =
    IsFirst by_part_and_place (map shown_place (filter (is_block_of owner) t.blocks))
    (map place_values (option_to_list found))

-- the place of the last block of a part of an owner
abbrev pub IsLastPlace : BlockOwner → (part : ℕ) → Tables → Option ℕ → Type 0
IsLastPlace owner part t found =
    IsFirst by_falling_place (map (shown_number 4) (filter (is_part_of owner part) t.blocks))
    (map (λ n. Int (pos n) ∷ []) (option_to_list found))

-- ---- sha512s

-- the SHA-512 of this owner is put in
abbrev pub with_new_sha512 : BlockOwner → List ℕ → Tables → Tables
with_new_sha512 owner value t =
    record t { sha512s = put_next (sha512_values owner value) t.sha512s }

-- the SHA-512 of this owner is deleted
abbrev pub without_sha512 : BlockOwner → Tables → Tables
without_sha512 owner t = record t { sha512s = filter (λ r. not (is_sha512_of owner r)) t.sha512s }

-- the table has no SHA-512 of this owner
abbrev pub LacksSha512 : BlockOwner → Tables → Type 0
LacksSha512 owner t = list_any (is_sha512_of owner) t.sha512s ≡ false

-- the SHA-512 of this owner was found, or nothing where it has none
abbrev pub IsSha512Of : BlockOwner → Tables → List Value → Type 0
IsSha512Of owner t found = map value_in (filter (is_sha512_of owner) t.sha512s) ≡ found
