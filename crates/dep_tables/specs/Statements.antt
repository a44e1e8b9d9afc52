-- The statements on our tables: a definition for each.
use Rattle.std.specs.Prelude.{◌≡◌, ◌<◌, ◌^◌, ⊤, ℕ, Bool, pos, List, [], ◌∷◌, All, Option, Vec}
use Rattle.std.specs.Option.{option_to_list, option_map}
use Rattle.sqlite.specs.declared.types.Value.TheVariants.{Int, Blob}
use Rattle.sqlite.specs.Order.{Row}
use Rattle.dep_types.specs.declared.rows.ObjectRow.{ObjectRow}
use Rattle.dep_types.specs.declared.rows.FileRow.{FileRow}
use Rattle.dep_tables.specs.declared.state.StateRow.{StateRow}
use Rattle.dep_tables.specs.declared.metadata.MetadataRow.{MetadataRow}
use Rattle.dep_tables.specs.declared.segments.SegmentRow.{SegmentRow}
use Rattle.dep_tables.specs.declared.uploads.LeftUpload.{LeftUpload}
use Rattle.dep_tables.specs.declared.uploads.UploadColumns.{UploadColumns}
use Rattle.dep_tables.specs.declared.owner.BlockOwner.{BlockOwner}
use Rattle.dep_tables.specs.declared.owner.BlockKey.{BlockKey}
use Rattle.dep_tables.specs.declared.owner.BlockPlace.{BlockPlace}
use Rattle.dep_tables.specs.Rows.{IsStorableState, state_values, IsStateRow, IsStorableObject, object_values, IsObjectRow, IsNumberRow, IsStorableMetadata, metadata_values, name_values, text_key_values, is_text_from, is_text_from_name, IsMetadataRow, IsStorableFile, file_values, IsFileRow, IsStorableUpload, upload_values, IsUploadRow, IsLeftRow, IsStorableSegment, segment_values, IsSegmentRow, IsStorableOwner, owner_values, IsStorablePart, part_values, IsStorableKey, key_values, block_values, move_values, move_run_values, IsBytesRow, IsPlaceRow, sha512_values, IsSha512Row}
use Rattle.dep_tables.specs.FileKeys.{file_key_values, IsStorableFileKey}
use Rattle.dep_tables.specs.Edits.{with_our_version, with_state_row, HasStateRow, with_new_object_row, with_object_row, without_object_row, IsObjectRowAt, IsObjectAfter, with_new_metadata_row, without_metadata_rows, AreMetadataRowsOf, IsLastText, AreFirstTexts, with_new_file_row, without_file_row, without_file_rows, IsFileRowAt, AreFileRowsOf, AreFirstFileRows, with_new_upload_row, with_upload_row, without_upload_row, IsUploadRowAt, IsUploadAfter, IsLeftBefore, with_new_segment_row, without_segment_rows, AreSegmentRowsOf, with_timed_out, has_timed_out, with_new_block, without_blocks_of, without_run, with_blocks_moved, with_run_moved, AreBytesAt, IsFirstBlock, IsLastPlace, with_new_sha512, without_sha512, IsSha512Of}
use Rattle.dep_tables.specs.Tables.{Tables}
use Rattle.dep_tables.specs.Clauses.{Statement, Query, AtMostOne, JustOne}
use Rattle.dep_tables.specs.Texts as text

-- a statement whose parameters are the values of a row, an owner or a key
abbrev pub by_row : {R : Type 0} → (sql : List ℕ) → (storable : R → Type 0) → (values : R → Row)
    → (change : R → Tables → Tables) → R → Statement
by_row sql storable values change row = record {
  storable = storable row;
  text = sql;
  values = values row;
  change = change row;
}

-- the same of a query
abbrev pub row_query : {R A : Type 0} → (sql : List ℕ) → (storable : R → Type 0)
    → (values : R → Row) → (are_ours : List Row → Type 0) → (copies : Type 0)
    → (reported : R → Tables → A → Type 0) → R → Query A
row_query sql storable values are_ours copies reported row = record {
  storable = storable row;
  text = sql;
  values = values row;
  are_ours = are_ours;
  copies = copies;
  reported = reported row;
}

-- one whose one parameter is a number, as SQL has them
abbrev pub by_key : (sql : List ℕ) → (change : ℕ → Tables → Tables) → ℕ → Statement
by_key sql = by_row sql (λ key. key < 2 ^ 63) (λ key. Int (pos key) ∷ [])

-- the same of a query
abbrev pub key_query : {A : Type 0} → (sql : List ℕ) → (are_ours : List Row → Type 0)
    → (copies : Type 0) → (reported : ℕ → Tables → A → Type 0) → ℕ → Query A
key_query sql = row_query sql (λ key. key < 2 ^ 63) (λ key. Int (pos key) ∷ [])

-- ---- format

-- the version is set to ours
abbrev pub update_of_version : Statement
update_of_version = record {
  storable = ⊤;
  text = text.write_version_text;
  values = [];
  change = with_our_version;
}

-- ---- state

-- the clock and the next numbers are set
abbrev pub update_of_state : StateRow → Statement
update_of_state = by_row text.write_state_text IsStorableState state_values with_state_row

-- the clock and the next numbers are read
abbrev pub query_of_state : Query StateRow
query_of_state = record {
  storable = ⊤;
  text = text.read_state_text;
  values = [];
  are_ours = JustOne IsStateRow;
  copies = ⊥;
  reported = HasStateRow;
}

-- ---- objects

-- the row of an object is added
abbrev pub insertion_of_object : ObjectRow → Statement
insertion_of_object =
    by_row text.insert_object_text IsStorableObject object_values with_new_object_row

-- the row of an object is set
abbrev pub update_of_object : ObjectRow → Statement
update_of_object = by_row text.write_object_text IsStorableObject object_values with_object_row

-- the row of an object is deleted
abbrev pub deletion_of_object : (object : ℕ) → Statement
deletion_of_object = by_key text.delete_object_text without_object_row

-- the row of an object is read
abbrev pub query_of_object : (object : ℕ) → Query (Option ObjectRow)
query_of_object = key_query text.find_object_text (AtMostOne IsObjectRow) ⊥ IsObjectRowAt

-- the next number of an object is read
abbrev pub query_of_next_object : (after : ℕ) → Query (Option ℕ)
query_of_next_object = key_query text.next_object_text (AtMostOne IsNumberRow) ⊥ IsObjectAfter

-- ---- metadata

-- one text of an object's metadata is added
abbrev pub insertion_of_metadata : MetadataRow → Statement
insertion_of_metadata =
    by_row text.insert_metadata_text IsStorableMetadata metadata_values with_new_metadata_row

-- the metadata of an object are deleted
abbrev pub deletion_of_metadata : (object : ℕ) → Statement
deletion_of_metadata = by_key text.delete_metadata_text without_metadata_rows

-- the metadata of an object are read
abbrev pub query_of_metadata : {Z : Type 0} → (object : ℕ) → Query (Vec MetadataRow Z)
query_of_metadata =
    key_query text.metadata_of_text (All IsMetadataRow) ⊤
    (λ object t found. AreMetadataRowsOf object t found.items)

-- the place of the last text of a name of an object is read
abbrev pub query_of_last_text : (object : ℕ) → (name : List ℕ) → Query (Option ℕ)
query_of_last_text object =
    row_query text.last_text_text (λ name. object < 2 ^ 63) (name_values object)
    (AtMostOne IsNumberRow) ⊥ (IsLastText object)

-- the next texts of a name of an object, from a place on, are read
abbrev pub query_of_texts_from : {Z : Type 0} → (object : ℕ) → (name : List ℕ) → (place : ℕ)
    → Query (Vec MetadataRow Z)
query_of_texts_from object name =
    row_query text.texts_from_text (λ place. (object < 2 ^ 63) × (place < 2 ^ 63))
    (text_key_values object name) (All IsMetadataRow) ⊤
    (λ place t found. AreFirstTexts (is_text_from object name place) t found.items)

-- the first texts of an object's names above one are read
abbrev pub query_of_texts_from_name : {Z : Type 0} → (object : ℕ) → (name : List ℕ)
    → Query (Vec MetadataRow Z)
query_of_texts_from_name object =
    row_query text.texts_from_name_text (λ name. object < 2 ^ 63) (name_values object)
    (All IsMetadataRow) ⊤
    (λ name t found. AreFirstTexts (is_text_from_name object name) t found.items)

-- ---- files

-- the row of a file is added
abbrev pub insertion_of_file : FileRow → Statement
insertion_of_file = by_row text.insert_file_text IsStorableFile file_values with_new_file_row

-- the row of a file is deleted
abbrev pub deletion_of_file : (file : ℕ) → Statement
deletion_of_file = by_key text.delete_file_text without_file_row

-- the rows of an object's files are deleted
abbrev pub deletion_of_files : (object : ℕ) → Statement
deletion_of_files = by_key text.delete_files_text without_file_rows

-- the row of a file is read
abbrev pub query_of_file : (file : ℕ) → Query (Option FileRow)
query_of_file = key_query text.find_file_text (AtMostOne IsFileRow) ⊤ IsFileRowAt

-- the rows of an object's files from a number on are read
abbrev pub query_of_files : {Z : Type 0} → (object from : ℕ) → Query (Vec FileRow Z)
query_of_files object =
    row_query text.files_of_text (IsStorableFileKey object) (file_key_values object) (All IsFileRow) ⊤
    (λ from t found. AreFileRowsOf object from t found.items)

-- the first of them are read
abbrev pub query_of_files_page : {Z : Type 0} → (object from : ℕ) → Query (Vec FileRow Z)
query_of_files_page object =
    row_query text.files_page_text (IsStorableFileKey object) (file_key_values object)
    (All IsFileRow) ⊤
    (λ from t found. AreFirstFileRows object from t found.items)

-- ---- uploads

-- the row of an upload is added
abbrev pub insertion_of_upload : UploadColumns → Statement
insertion_of_upload =
    by_row text.insert_upload_text IsStorableUpload upload_values with_new_upload_row

-- the row of an upload is set
abbrev pub update_of_upload : UploadColumns → Statement
update_of_upload = by_row text.write_upload_text IsStorableUpload upload_values with_upload_row

-- the row of an upload is deleted
abbrev pub deletion_of_upload : (upload : ℕ) → Statement
deletion_of_upload = by_key text.delete_upload_text without_upload_row

-- the row of an upload is read
abbrev pub query_of_upload : (upload : ℕ) → Query (Option UploadColumns)
query_of_upload = key_query text.find_upload_text (AtMostOne IsUploadRow) ⊥ IsUploadRowAt

-- the next number of an upload is read
abbrev pub query_of_next_upload : (after : ℕ) → Query (Option ℕ)
query_of_next_upload = key_query text.next_upload_text (AtMostOne IsNumberRow) ⊥ IsUploadAfter

-- the upload is read that was left the longest, before a moment
abbrev pub query_of_left_upload : (moment : ℕ) → Query (Option LeftUpload)
query_of_left_upload = key_query text.left_before_text (AtMostOne IsLeftRow) ⊥ IsLeftBefore

-- ---- segments

-- the row of a segment is added
abbrev pub insertion_of_segment : SegmentRow → Statement
insertion_of_segment =
    by_row text.insert_segment_text IsStorableSegment segment_values with_new_segment_row

-- the rows of an upload's segments are deleted
abbrev pub deletion_of_segments : (upload : ℕ) → Statement
deletion_of_segments = by_key text.delete_segments_text without_segment_rows

-- the rows of an upload's segments are read
abbrev pub query_of_segments : {Z : Type 0} → (upload : ℕ) → Query (Vec SegmentRow Z)
query_of_segments =
    key_query text.segments_of_text (All IsSegmentRow) ⊤
    (λ upload t found. AreSegmentRowsOf upload t found.items)

-- ---- timed_out

-- the number of an upload that timed out is added
abbrev pub insertion_of_timed_out : (upload : ℕ) → Statement
insertion_of_timed_out = by_key text.insert_timed_out_text with_timed_out

-- whether an upload timed out is read, as this of what was found
abbrev pub query_of_timed_out : {A : Type 0} → (A → Bool) → (upload : ℕ) → Query A
query_of_timed_out is_there =
    key_query text.find_timed_out_text (AtMostOne IsNumberRow) ⊥
    (λ upload t found. is_there found ≡ has_timed_out upload t)

-- ---- blocks

-- a block is added
abbrev pub insertion_of_block : BlockKey → List ℕ → Statement
insertion_of_block key bytes =
    by_row text.insert_block_text IsStorableKey (λ k. block_values k bytes)
    (λ k. with_new_block k bytes) key

-- the blocks of an owner are deleted
abbrev pub deletion_of_blocks : BlockOwner → Statement
deletion_of_blocks = by_row text.delete_blocks_text IsStorableOwner owner_values without_blocks_of

-- the blocks of one part before a place are deleted
abbrev pub deletion_of_run : BlockKey → Statement
deletion_of_run = by_row text.delete_run_text IsStorableKey key_values without_run

-- the blocks of an owner become another's
abbrev pub move_of_blocks : (owner to : BlockOwner) → Statement
move_of_blocks owner to = record {
  storable = IsStorableOwner owner × IsStorableOwner to;
  text = text.move_blocks_text;
  values = move_values owner to;
  change = with_blocks_moved owner to;
}

-- the blocks of one part before a place become another owner's
abbrev pub move_of_run : BlockKey → BlockOwner → Statement
move_of_run end to = record {
  storable = IsStorableKey end × IsStorableOwner to;
  text = text.move_run_text;
  values = move_run_values end to;
  change = with_run_moved end to;
}

-- the bytes of a block are read
abbrev pub query_of_block : {Z : Type 0} → BlockKey → Query (Option (Vec ℕ Z))
query_of_block =
    row_query text.read_block_text IsStorableKey key_values (AtMostOne IsBytesRow) ⊤
    (λ key t found.
    AreBytesAt key t (option_to_list (option_map (λ bytes. Blob bytes.items) found)))

-- the part and place of an owner's first block are read
abbrev pub query_of_first_block : BlockOwner → Query (Option BlockPlace)
query_of_first_block =
    row_query text.first_block_text IsStorableOwner owner_values (AtMostOne IsPlaceRow) ⊥
    IsFirstBlock

-- the place of the last block of a part is read
abbrev pub query_of_last_block : BlockOwner → (part : ℕ) → Query (Option ℕ)
query_of_last_block owner =
    row_query text.last_block_text (IsStorablePart owner) (part_values owner)
    (AtMostOne IsNumberRow) ⊥ (IsLastPlace owner)

-- ---- sha512s

-- the SHA-512 of an owner is added
abbrev pub insertion_of_sha512 : BlockOwner → List ℕ → Statement
insertion_of_sha512 owner value =
    by_row text.insert_sha512_text IsStorableOwner (λ o. sha512_values o value)
    (λ o. with_new_sha512 o value) owner

-- the SHA-512 of an owner is deleted
abbrev pub deletion_of_sha512 : BlockOwner → Statement
deletion_of_sha512 = by_row text.delete_sha512_text IsStorableOwner owner_values without_sha512

-- the SHA-512 of an owner is read
abbrev pub query_of_sha512 : BlockOwner → Query (Option (List ℕ))
query_of_sha512 =
    row_query text.find_sha512_text IsStorableOwner owner_values (AtMostOne IsSha512Row) ⊥
    (λ owner t found.
    IsSha512Of owner t (option_to_list (option_map (λ value. Blob value) found)))
