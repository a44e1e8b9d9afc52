-- What is read of tables, by the state that they are.
use Rattle.std.specs.Prelude.{◌≡◌, ◌≢◌, ℕ, ◌+◌, Bool, ◌&&◌, List, [], length, take, filter, Option, Some, None, option_map, option_and_then, find, map as each, nat_eq, nat_le}
use Rattle.std.specs.List.{flat_map, slice_get}
use Rattle.std.specs.Option.{option_map_or, option_to_list}
use Rattle.std.specs.FinMap as map
use Rattle.sha2.specs.Sha512.{sha512}
use Rattle.sqlite.specs.declared.types.Value.TheVariants.{Blob}
use Rattle.sqlite_value.specs.Order.{Row}
use Rattle.dep_types.specs.Maps.{Numbered}
use Rattle.dep_types.specs.Names.{if_passes}
use Rattle.dep_types.specs.State.{State, File, Upload, Texts, file_at}
use Rattle.dep_types.specs.Rows.{object_row, file_row, upload_row}
use Rattle.dep_types.specs.Uploads.{assembled}
use Rattle.dep_types.specs.declared.rows.ObjectRow.{ObjectRow}
use Rattle.dep_types.specs.declared.rows.FileRow.{FileRow}
use Rattle.dep_tables.specs.Rowids.{IsOrdered, row_at, is_after}
use Rattle.dep_tables.specs.Tables.{Tables}
use Rattle.dep_tables.specs.Edits.{HasStateRow, IsObjectRowAt, IsObjectAfter, AreMetadataRowsOf, IsLastText, page_size, AreFirstTexts, IsFileRowAt, AreFileRowsOf, AreFirstFileRows, IsUploadRowAt, AreSegmentRowsOf, AreBytesAt, IsSha512Of}
use Rattle.dep_tables.specs.declared.uploads.UploadColumns.{UploadColumns}
use Rattle.dep_tables.specs.Rows.{metadata_values, shown_metadata, columns_of_upload}
use Rattle.dep_tables.specs.declared.state.StateRow.{StateRow}
use Rattle.dep_tables.specs.declared.metadata.MetadataRow.{MetadataRow}
use Rattle.dep_tables.specs.declared.segments.SegmentRow.{SegmentRow}
use Rattle.dep_tables.specs.declared.owner.BlockOwner.{BlockOwner}
use Rattle.dep_tables.specs.declared.owner.BlockOwner.TheVariants as owner
use Rattle.dep_row_maps.specs.Keyed.{rows_of, next_entry}
use Rattle.dep_row_maps.specs.Stored.{state_row, state_stored, object_stored, file_stored, upload_stored, is_row_of, is_file_of, metadata_rows, listed, grouped, segment_row, texts_under, blocks_of, block_key, bytes_seen}
use Rattle.dep_row_maps.specs.TablesAre.{metadata_at, files_at, segments_at, promised_at}
use Rattle.dep_row_maps.specs.Laws.{HoldsOfTables, HasSegmentsWithin, AreBlocksOf}

-- ---- reading

-- the row of `state` is the clock and the counters of the state
abbrev pub StateFound : Type 0
StateFound = HoldsOfTables (λ t s. row_at t.state 1 ≡ Some (state_stored s))

-- what a query finds in the row of `state` is the state's clock and counters
abbrev pub StateRead : Type 0
StateRead = HoldsOfTables (λ t s. (row : StateRow) → HasStateRow t row → row ≡ state_row s)

-- the stored row at a number is that of what the state has under it, and none is there without it
abbrev pub FoundUnder : {X : Type 0} → (Tables → List Row) → (ℕ → X → Row) → (State → Numbered X)
    → Type 0
FoundUnder rows stored under = HoldsOfTables (λ t s. (n : ℕ)
    → row_at (rows t) n ≡ option_map (stored n) (map.get (under s) n))

-- so it is with objects
abbrev pub ObjectFound : Type 0
ObjectFound = FoundUnder (λ t. t.objects) object_stored (λ s. s.objects)

-- what a query finds at a number is the object's row, and nothing without an object
abbrev pub ObjectRead : Type 0
ObjectRead = HoldsOfTables (λ t s. (n : ℕ) (found : Option ObjectRow) → IsObjectRowAt n t found
    → found ≡ option_map (object_row n) (map.get s.objects n))

-- the first stored row above a number is that of the next object, if there is one
abbrev pub NextObjectFound : Type 0
NextObjectFound = HoldsOfTables (λ t s. (n : ℕ)
    → find (is_after n) t.objects
    ≡ option_map (λ e. object_stored e.0 e.1) (next_entry s.objects n))

-- what a query finds above a number is the next object's, if there is one
abbrev pub NextObjectRead : Type 0
NextObjectRead = HoldsOfTables (λ t s. (n : ℕ) (found : Option ℕ) → IsObjectAfter n t found
    → found ≡ option_map (λ e. e.0) (next_entry s.objects n))

-- a row of metadata as a name with a value
abbrev pub pair_of : MetadataRow → List ℕ × List ℕ
pair_of row = (row.name, row.value)

-- the rows of an object's metadata, by name and place, are its texts
abbrev pub TextsRead : Type 0
TextsRead = HoldsOfTables (λ t s. (n : ℕ) (found : List MetadataRow) → AreMetadataRowsOf n t found
    → (each metadata_values found ≡ metadata_rows n (metadata_at s.objects n))
    × (each pair_of found ≡ listed (metadata_at s.objects n)))

-- texts that are listed can be grouped again, where each name has a text at least
abbrev pub TextsGrouped : Type 0
TextsGrouped = (m : Texts) → ((name : List ℕ) → map.get m name ≢ Some []) → grouped (listed m) ≡ m

-- where only texts of one object pass a test, a page of them has the first of its rows that pass
abbrev pub TextsPageRead : Type 0
TextsPageRead = HoldsOfTables (λ t s. (n : ℕ) (test seen : Row → Bool)
    → ((r : Row) → test r ≡ (is_row_of n r && seen (shown_metadata r)))
    → (found : List MetadataRow) → AreFirstTexts test t found
    → each metadata_values found
    ≡ take page_size (filter seen (metadata_rows n (metadata_at s.objects n))))

-- behind the place of the last text of a name stands the next one: so many texts has the name
abbrev pub LastTextRead : Type 0
LastTextRead = HoldsOfTables (λ t s. (n : ℕ) (name : List ℕ) (found : Option ℕ)
    → IsLastText n name t found
    → option_map_or (λ place. place + 1) found 0
    ≡ length (texts_under (metadata_at s.objects n) name))

-- a number of a file is in one object at most
abbrev pub FileFound : Type 0
FileFound = HoldsOfTables (λ t s. IsOrdered t.files → (n f : ℕ)
    → option_and_then (if_passes (is_file_of n)) (row_at t.files f)
    ≡ option_map (file_stored n f) (map.get (files_at s.objects n) f))

-- a file that is read by its number is of the object that the row names, and else no object has it
abbrev pub FileRead : Type 0
FileRead = HoldsOfTables (λ t s. IsOrdered t.files → (f : ℕ) (found : Option FileRow)
    → IsFileRowAt f t found
    → (n : ℕ)
    → option_and_then (if_passes (λ r. nat_eq r.object n)) found
    ≡ option_map (file_row n f) (file_at s n f))

-- the stored rows of an object's files are those of its files, by number
abbrev pub FilesListed : Type 0
FilesListed = HoldsOfTables (λ t s. (n : ℕ)
    → filter (is_file_of n) t.files ≡ rows_of (file_stored n) (files_at s.objects n))

-- the row of each of an object's files, by number
abbrev pub file_rows : ℕ → Numbered File → List FileRow
file_rows n files = each (λ e. file_row n e.0 e.1) (map.entries files)

-- those from a number on
abbrev pub files_from : ℕ → List FileRow → List FileRow
files_from from rows = filter (λ row. nat_le from row.file) rows

-- what a query finds of an object's files from a number on is the row of each, by number
abbrev pub FilesRead : Type 0
FilesRead = HoldsOfTables (λ t s. (n from : ℕ) (found : List FileRow) → AreFileRowsOf n from t found
    → found ≡ files_from from (file_rows n (files_at s.objects n)))

-- a page of them has the first of these rows
abbrev pub FilesPageRead : Type 0
FilesPageRead = HoldsOfTables (λ t s. (n from : ℕ) (found : List FileRow)
    → AreFirstFileRows n from t found
    → found ≡ take page_size (files_from from (file_rows n (files_at s.objects n))))

-- the stored row at a number is that of the upload, and none is there without one
abbrev pub UploadFound : Type 0
UploadFound = FoundUnder (λ t. t.uploads) upload_stored (λ s. s.uploads)

-- what a query finds at a number is the upload's row, and nothing without an upload
abbrev pub UploadRead : Type 0
UploadRead = HoldsOfTables (λ t s. (u : ℕ) (found : Option UploadColumns) → IsUploadRowAt u t found
    → found ≡ option_map (λ it. columns_of_upload (upload_row u it)) (map.get s.uploads u))

-- what a query finds of an upload's segments is the size of each, by number
abbrev pub SegmentsRead : Type 0
SegmentsRead = HoldsOfTables (λ t s. (u : ℕ) (found : List SegmentRow) → AreSegmentRowsOf u t found
    → found ≡ each (λ e. segment_row u e.0 (length e.1)) (map.entries (segments_at s.uploads u)))

-- the blocks of a file's content, by part and place, join to it
abbrev pub ContentRead : Type 0
ContentRead = HoldsOfTables (λ t s. (n f : ℕ) (file : File)
    → map.get (files_at s.objects n) f ≡ Some file
    → (found : List Row) → AreBlocksOf (owner.File f) t found
    → flat_map bytes_seen found ≡ file.content)

-- the blocks of an upload, by part and place, join to its segments one after another
abbrev pub AssembledRead : Type 0
AssembledRead = HoldsOfTables (λ t s. (u : ℕ) (it : Upload) → map.get s.uploads u ≡ Some it
    → HasSegmentsWithin it
    → (found : List Row) → AreBlocksOf (owner.Upload u) t found
    → flat_map bytes_seen found ≡ assembled it)

-- the block of a segment at a place is that one of its blocks, and none is there behind the last
abbrev pub BlockRead : Type 0
BlockRead = HoldsOfTables (λ t s. (u : ℕ) (it : Upload) → map.get s.uploads u ≡ Some it
    → (k : ℕ) (bytes : List ℕ) → map.get it.segments k ≡ Some bytes
    → (place : ℕ)
    → AreBytesAt (block_key (owner.Upload u) k place) t
    (option_to_list (option_map Blob (slice_get (blocks_of bytes) place))))

-- What is found for an owner: the value of a file that is there is that of its content, a file's number that
-- no object has has none, and an upload has what was promised of it.
abbrev pub ReportsSha512 : State → BlockOwner → Option (List ℕ) → Type 0
ReportsSha512 s (owner.File f) found =
    ((n : ℕ) (file : File) → map.get (files_at s.objects n) f ≡ Some file
    → found ≡ Some (sha512 file.content))
    × (((n : ℕ) → map.get (files_at s.objects n) f ≡ None) → found ≡ None)
ReportsSha512 s (owner.Upload u) found = found ≡ promised_at s.uploads u

-- what a query finds under an owner is its SHA-512 by the state
abbrev pub Sha512Read : Type 0
Sha512Read = HoldsOfTables (λ t s. (o : BlockOwner) (found : Option (List ℕ))
    → IsSha512Of o t (option_to_list (option_map Blob found)) → ReportsSha512 s o found)
