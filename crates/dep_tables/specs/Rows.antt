-- Rows of the tables as they are stored, where the column of a key is NULL, and as they are given and shown.
-- Is..Row says that a row, as a query shows it, has the columns of one that was given.
use Rattle.std.specs.Prelude.{◌≡◌, ◌⊎◌, ℕ, ◌<◌, ◌^◌, pos, Bool, if◌then◌else◌, ◌&&◌, List, [], ◌∷◌, length, get_or, IsUtf8}
use Rattle.std.specs.declared.cmp.Ordering.{Ordering}
use Rattle.std.specs.Ordering.{ordering_then, is_eq, is_ge}
use Rattle.sqlite.specs.declared.types.Value.{Value}
use Rattle.sqlite.specs.declared.types.Value.TheVariants.{Null, Int, Text, Blob}
use Rattle.sqlite.specs.Order.{Row, column}
use Rattle.sqlite.specs.Values.{or_null}
use Rattle.sqlite_value.specs.Order.{value_cmp}
use Rattle.dep_tables.specs.Rowids.{has_number, reaches_number, is_below_number, columns_from}
use Rattle.dep_types.specs.declared.rows.ObjectRow.{ObjectRow}
use Rattle.dep_types.specs.declared.rows.FileRow.{FileRow}
use Rattle.dep_types.specs.declared.rows.UploadRow.{UploadRow}
use Rattle.dep_tables.specs.declared.columns.ColumnKind.{ColumnKind}
use Rattle.dep_tables.specs.declared.columns.ColumnKind.TheVariants as kind
use Rattle.dep_tables.specs.declared.state.StateRow.{StateRow}
use Rattle.dep_tables.specs.declared.metadata.MetadataRow.{MetadataRow}
use Rattle.dep_tables.specs.declared.segments.SegmentRow.{SegmentRow}
use Rattle.dep_tables.specs.declared.uploads.LeftUpload.{LeftUpload}
use Rattle.dep_tables.specs.declared.uploads.UploadColumns.{UploadColumns}
use Rattle.dep_tables.specs.declared.owner.BlockOwner.{BlockOwner}
use Rattle.dep_tables.specs.declared.owner.BlockOwner.TheVariants.{File, Upload}
use Rattle.dep_tables.specs.declared.owner.BlockKey.{BlockKey}
use Rattle.dep_tables.specs.declared.owner.BlockPlace.{BlockPlace}

-- the row has such a value in this column
abbrev pub HasAt : (Value → Type 0) → Row → ℕ → Type 0
HasAt is_ours row at = (at < length row) × is_ours (column row at)

-- an integer from 0 on
abbrev pub IsNumberValue : Value → Type 0
IsNumberValue v = (n : ℕ) × (v ≡ Int (pos n))

-- a text that is UTF-8
abbrev pub IsTextValue : Value → Type 0
IsTextValue v = (t : List ℕ) × (v ≡ Text t) × IsUtf8 t

-- as many bytes
abbrev pub IsDigestValue : ℕ → Value → Type 0
IsDigestValue width v = (b : List ℕ) × (v ≡ Blob b) × (length b ≡ width)

-- NULL where there is no value
abbrev pub IsNullOr : (Value → Type 0) → Value → Type 0
IsNullOr is_ours v = (v ≡ Null) ⊎ is_ours v

-- true as 1, false as 0
abbrev pub flag : Bool → Value
flag b = Int (pos (if b then 1 else 0))

-- 1 or 0
abbrev pub IsFlagValue : Value → Type 0
IsFlagValue v = (b : Bool) × (v ≡ flag b)

-- a blob of any length
abbrev pub IsBytesValue : Value → Type 0
IsBytesValue v = (b : List ℕ) × (v ≡ Blob b)

-- what SQL value a column of this kind has
abbrev pub IsOfKind : ColumnKind → Value → Type 0
IsOfKind kind.Number = IsNumberValue
IsOfKind kind.Flag = IsFlagValue
IsOfKind kind.Text = IsTextValue
IsOfKind kind.TextOrNull = IsNullOr IsTextValue
IsOfKind kind.Sha256 = IsDigestValue 32
IsOfKind kind.Sha256OrNull = IsNullOr (IsDigestValue 32)
IsOfKind kind.Sha512 = IsDigestValue 64
IsOfKind kind.Bytes = IsBytesValue

-- the row has as many columns, each of its kind
pub record HasKinds (kinds : List ColumnKind) (row : Row) : Type 0 where
  pub width : length row ≡ length kinds
  pub each : (at : ℕ) (none : ColumnKind) → at < length kinds
      → IsOfKind (get_or kinds at none) (column row at)

-- ---- format

-- the one row of `format`
abbrev pub stored_format : ℕ → Row
stored_format version = Int (pos 1) ∷ Null ∷ Int (pos version) ∷ []

-- ---- state

-- the clock, and the next object, file, upload and change
abbrev pub state_values : StateRow → Row
state_values r =
    Int (pos r.clock) ∷ Int (pos r.next.object) ∷ Int (pos r.next.file) ∷ Int (pos r.next.upload)
    ∷ Int (pos r.next.change) ∷ []

-- the one row of `state` in its tree: the rowid is its id, 1, whose own column is NULL
abbrev pub stored_state : StateRow → Row
stored_state r = Int (pos 1) ∷ Null ∷ state_values r

-- what a query shows of a stored row
abbrev pub shown_state : Row → Row
shown_state = columns_from 2 5

-- each number is one of SQL's
pub record IsStorableState (r : StateRow) : Type 0 where
  pub clock : r.clock < 2 ^ 63
  pub object : r.next.object < 2 ^ 63
  pub file : r.next.file < 2 ^ 63
  pub upload : r.next.upload < 2 ^ 63
  pub change : r.next.change < 2 ^ 63

abbrev pub state_kinds : List ColumnKind
state_kinds = kind.Number ∷ kind.Number ∷ kind.Number ∷ kind.Number ∷ kind.Number ∷ []

-- what a query for the clock and the next numbers shows
abbrev pub IsStateRow : Row → Type 0
IsStateRow = HasKinds state_kinds

-- ---- objects

-- what an object's row has behind its number
abbrev pub object_columns : ObjectRow → Row
object_columns r =
    flag r.ingested ∷ Int (pos r.object_tag) ∷ Int (pos r.metadata_tag) ∷ Int (pos r.files_tag)
    ∷ Int (pos r.changed) ∷ []

-- an object as a query shows it, and as its row is put in
abbrev pub object_values : ObjectRow → Row
object_values r = Int (pos r.object) ∷ object_columns r

-- an object's row in its tree: the rowid is its number, whose own column is NULL
abbrev pub stored_object : ObjectRow → Row
stored_object r = Int (pos r.object) ∷ Null ∷ object_columns r

-- what a query shows of a stored row, the number in front
abbrev pub shown_object : Row → Row
shown_object stored = column stored 0 ∷ columns_from 2 5 stored

-- each number of the object's row is one of SQL's
pub record IsStorableObject (r : ObjectRow) : Type 0 where
  pub object : r.object < 2 ^ 63
  pub object_tag : r.object_tag < 2 ^ 63
  pub metadata_tag : r.metadata_tag < 2 ^ 63
  pub files_tag : r.files_tag < 2 ^ 63
  pub changed : r.changed < 2 ^ 63

-- the number, whether it is ingested, three tags and a moment
abbrev pub object_kinds : List ColumnKind
object_kinds = kind.Number ∷ kind.Flag ∷ kind.Number ∷ kind.Number ∷ kind.Number ∷ kind.Number ∷ []

-- what a query for an object shows
abbrev pub IsObjectRow : Row → Type 0
IsObjectRow = HasKinds object_kinds

-- ---- metadata

-- the table has no column for its rowid
abbrev pub metadata_values : MetadataRow → Row
metadata_values r = Int (pos r.object) ∷ Text r.name ∷ Int (pos r.place) ∷ Text r.value ∷ []

abbrev pub shown_metadata : Row → Row
shown_metadata = columns_from 1 4

-- by name and place, of rows as they are shown
abbrev pub by_name_and_place : Row → Row → Ordering
by_name_and_place a b =
    ordering_then (value_cmp (column a 1) (column b 1)) (value_cmp (column a 2) (column b 2))

-- an object and a name
abbrev pub name_values : (object : ℕ) → (name : List ℕ) → Row
name_values object name = Int (pos object) ∷ Text name ∷ []

-- an object, a name and a place
abbrev pub text_key_values : (object : ℕ) → (name : List ℕ) → (place : ℕ) → Row
text_key_values object name place = Int (pos object) ∷ Text name ∷ Int (pos place) ∷ []

-- a text of this name of the object
abbrev pub is_text_of : (object : ℕ) → (name : List ℕ) → Row → Bool
is_text_of object name stored =
    has_number 1 object stored && is_eq (value_cmp (column stored 2) (Text name))

-- one of this name of the object, at this place or behind it
abbrev pub is_text_from : (object : ℕ) → (name : List ℕ) → (place : ℕ) → Row → Bool
is_text_from object name place stored =
    is_text_of object name stored && reaches_number 3 place stored

-- a text of the object, of this name or one above it
abbrev pub is_text_from_name : (object : ℕ) → (name : List ℕ) → Row → Bool
is_text_from_name object name stored =
    has_number 1 object stored && is_ge (value_cmp (column stored 2) (Text name))

-- the stored row has this one's object, name and place
abbrev pub has_metadata_key : MetadataRow → Row → Bool
has_metadata_key r stored = is_text_of r.object r.name stored && has_number 3 r.place stored

-- the object and the place are ones of SQL's numbers
pub record IsStorableMetadata (r : MetadataRow) : Type 0 where
  pub object : r.object < 2 ^ 63
  pub place : r.place < 2 ^ 63

-- the object, the name, the place and the value
abbrev pub metadata_kinds : List ColumnKind
metadata_kinds = kind.Number ∷ kind.Text ∷ kind.Number ∷ kind.Text ∷ []

-- what a query for metadata shows
abbrev pub IsMetadataRow : Row → Type 0
IsMetadataRow = HasKinds metadata_kinds

-- ---- files

-- what a file's row has behind its number
abbrev pub file_columns : FileRow → Row
file_columns r =
    Int (pos r.object) ∷ Text r.name ∷ Text r.media ∷ Int (pos r.size) ∷ Int (pos r.tag)
    ∷ Int (pos r.deposited) ∷ or_null Text r.behalf ∷ flag r.by_reference ∷ Blob r.sha256 ∷ []

-- what a file's row is given, and what is read of it
abbrev pub file_values : FileRow → Row
file_values r = Int (pos r.file) ∷ file_columns r

-- a file's row in its tree: the rowid is its number, whose own column is NULL
abbrev pub stored_file : FileRow → Row
stored_file r = Int (pos r.file) ∷ Null ∷ file_columns r

-- what a query shows of a stored row
abbrev pub shown_file : Row → Row
shown_file stored = column stored 0 ∷ columns_from 2 9 stored

-- each number of the file's row is one of SQL's
pub record IsStorableFile (r : FileRow) : Type 0 where
  pub file : r.file < 2 ^ 63
  pub object : r.object < 2 ^ 63
  pub size : r.size < 2 ^ 63
  pub tag : r.tag < 2 ^ 63
  pub deposited : r.deposited < 2 ^ 63

-- the columns of a file's row
abbrev pub file_kinds : List ColumnKind
file_kinds =
    kind.Number ∷ kind.Number ∷ kind.Text ∷ kind.Text ∷ kind.Number ∷ kind.Number ∷ kind.Number
    ∷ kind.TextOrNull ∷ kind.Flag ∷ kind.Sha256 ∷ []

-- what a query for a file shows
abbrev pub IsFileRow : Row → Type 0
IsFileRow = HasKinds file_kinds

-- what a query for the SHA-256 of files shows of a stored row: the number and the SHA-256
abbrev pub shown_sha256 : Row → Row
shown_sha256 stored = column stored 0 ∷ column stored 10 ∷ []

-- ---- uploads

-- what the row of an upload has of it
abbrev pub columns_of_upload : UploadRow → UploadColumns
columns_of_upload r = record {
  upload = r.upload;
  size = r.size;
  count = r.count;
  segment_size = r.segment_size;
  sha256 = r.sha256;
  last = r.last;
}

-- what an upload's row has behind its number
abbrev pub upload_columns : UploadColumns → Row
upload_columns r =
    Int (pos r.size) ∷ Int (pos r.count) ∷ Int (pos r.segment_size) ∷ or_null Blob r.sha256
    ∷ Int (pos r.last) ∷ []

-- an upload as a query shows it, and as its row is put in
abbrev pub upload_values : UploadColumns → Row
upload_values r = Int (pos r.upload) ∷ upload_columns r

-- an upload's row in its tree: the rowid is its number, whose own column is NULL
abbrev pub stored_upload : UploadColumns → Row
stored_upload r = Int (pos r.upload) ∷ Null ∷ upload_columns r

-- what a query shows of a stored row, the number in front
abbrev pub shown_upload : Row → Row
shown_upload stored = column stored 0 ∷ columns_from 2 5 stored

-- each number of the upload's row is one of SQL's
pub record IsStorableUpload (r : UploadColumns) : Type 0 where
  pub upload : r.upload < 2 ^ 63
  pub size : r.size < 2 ^ 63
  pub count : r.count < 2 ^ 63
  pub segment_size : r.segment_size < 2 ^ 63
  pub last : r.last < 2 ^ 63

-- the number, three sizes, the SHA-256 if one was promised, and a moment
abbrev pub upload_kinds : List ColumnKind
upload_kinds = kind.Number ∷ kind.Number ∷ kind.Number ∷ kind.Number ∷ kind.Sha256OrNull ∷ kind.Number ∷ []

-- what a query for an upload shows
abbrev pub IsUploadRow : Row → Type 0
IsUploadRow = HasKinds upload_kinds

-- the number of an upload alone, and when it was last written to
abbrev pub left_values : LeftUpload → Row
left_values l = Int (pos l.upload) ∷ Int (pos l.last) ∷ []

-- what a query shows of a stored row: the number and the last moment
abbrev pub shown_left : Row → Row
shown_left stored = column stored 0 ∷ column stored 6 ∷ []

abbrev pub left_kinds : List ColumnKind
left_kinds = kind.Number ∷ kind.Number ∷ []

-- what a query for an upload that was left shows
abbrev pub IsLeftRow : Row → Type 0
IsLeftRow = HasKinds left_kinds

-- by the last moment and the number, of rows as they are shown
abbrev pub by_last_and_upload : Row → Row → Ordering
by_last_and_upload a b =
    ordering_then (value_cmp (column a 1) (column b 1)) (value_cmp (column a 0) (column b 0))

-- ---- segments

-- the upload, the number and the size of a segment
abbrev pub segment_values : SegmentRow → Row
segment_values r = Int (pos r.upload) ∷ Int (pos r.number) ∷ Int (pos r.size) ∷ []

abbrev pub shown_segment : Row → Row
shown_segment = columns_from 1 3

-- by number, of rows as they are shown
abbrev pub by_number : Row → Row → Ordering
by_number a b = value_cmp (column a 1) (column b 1)

-- the stored row has this one's upload and number
abbrev pub has_segment_key : SegmentRow → Row → Bool
has_segment_key r stored = has_number 1 r.upload stored && has_number 2 r.number stored

-- each number of the segment's row is one of SQL's
pub record IsStorableSegment (r : SegmentRow) : Type 0 where
  pub upload : r.upload < 2 ^ 63
  pub number : r.number < 2 ^ 63
  pub size : r.size < 2 ^ 63

abbrev pub segment_kinds : List ColumnKind
segment_kinds = kind.Number ∷ kind.Number ∷ kind.Number ∷ []

-- what a query for segments shows
abbrev pub IsSegmentRow : Row → Type 0
IsSegmentRow = HasKinds segment_kinds

-- ---- timed_out

-- a number with nothing beside it
abbrev pub stored_number : ℕ → Row
stored_number n = Int (pos n) ∷ Null ∷ []

-- a number alone
abbrev pub number_kinds : List ColumnKind
number_kinds = kind.Number ∷ []

-- what a query for a number alone shows
abbrev pub IsNumberRow : Row → Type 0
IsNumberRow = HasKinds number_kinds

-- ---- blocks

-- 0 of a file, 1 of an upload
abbrev pub owner_kind : BlockOwner → ℕ
owner_kind (File n) = 0
owner_kind (Upload n) = 1

abbrev pub owner_number : BlockOwner → ℕ
owner_number (File n) = n
owner_number (Upload n) = n

-- the kind of an owner and its number
abbrev pub owner_values : BlockOwner → Row
owner_values o = Int (pos (owner_kind o)) ∷ Int (pos (owner_number o)) ∷ []

-- the kind of the owner, its number and the part
abbrev pub part_values : BlockOwner → (part : ℕ) → Row
part_values o part = Int (pos (owner_kind o)) ∷ Int (pos (owner_number o)) ∷ Int (pos part) ∷ []

-- the kind of the owner, its number, the part and the place
abbrev pub key_values : BlockKey → Row
key_values k =
    Int (pos (owner_kind k.owner)) ∷ Int (pos (owner_number k.owner)) ∷ Int (pos k.at.part)
    ∷ Int (pos k.at.place) ∷ []

-- the key of a block, and its bytes at the end
abbrev pub block_values : BlockKey → List ℕ → Row
block_values k bytes =
    Int (pos (owner_kind k.owner)) ∷ Int (pos (owner_number k.owner)) ∷ Int (pos k.at.part)
    ∷ Int (pos k.at.place) ∷ Blob bytes ∷ []

-- whose the blocks are, and whose they become
abbrev pub move_values : (o to : BlockOwner) → Row
move_values o to =
    Int (pos (owner_kind o)) ∷ Int (pos (owner_number o)) ∷ Int (pos (owner_kind to))
    ∷ Int (pos (owner_number to)) ∷ []

-- the key that the blocks of its part stand before, and whose they become
abbrev pub move_run_values : BlockKey → BlockOwner → Row
move_run_values k to =
    Int (pos (owner_kind k.owner)) ∷ Int (pos (owner_number k.owner)) ∷ Int (pos k.at.part)
    ∷ Int (pos k.at.place) ∷ Int (pos (owner_kind to)) ∷ Int (pos (owner_number to)) ∷ []

abbrev pub place_values : BlockPlace → Row
place_values p = Int (pos p.part) ∷ Int (pos p.place) ∷ []

-- the part and the place of a block, and its bytes
abbrev pub shown_block : Row → Row
shown_block = columns_from 3 3

-- the part and the place of a stored block
abbrev pub shown_place : Row → Row
shown_place = columns_from 3 2

-- a column of a row, alone
abbrev pub shown_number : (at : ℕ) → Row → Row
shown_number at row = column row at ∷ []

-- the bytes of a stored block
abbrev pub bytes_in : Row → Value
bytes_in stored = column stored 5

abbrev pub place_kinds : List ColumnKind
place_kinds = kind.Number ∷ kind.Number ∷ []

-- what a query for the place of a block shows
abbrev pub IsPlaceRow : Row → Type 0
IsPlaceRow = HasKinds place_kinds

-- bytes alone
abbrev pub bytes_kinds : List ColumnKind
bytes_kinds = kind.Bytes ∷ []

-- what a query for the bytes of a block shows
abbrev pub IsBytesRow : Row → Type 0
IsBytesRow = HasKinds bytes_kinds

-- by part and place, of rows as they are shown
abbrev pub by_part_and_place : Row → Row → Ordering
by_part_and_place a b =
    ordering_then (value_cmp (column a 0) (column b 0)) (value_cmp (column a 1) (column b 1))

-- from the last place to the first, of rows as they are shown
abbrev pub by_falling_place : Row → Row → Ordering
by_falling_place a b = value_cmp (column b 0) (column a 0)

-- a block of this owner
abbrev pub is_block_of : BlockOwner → Row → Bool
is_block_of o stored = has_number 1 (owner_kind o) stored && has_number 2 (owner_number o) stored

-- a block of this part of the owner
abbrev pub is_part_of : BlockOwner → ℕ → Row → Bool
is_part_of o part stored = is_block_of o stored && has_number 3 part stored

-- the block at this part and place of the owner
abbrev pub is_block : BlockKey → Row → Bool
is_block k stored = is_part_of k.owner k.at.part stored && has_number 4 k.at.place stored

-- a block of the same part that comes earlier
abbrev pub is_earlier_block : BlockKey → Row → Bool
is_earlier_block k stored =
    is_part_of k.owner k.at.part stored && is_below_number 4 k.at.place stored

-- the block with another owner
abbrev pub moved_to : BlockOwner → Row → Row
moved_to o stored =
    column stored 0 ∷ Int (pos (owner_kind o)) ∷ Int (pos (owner_number o)) ∷ columns_from 3 3 stored

-- the number of the file or of the upload is one of SQL's
abbrev pub IsStorableOwner : BlockOwner → Type 0
IsStorableOwner o = owner_number o < 2 ^ 63

-- the number of the owner and the part are ones of SQL's
pub record IsStorablePart (o : BlockOwner) (k : ℕ) : Type 0 where
  pub owner : IsStorableOwner o
  pub part : k < 2 ^ 63

-- the number of the owner, the part and the place are ones of SQL's
pub record IsStorableKey (k : BlockKey) : Type 0 where
  pub owner : IsStorableOwner k.owner
  pub part : k.at.part < 2 ^ 63
  pub place : k.at.place < 2 ^ 63

-- ---- sha512s

-- the kind of the owner, its number, and the SHA-512
abbrev pub sha512_values : BlockOwner → List ℕ → Row
sha512_values o value = Int (pos (owner_kind o)) ∷ Int (pos (owner_number o)) ∷ Blob value ∷ []

-- the row of this owner
abbrev pub is_sha512_of : BlockOwner → Row → Bool
is_sha512_of o stored = has_number 1 (owner_kind o) stored && has_number 2 (owner_number o) stored

-- a SHA-512 alone
abbrev pub sha512_kinds : List ColumnKind
sha512_kinds = kind.Sha512 ∷ []

-- what a query for the SHA-512 of an owner shows
abbrev pub IsSha512Row : Row → Type 0
IsSha512Row = HasKinds sha512_kinds

-- the value in a row of `sha512s`
abbrev pub value_in : Row → Value
value_in stored = column stored 3
