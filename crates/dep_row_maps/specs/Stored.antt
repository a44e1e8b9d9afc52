-- The rows that each table has of the state.
use Rattle.std.specs.Prelude.{◌≡◌, ℕ, ◌+◌, zero, suc, Bool, not, Option, Some, option_map, List, [], ◌∷◌, ◌++◌, length, take, drop, filter, fold, unwrap_or, map as each}
use Rattle.std.specs.Option.{option_to_list}
use Rattle.std.specs.FinMap as map
use Rattle.sqlite_value.specs.Order.{Row, column, bytes}
use Rattle.dep_types.specs.Maps.{Numbered}
use Rattle.dep_types.specs.State.{State, Object, File, Upload, Texts}
use Rattle.dep_types.specs.Rows.{object_row, file_row, upload_row}
use Rattle.dep_types.specs.declared.rows.ObjectRow.{ObjectRow}
use Rattle.dep_tables.specs.Rowids.{has_number, put_next}
use Rattle.dep_tables.specs.Rows.{stored_state, stored_object, stored_file, stored_upload, columns_of_upload, metadata_values, segment_values, block_values, value_in}
use Rattle.dep_tables.specs.declared.owner.BlockOwner.TheVariants as owner
use Rattle.dep_tables.specs.declared.state.StateRow.{StateRow}
use Rattle.dep_tables.specs.declared.metadata.MetadataRow.{MetadataRow}
use Rattle.dep_tables.specs.declared.segments.SegmentRow.{SegmentRow}
use Rattle.dep_tables.specs.declared.owner.BlockOwner.{BlockOwner}
use Rattle.dep_tables.specs.declared.owner.BlockKey.{BlockKey}
use Rattle.sqlite.specs.declared.types.Value.TheVariants.{Int, Blob}
use Rattle.std.specs.Prelude.{pos}
use Rattle.dep_row_maps.specs.Owned.{placed, spread}

-- ---- tables whose rowids are numbers

-- the clock and the counters, as the row of `state` has them
abbrev pub state_row : State → StateRow
state_row s = record { clock = s.clock; next = s.next }

-- the state's row in its tree
abbrev pub state_stored : State → Row
state_stored s = stored_state (state_row s)

-- an object's row in its tree
abbrev pub object_stored : ℕ → Object → Row
object_stored n o = stored_object (object_row n o)

-- the object of the row is there, and has this row
abbrev pub HasRow : State → ObjectRow → Type 0
HasRow s row = Some row ≡ option_map (object_row row.object) (map.get s.objects row.object)

-- a file's row in its tree
abbrev pub file_stored : (n f : ℕ) → File → Row
file_stored n f file = stored_file (file_row n f file)

-- an upload's row in its tree
abbrev pub upload_stored : ℕ → Upload → Row
upload_stored u it = stored_upload (columns_of_upload (upload_row u it))

-- a row of this object in `metadata`, or of this upload in `segments`
abbrev pub is_row_of : ℕ → Row → Bool
is_row_of = has_number 1

-- a row of this object in `files`
abbrev pub is_file_of : ℕ → Row → Bool
is_file_of = has_number 2

-- ---- metadata

abbrev pub text_row : (n : ℕ) (name : List ℕ) (place : ℕ) (value : List ℕ) → MetadataRow
text_row n name place value = record { object = n; name = name; place = place; value = value }

abbrev pub text_values : (n : ℕ) (name : List ℕ) (place : ℕ) (value : List ℕ) → Row
text_values n name place value = metadata_values (text_row n name place value)

-- the texts under a name of an object, with their places
abbrev pub text_rows : ℕ → List ℕ → List (List ℕ) → List Row
text_rows n name = placed (text_values n name) 0

abbrev pub metadata_rows : ℕ → Texts → List Row
metadata_rows n = spread (text_rows n)

-- the texts under a name
abbrev pub texts_under : Texts → List ℕ → List (List ℕ)
texts_under m name = unwrap_or (map.get m name) []

-- one more text under a name
abbrev pub with_added_text : Texts → List ℕ × List ℕ → Texts
with_added_text m p = map.insert m p.0 (texts_under m p.0 ++ p.1 ∷ [])

-- each text with its name, name by name
abbrev pub listed : Texts → List (List ℕ × List ℕ)
listed = spread (λ name texts. each (λ t. (name, t)) texts)

-- the map of such a list
abbrev pub grouped : List (List ℕ × List ℕ) → Texts
grouped = fold with_added_text map.empty

-- the name and the value of a row of `metadata` as it is shown
abbrev pub pair_seen : Row → List ℕ × List ℕ
pair_seen row = (bytes (column row 1), bytes (column row 3))

-- the rows of these texts are put in, each at the end of what its name has
abbrev pub put_texts : ℕ → Texts → List (List ℕ × List ℕ) → List Row → List Row
put_texts n m [] rows = rows
put_texts n m (p ∷ ps) rows =
    put_texts n (with_added_text m p) ps (put_next (text_values n p.0 (length (texts_under m p.0)) p.1) rows)

-- ---- segments

-- segment k of upload u, with the number of its bytes
abbrev pub segment_row : (u k size : ℕ) → SegmentRow
segment_row u k size = record { upload = u; number = k; size = size }

abbrev pub segment_rows : ℕ → Numbered (List ℕ) → List Row
segment_rows u = spread (λ k bytes. segment_values (segment_row u k (length bytes)) ∷ [])

-- ---- blocks

-- a list in pieces of this size, the last of which has the rest; at most so many
abbrev pub pieces : {X : Type 0} → (most size : ℕ) → List X → List (List X)
pieces zero size xs = []
pieces (suc most) size [] = []
pieces (suc most) size (x ∷ xs) = take size (x ∷ xs) ∷ pieces most size (drop size (x ∷ xs))

abbrev pub block_size : ℕ
block_size = 65536

-- the blocks of a content: full but the last, and none if it is empty
unfoldable pub blocks_of : List ℕ → List (List ℕ)
blocks_of content = pieces (length content) block_size content

abbrev pub block_key : BlockOwner → (part place : ℕ) → BlockKey
block_key o part place = record { owner = o; at = record { part = part; place = place } }

-- a block as it is shown
abbrev pub block_seen : (part place : ℕ) → List ℕ → Row
block_seen part place bytes = Int (pos part) ∷ Int (pos place) ∷ Blob bytes ∷ []

abbrev pub part_rows : ℕ → List ℕ → List Row
part_rows part content = placed (block_seen part) 0 (blocks_of content)

abbrev pub block_rows : Numbered (List ℕ) → List Row
block_rows = spread part_rows

-- the bytes of a block as it is shown
abbrev pub bytes_seen : Row → List ℕ
bytes_seen row = bytes (column row 2)

-- these blocks are put in, one after another, from this place on
abbrev pub put_blocks : BlockOwner → (part place : ℕ) → List (List ℕ) → List Row → List Row
put_blocks o part place [] rows = rows
put_blocks o part place (b ∷ bs) rows =
    put_blocks o part (place + 1) bs (put_next (block_values (block_key o part place) b) rows)

-- ---- sha512s

-- a value as it is shown, and those of an owner, which has one or none
abbrev pub shown_sha512 : Row → Row
shown_sha512 stored = value_in stored ∷ []

abbrev pub sha512_rows : Option (List ℕ) → List Row
sha512_rows value = each (λ v. Blob v ∷ []) (option_to_list value)

-- ---- what files have

-- the rows of these files are deleted, file by file
abbrev pub without_rows : (BlockOwner → Row → Bool) → List ℕ → List Row → List Row
without_rows is_its [] rows = rows
without_rows is_its (f ∷ files) rows =
    without_rows is_its files (filter (λ r. not (is_its (owner.File f) r)) rows)
