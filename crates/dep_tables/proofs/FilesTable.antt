-- The rows of the files.
use Rattle.std.proofs.Common.{◌≡◌, ℕ, pos, List, [], ◌∷◌, map, filter, if◌then◌else◌, None, Ok, refl}
use Rattle.sqlite_tied.specs.Compute.{everything}
use Rattle.sqlite.specs.Listing.{understood}
use Rattle.sqlite.specs.Rowids.TheVariants.{Chosen}
use Rattle.sqlite.specs.Order.{Row}
use Rattle.sqlite.specs.Term.{Term, lit, col}
use Rattle.sqlite.specs.State.{State, ExecutesInside, Shown}
use Rattle.sqlite.specs.declared.types.Value.TheVariants.{Null, Text, Blob}
use Rattle.sqlite_trees.specs.Tree.{put_row}
use Rattle.sqlite_rules.specs.Edit.{with_rowid}
use Rattle.dep_tables.specs.Query.{equals, reaches, no_limit, passes_tests}
use Rattle.dep_tables.specs.Rowids.{row_at, columns_from}
use Rattle.dep_tables.proofs.Values.{cast_int, cast_null, cast_text_or_null}
use Rattle.dep_tables.proofs.Tests.{holds_number, holds_reaching, passes_two}
use Rattle.dep_tables.proofs.Picked.{by_rowid}
use Rattle.dep_tables.proofs.Written.{Inserts, Deletes, inserts_keyed}
use Rattle.dep_tables.proofs.Selected.{Asks, first_ones, selects_in_order, selects_in_order_page}
use Rattle.dep_types.specs.declared.rows.FileRow.{FileRow}
use Rattle.dep_tables.specs.Schema.{our_schema}
use Rattle.dep_tables.specs.Texts.{insert_file_text, delete_file_text, delete_files_text, find_file_text, files_of_text, files_page_text, sha256s_of_text}
use Rattle.dep_tables.specs.Rows.{stored_file, file_values, file_columns, shown_file}
use Rattle.dep_tables.specs.FileKeys.{file_key_values, is_file_from}
use Rattle.dep_tables.specs.Edits.{page_size, AreFileRowsOf, AreFirstFileRows}
use Rattle.dep_tables.specs.Tables.{tables_of, IsOurs, Leads}
use Rattle.dep_tables.proofs.Leading.{leads, files_at}
use Rattle.dep_tables.proofs.OneTable.{of_number, of_column}
use Rattle.dep_tables.proofs.Answered.{read_each, read_first_each}

insert_is : Inserts our_schema insert_file_text 4 (col 0 0 ∷ lit Null ∷ col 0 1 ∷ col 0 2 ∷ col 0 3 ∷ col 0 4 ∷ col 0 5 ∷ col 0 6 ∷ col 0 7 ∷ col 0 8 ∷ col 0 9 ∷ [])
unfolding understood everything
insert_is = (refl, (refl, refl))

pub inserts_file : (old new : State) (r : FileRow) (count : ℕ) → IsOurs old → ExecutesInside 0 insert_file_text (file_values r) old new (Ok count)
    → Leads old new (record (tables_of old) { files = put_row (stored_file r) (tables_of old).files }) × (row_at (tables_of old).files r.file ≡ None)
inserts_file old new r count ours h =
    let made = inserts_keyed our_schema 4 5 files_at insert_file_text (file_values r) old new ours.schema ours.trees.ordered.1.1.1.1.0 count h _ insert_is r.file (Null ∷ file_columns r)
    (λ i. with_rowid Chosen (old.now.trees 5) (cast_int (pos r.file) i ∷ cast_null i ∷ cast_int (pos r.object) i ∷ Text r.name ∷ Text r.media ∷ cast_int (pos r.size) i ∷ cast_int (pos r.tag) i ∷ cast_int (pos r.deposited) i
    ∷ cast_text_or_null (λ t. t) r.behalf i ∷ cast_int (pos (if r.by_reference then 1 else 0)) i ∷ Blob r.sha256 ∷ []) ∷ []) in
    (leads old new 5 _ ours made.0 _ refl, made.1)

pub delete_is : Deletes our_schema delete_file_text 4 5 of_number
unfolding understood everything
delete_is = (refl, (refl, refl))

pub delete_all_is : Deletes our_schema delete_files_text 4 5 (of_column 2)
unfolding understood everything
delete_all_is = (refl, (refl, refl))

-- ---- reading

abbrev pub values : List Term
values = col 1 0 ∷ col 1 2 ∷ col 1 3 ∷ col 1 4 ∷ col 1 5 ∷ col 1 6 ∷ col 1 7 ∷ col 1 8 ∷ col 1 9 ∷ col 1 10 ∷ []

pub find_is : Asks our_schema find_file_text 5 of_number values [] no_limit
unfolding understood everything
find_is = record { names = _; is = refl; unlisted = refl; plain = (refl, refl) }

abbrev numbers_and_sha256s : List Term
numbers_and_sha256s = col 1 0 ∷ col 1 10 ∷ []

pub sha256s_are : Asks our_schema sha256s_of_text 5 (of_column 2) numbers_and_sha256s by_rowid no_limit
unfolding understood everything
sha256s_are = record { names = _; is = refl; unlisted = refl; plain = (refl, refl) }

-- WHERE object = ?1 AND file >= ?2
abbrev from_number : List Term
from_number = equals (col 1 2) (col 0 0) ∷ reaches (col 1 0) (col 0 1) ∷ []

tests_from : (object from : ℕ) (row : Row) → passes_tests (file_key_values object from) from_number row ≡ is_file_from object from row
tests_from object from row =
    let params = file_key_values object from in
    passes_two params row (equals (col 1 2) (col 0 0)) (reaches (col 1 0) (col 0 1)) _ _ (holds_number params 0 object 2 row refl) (holds_reaching params 1 from 0 row refl)

pub list_is : Asks our_schema files_of_text 5 from_number values by_rowid no_limit
unfolding understood everything
list_is = record { names = _; is = refl; unlisted = refl; plain = (refl, refl) }

pub page_is : Asks our_schema files_page_text 5 from_number values by_rowid (first_ones page_size)
unfolding understood everything
page_is = record { names = _; is = refl; unlisted = refl; plain = (refl, refl) }

pub lists_files : (old new : State) (object from : ℕ) (found : List FileRow) → IsOurs old
    → (rows : List Row) × Shown files_of_text (file_key_values object from) old new rows × (map file_values found ≡ map (columns_from 0 10) rows) → AreFileRowsOf object from (tables_of old) found
lists_files old new object from found ours read =
    read_each file_values 10 shown_file (λ row. refl) (filter (is_file_from object from) (tables_of old).files) read.0 found
    (selects_in_order our_schema files_of_text (file_key_values object from) old ours.schema 5 files_at.own from_number values (is_file_from object from) (tests_from object from) new ours.trees.ordered.1.1.1.1.0 list_is read.0 read.1) read.2

pub pages_files : (old new : State) (object from : ℕ) (found : List FileRow) → IsOurs old
    → (rows : List Row) × Shown files_page_text (file_key_values object from) old new rows × (map file_values found ≡ map (columns_from 0 10) rows) → AreFirstFileRows object from (tables_of old) found
pages_files old new object from found ours read =
    read_first_each file_values 10 shown_file (λ row. refl) page_size (filter (is_file_from object from) (tables_of old).files) read.0 found
    (selects_in_order_page our_schema files_page_text (file_key_values object from) old ours.schema 5 files_at.own from_number values (is_file_from object from) (tests_from object from) page_size new ours.trees.ordered.1.1.1.1.0 page_is read.0 read.1) read.2
