-- The rows of the objects' metadata.
use Rattle.std.proofs.Common.{◌≡◌, ℕ, ℤ, pos, List, [], ◌∷◌, map, filter, true, false, Ok, codes, Bool, Option, Equal, refl, ap, ◌∙◌}
use Rattle.std.specs.Option.{option_to_list}
use Rattle.std.specs.List.{list_any}
use Rattle.std.proofs.lemmas.Bool.{and_parts, and_from}
use Rattle.std.proofs.lemmas.Cmp.{back_total, on_total, then_total}
use Rattle.std.specs.Ordering.{ordering_then}
use Rattle.std.specs.Cmp.{IsTotalOrder}
use Rattle.sqlite_tied.specs.Compute.{everything}
use Rattle.sqlite.specs.Listing.{understood}
use Rattle.sqlite.specs.Rowids.TheVariants.{Chosen}
use Rattle.sqlite.specs.Order.{Row}
use Rattle.sqlite.specs.Term.{Term, lit, col}
use Rattle.sqlite.specs.State.{State, ExecutesInside, Shown}
use Rattle.sqlite.specs.Order.{column}
use Rattle.sqlite.specs.declared.types.Value.TheVariants.{Null, Int, Text}
use Rattle.sqlite_value.specs.declared.keys.Collation.TheVariants.{Binary}
use Rattle.sqlite_value.specs.declared.keys.Key.{Key}
use Rattle.sqlite_value.specs.Keys.{plain, first_key}
use Rattle.sqlite_value.specs.Order.{value_cmp}
use Rattle.sqlite_value.proofs.OrderLemmas.{value_cmp_total, then-Equal}
use Rattle.sqlite_schema.specs.Rules.{agree}
use Rattle.sqlite_rules.specs.Edit.{with_rowid}
use Rattle.dep_tables.specs.Query.{equals, reaches, no_limit, rising, passes_tests}
use Rattle.dep_tables.specs.Rowids.{has_number, put_next, columns_from, InOrder, IsFirst}
use Rattle.dep_tables.proofs.Values.{cast_int, cast_null}
use Rattle.dep_tables.proofs.Tests.{equals_int, equals_text, holds_number, holds_text, holds_reaching, holds_reaching_text, passes_key, passes_two, passes_three}
use Rattle.dep_tables.proofs.Unique.{IsKey}
use Rattle.dep_tables.proofs.Written.{IsListed, Inserts, Deletes, inserts_next}
use Rattle.dep_tables.proofs.Selected.{Asks, first_ones, first_only, selects_first, selects_page, selects_sorted}
use Rattle.dep_tables.specs.Schema.{our_schema, metadata_table}
use Rattle.dep_tables.specs.Texts.{insert_metadata_text, delete_metadata_text, metadata_of_text, last_text_text, texts_from_text, texts_from_name_text}
use Rattle.dep_tables.specs.Rows.{metadata_values, name_values, text_key_values, shown_metadata, shown_number, is_text_of, is_text_from, is_text_from_name, has_metadata_key, by_name_and_place, by_falling_place}
use Rattle.dep_tables.specs.declared.metadata.MetadataRow.{MetadataRow}
use Rattle.dep_tables.specs.Edits.{page_size, AreFirstTexts}
use Rattle.dep_tables.specs.Tables.{tables_of, IsOurs, Leads}
use Rattle.dep_tables.proofs.Leading.{leads, listed}
use Rattle.dep_tables.proofs.OneTable.{of_column}
use Rattle.dep_tables.proofs.Answered.{read_first, read_page, read_in_order}

abbrev pub metadata_at : IsListed our_schema 3 3
metadata_at = listed 3 3 metadata_table refl (λ trees. refl)

insert_is : Inserts our_schema insert_metadata_text 3 (lit Null ∷ col 0 0 ∷ col 0 1 ∷ col 0 2 ∷ col 0 3 ∷ [])
unfolding understood everything
insert_is = (refl, (refl, refl))

abbrev places : List ℕ
places = 1 ∷ 2 ∷ 3 ∷ []

key : IsKey our_schema metadata_table places
key = record { name = codes "sqlite_autoindex_metadata_1"; tree = 4; at = 0; listed = refl; guards_it = refl }

agrees : (r : MetadataRow) (id : ℤ) (other : Row) → has_metadata_key r other ≡ true → agree plain places other places (Int id ∷ metadata_values r) ≡ true
unfolding first_key
agrees r id other same =
    let parts = and_parts _ _ same in
    let more = and_parts _ _ parts.0 in
    and_from _ _ (equals_int (column other 1) (pos r.object) ∙ more.0)
    (and_from _ _ (equals_text (column other 2) r.name ∙ more.1) (and_from _ _ (equals_int (column other 3) (pos r.place) ∙ parts.1) refl))

pub inserts_metadata : (old new : State) (r : MetadataRow) (count : ℕ) → IsOurs old → ExecutesInside 0 insert_metadata_text (metadata_values r) old new (Ok count)
    → Leads old new (record (tables_of old) { metadata = put_next (metadata_values r) (tables_of old).metadata }) × (list_any (has_metadata_key r) (tables_of old).metadata ≡ false)
inserts_metadata old new r count ours h =
    let made = inserts_next our_schema 3 3 metadata_at insert_metadata_text (metadata_values r) old new ours.schema ours.trees.ordered.1.1.1.0 count h _ insert_is (metadata_values r)
    (λ i. with_rowid Chosen (old.now.trees 3) (cast_null i ∷ cast_int (pos r.object) i ∷ Text r.name ∷ cast_int (pos r.place) i ∷ Text r.value ∷ []) ∷ []) places key (has_metadata_key r) (agrees r) in
    (leads old new 3 _ ours made.0 _ refl, made.1)

pub delete_is : Deletes our_schema delete_metadata_text 3 3 (of_column 1)
unfolding understood everything
delete_is = (refl, (refl, refl))

abbrev values : List Term
values = col 1 1 ∷ col 1 2 ∷ col 1 3 ∷ col 1 4 ∷ []

abbrev order : List (Term × Key)
order = (col 1 2, rising) ∷ (col 1 3, rising) ∷ []

by_name_total : IsTotalOrder by_name_and_place
by_name_total = then_total (on_total (λ r. column r 1) value_cmp_total) (on_total (λ r. column r 2) value_cmp_total)

same_order : (a b : Row) → ordering_then (value_cmp (column a 2) (column b 2)) (ordering_then (value_cmp (column a 3) (column b 3)) Equal) ≡ ordering_then (value_cmp (column a 2) (column b 2)) (value_cmp (column a 3) (column b 3))
same_order a b = ap (ordering_then (value_cmp (column a 2) (column b 2))) (then-Equal (value_cmp (column a 3) (column b 3)))

pub list_is : Asks our_schema metadata_of_text 3 (of_column 1) values order no_limit
unfolding understood everything
list_is = record { names = _; is = refl; unlisted = refl; plain = (refl, refl) }

pub lists_metadata : (old new : State) (object : ℕ) (found : List MetadataRow) → IsOurs old
    → (rows : List Row) × Shown metadata_of_text (Int (pos object) ∷ []) old new rows × (map metadata_values found ≡ map (columns_from 0 4) rows)
    → InOrder by_name_and_place (map shown_metadata (filter (has_number 1 object) (tables_of old).metadata)) (map metadata_values found)
lists_metadata old new object found ours read =
    read_in_order metadata_values 4 shown_metadata (λ row. refl) by_name_and_place (filter (has_number 1 object) (tables_of old).metadata) read.0 found
    (selects_sorted our_schema metadata_of_text (Int (pos object) ∷ []) old ours.schema 3 metadata_at.own (of_column 1) values (has_number 1 object) (λ row. passes_key object 1 row) order by_name_and_place
    by_name_total same_order new list_is read.0 read.1) read.2

-- ---- the last text of a name

abbrev pub of_name : List Term
of_name = equals (col 1 1) (col 0 0) ∷ equals (col 1 2) (col 0 1) ∷ []

pub tests_name : (object : ℕ) (name : List ℕ) (row : Row) → passes_tests (name_values object name) of_name row ≡ is_text_of object name row
tests_name object name row =
    let params = name_values object name in
    passes_two params row (equals (col 1 1) (col 0 0)) (equals (col 1 2) (col 0 1)) _ _ (holds_number params 0 object 1 row refl) (holds_text params 1 name 2 row refl)

abbrev falling : List (Term × Key)
falling = (col 1 3, record { collation = Binary; descending = true }) ∷ []

pub last_is : Asks our_schema last_text_text 3 of_name (col 1 3 ∷ []) falling first_only
unfolding understood everything
last_is = record { names = _; is = refl; unlisted = refl; plain = (refl, refl) }

pub lasts_text : (old new : State) (object : ℕ) (name : List ℕ) (found : Option ℕ) → IsOurs old
    → (rows : List Row) × Shown last_text_text (name_values object name) old new rows × (map (λ n. Int (pos n) ∷ []) (option_to_list found) ≡ map (columns_from 0 1) rows)
    → IsFirst by_falling_place (map (shown_number 3) (filter (is_text_of object name) (tables_of old).metadata)) (map (λ n. Int (pos n) ∷ []) (option_to_list found))
lasts_text old new object name found ours read =
    read_first (λ n. Int (pos n) ∷ []) 1 (shown_number 3) (λ row. refl) by_falling_place (filter (is_text_of object name) (tables_of old).metadata) read.0 (option_to_list found)
    (selects_first our_schema last_text_text (name_values object name) old ours.schema 3 metadata_at.own of_name _ (is_text_of object name) (tests_name object name) falling by_falling_place
    (back_total (on_total (λ r. column r 0) value_cmp_total)) (λ a b. then-Equal (value_cmp (column b 3) (column a 3))) new last_is read.0 read.1) read.2

-- ---- pages

abbrev from_place : List Term
from_place = equals (col 1 1) (col 0 0) ∷ equals (col 1 2) (col 0 1) ∷ reaches (col 1 3) (col 0 2) ∷ []

pub tests_from : (object : ℕ) (name : List ℕ) (place : ℕ) (row : Row) → passes_tests (text_key_values object name place) from_place row ≡ is_text_from object name place row
tests_from object name place row =
    let params = text_key_values object name place in
    passes_three params row (equals (col 1 1) (col 0 0)) (equals (col 1 2) (col 0 1)) (reaches (col 1 3) (col 0 2)) _ _ _ (holds_number params 0 object 1 row refl) (holds_text params 1 name 2 row refl) (holds_reaching params 2 place 3 row refl)

abbrev from_name : List Term
from_name = equals (col 1 1) (col 0 0) ∷ reaches (col 1 2) (col 0 1) ∷ []

pub tests_from_name : (object : ℕ) (name : List ℕ) (row : Row) → passes_tests (name_values object name) from_name row ≡ is_text_from_name object name row
tests_from_name object name row =
    let params = name_values object name in
    passes_two params row (equals (col 1 1) (col 0 0)) (reaches (col 1 2) (col 0 1)) _ _ (holds_number params 0 object 1 row refl) (holds_reaching_text params 1 name 2 row refl)

pub from_is : Asks our_schema texts_from_text 3 from_place values order (first_ones page_size)
unfolding understood everything
from_is = record { names = _; is = refl; unlisted = refl; plain = (refl, refl) }

pub from_name_is : Asks our_schema texts_from_name_text 3 from_name values order (first_ones page_size)
unfolding understood everything
from_name_is = record { names = _; is = refl; unlisted = refl; plain = (refl, refl) }

pub pages_texts : (old new : State) (sql : List ℕ) (params : Row) (tests : List Term) → Asks our_schema sql 3 tests values order (first_ones page_size) → (p : Row → Bool) → ((row : Row) → passes_tests params tests row ≡ p row) → (found : List MetadataRow) → IsOurs old
    → (rows : List Row) × Shown sql params old new rows × (map metadata_values found ≡ map (columns_from 0 4) rows) → AreFirstTexts p (tables_of old) found
pages_texts old new sql params tests is p test found ours read =
    read_page metadata_values 4 shown_metadata (λ row. refl) page_size by_name_and_place (filter p (tables_of old).metadata) read.0 found
    (selects_page our_schema sql params old ours.schema 3 metadata_at.own tests values p test order by_name_and_place by_name_total same_order page_size new is read.0 read.1) read.2
