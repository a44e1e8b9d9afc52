-- The rows of the segments of staged uploads.
use Rattle.std.proofs.Common.{◌≡◌, ℕ, pos, List, [], ◌∷◌, map, filter, false, Ok, codes, refl}
use Rattle.std.specs.List.{list_any}
use Rattle.std.proofs.lemmas.Cmp.{on_total}
use Rattle.sqlite_tied.specs.Compute.{everything}
use Rattle.sqlite.specs.Listing.{understood}
use Rattle.sqlite.specs.Rowids.TheVariants.{Chosen}
use Rattle.sqlite.specs.Order.{Row}
use Rattle.sqlite.specs.Term.{Term, lit, col}
use Rattle.sqlite.specs.State.{State, ExecutesInside, Shown}
use Rattle.sqlite.specs.Order.{column}
use Rattle.sqlite.specs.declared.types.Value.TheVariants.{Null, Int}
use Rattle.sqlite_value.specs.declared.keys.Key.{Key}
use Rattle.sqlite_value.specs.Order.{value_cmp}
use Rattle.sqlite_value.proofs.OrderLemmas.{value_cmp_total, then-Equal}
use Rattle.sqlite_rules.specs.Edit.{with_rowid}
use Rattle.dep_tables.specs.Query.{no_limit, rising}
use Rattle.dep_tables.specs.Rowids.{has_number, put_next, columns_from, InOrder}
use Rattle.dep_tables.proofs.Values.{cast_int, cast_null}
use Rattle.dep_tables.proofs.Tests.{passes_key}
use Rattle.dep_tables.proofs.Unique.{IsKey}
use Rattle.dep_tables.proofs.Written.{IsListed, Inserts, Deletes, inserts_next}
use Rattle.dep_tables.proofs.Selected.{Asks, selects_sorted}
use Rattle.dep_tables.specs.Schema.{our_schema, segments_table}
use Rattle.dep_tables.specs.Texts.{insert_segment_text, delete_segments_text, segments_of_text}
use Rattle.dep_tables.specs.Rows.{segment_values, shown_segment, has_segment_key, by_number}
use Rattle.dep_tables.specs.declared.segments.SegmentRow.{SegmentRow}
use Rattle.dep_tables.specs.Tables.{tables_of, IsOurs, Leads}
use Rattle.dep_tables.proofs.Leading.{leads, listed}
use Rattle.dep_tables.proofs.OneTable.{of_column, two_agree}
use Rattle.dep_tables.proofs.Answered.{read_in_order}

abbrev pub segments_at : IsListed our_schema 6 7
segments_at = listed 6 7 segments_table refl (λ trees. refl)

insert_is : Inserts our_schema insert_segment_text 6 (lit Null ∷ col 0 0 ∷ col 0 1 ∷ col 0 2 ∷ [])
unfolding understood everything
insert_is = (refl, (refl, refl))

key : IsKey our_schema segments_table (1 ∷ 2 ∷ [])
key = record { name = codes "sqlite_autoindex_segments_1"; tree = 8; at = 1; listed = refl; guards_it = refl }

pub inserts_segment : (old new : State) (r : SegmentRow) (count : ℕ) → IsOurs old → ExecutesInside 0 insert_segment_text (segment_values r) old new (Ok count)
    → Leads old new (record (tables_of old) { segments = put_next (segment_values r) (tables_of old).segments }) × (list_any (has_segment_key r) (tables_of old).segments ≡ false)
inserts_segment old new r count ours h =
    let made = inserts_next our_schema 6 7 segments_at insert_segment_text (segment_values r) old new ours.schema ours.trees.ordered.1.1.1.1.1.1.0 count h _ insert_is (segment_values r)
    (λ i. with_rowid Chosen (old.now.trees 7) (cast_null i ∷ cast_int (pos r.upload) i ∷ cast_int (pos r.number) i ∷ cast_int (pos r.size) i ∷ []) ∷ []) (1 ∷ 2 ∷ []) key (has_segment_key r) (two_agree r.upload r.number (Int (pos r.size) ∷ [])) in
    (leads old new 7 _ ours made.0 _ refl, made.1)

pub delete_is : Deletes our_schema delete_segments_text 6 7 (of_column 1)
unfolding understood everything
delete_is = (refl, (refl, refl))

abbrev values : List Term
values = col 1 1 ∷ col 1 2 ∷ col 1 3 ∷ []

abbrev order : List (Term × Key)
order = (col 1 2, rising) ∷ []

pub list_is : Asks our_schema segments_of_text 7 (of_column 1) values order no_limit
unfolding understood everything
list_is = record { names = _; is = refl; unlisted = refl; plain = (refl, refl) }

pub lists_segments : (old new : State) (upload : ℕ) (found : List SegmentRow) → IsOurs old
    → (rows : List Row) × Shown segments_of_text (Int (pos upload) ∷ []) old new rows × (map segment_values found ≡ map (columns_from 0 3) rows)
    → InOrder by_number (map shown_segment (filter (has_number 1 upload) (tables_of old).segments)) (map segment_values found)
lists_segments old new upload found ours read =
    read_in_order segment_values 3 shown_segment (λ row. refl) by_number (filter (has_number 1 upload) (tables_of old).segments) read.0 found
    (selects_sorted our_schema segments_of_text (Int (pos upload) ∷ []) old ours.schema 7 segments_at.own (of_column 1) values (has_number 1 upload) (λ row. passes_key upload 1 row) order by_number
    (on_total (λ r. column r 1) value_cmp_total) (λ a b. then-Equal (value_cmp (column a 2) (column b 2))) new list_is read.0 read.1) read.2
