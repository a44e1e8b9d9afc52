-- The rows of the objects.
use Rattle.std.proofs.Common.{◌≡◌, ℕ, pos, List, [], ◌∷◌, if◌then◌else◌, None, Ok, refl, ap, ◌∙◌}
use Rattle.sqlite_tied.specs.Compute.{everything}
use Rattle.sqlite.specs.Listing.{understood}
use Rattle.sqlite.specs.Cast.{cast}
use Rattle.sqlite.specs.Kind.TheVariants.{Integer}
use Rattle.sqlite.specs.Rowids.TheVariants.{Chosen}
use Rattle.sqlite.specs.declared.types.Value.TheVariants.{Null}
use Rattle.sqlite.specs.Term.{Term, lit, col}
use Rattle.sqlite.specs.State.{State, ExecutesInside}
use Rattle.sqlite_trees.specs.Tree.{put_row}
use Rattle.sqlite_rules.specs.Edit.{with_rowid}
use Rattle.dep_tables.specs.Query.{exceeds, no_limit}
use Rattle.dep_tables.specs.Rowids.{row_at, replaced}
use Rattle.dep_tables.proofs.Values.{cast_int, cast_null}
use Rattle.dep_tables.proofs.Tests.{passes_given}
use Rattle.dep_tables.proofs.Picked.{by_rowid}
use Rattle.dep_tables.proofs.Written.{IsListed, Inserts, Updates, Deletes, inserts_keyed, updates_keyed}
use Rattle.dep_tables.proofs.Selected.{Asks, first_only}
use Rattle.dep_tables.specs.Schema.{our_schema, objects_table}
use Rattle.dep_tables.specs.Texts.{insert_object_text, write_object_text, delete_object_text, find_object_text, next_object_text}
use Rattle.dep_types.specs.declared.rows.ObjectRow.{ObjectRow}
use Rattle.dep_tables.specs.Rows.{stored_object, object_values, object_columns}
use Rattle.dep_tables.specs.Tables.{tables_of, IsOurs, Leads}
use Rattle.dep_tables.proofs.Leading.{leads, listed}
use Rattle.dep_tables.proofs.OneTable.{of_number}

abbrev pub objects_at : IsListed our_schema 2 2
objects_at = listed 2 2 objects_table refl (λ trees. refl)

insert_is : Inserts our_schema insert_object_text 2 (col 0 0 ∷ lit Null ∷ col 0 1 ∷ col 0 2 ∷ col 0 3 ∷ col 0 4 ∷ col 0 5 ∷ [])
unfolding understood everything
insert_is = (refl, (refl, refl))

pub inserts_object : (old new : State) (r : ObjectRow) (count : ℕ) → IsOurs old → ExecutesInside 0 insert_object_text (object_values r) old new (Ok count)
    → Leads old new (record (tables_of old) { objects = put_row (stored_object r) (tables_of old).objects }) × (row_at (tables_of old).objects r.object ≡ None)
inserts_object old new r count ours h =
    let made = inserts_keyed our_schema 2 2 objects_at insert_object_text (object_values r) old new ours.schema ours.trees.ordered.1.1.0 count h _ insert_is r.object (Null ∷ object_columns r)
    (λ i. with_rowid Chosen (old.now.trees 2) (cast_int (pos r.object) i ∷ cast_null i ∷ cast_int (pos (if r.ingested then 1 else 0)) i ∷ cast_int (pos r.object_tag) i ∷ cast_int (pos r.metadata_tag) i
    ∷ cast_int (pos r.files_tag) i ∷ cast_int (pos r.changed) i ∷ []) ∷ []) in
    (leads old new 2 _ ours made.0 _ refl, made.1)

write_is : Updates our_schema write_object_text 2 2 of_number (col 1 0 ∷ lit Null ∷ col 0 1 ∷ col 0 2 ∷ col 0 3 ∷ col 0 4 ∷ col 0 5 ∷ [])
unfolding understood everything
write_is = (refl, (refl, refl))

pub writes_object : (old new : State) (r : ObjectRow) (count : ℕ) → IsOurs old → ExecutesInside 0 write_object_text (object_values r) old new (Ok count)
    → Leads old new (record (tables_of old) { objects = replaced (stored_object r) (tables_of old).objects })
writes_object old new r count ours h =
    leads old new 2 _ ours
    (updates_keyed our_schema 2 2 objects_at write_object_text (object_values r) old new ours.schema ours.trees.ordered.1.1.0 count h of_number _ write_is (pos r.object) (Null ∷ object_columns r)
    (λ row. passes_given (object_values r) (pos r.object) 0 row refl)
    (λ was keyed. λ i. (ap (cast Integer) keyed ∙ cast_int (pos r.object)) i ∷ cast_null i ∷ cast_int (pos (if r.ingested then 1 else 0)) i ∷ cast_int (pos r.object_tag) i ∷ cast_int (pos r.metadata_tag) i
    ∷ cast_int (pos r.files_tag) i ∷ cast_int (pos r.changed) i ∷ [])) _ refl

pub delete_is : Deletes our_schema delete_object_text 2 2 of_number
unfolding understood everything
delete_is = (refl, (refl, refl))

abbrev pub values : List Term
values = col 1 0 ∷ col 1 2 ∷ col 1 3 ∷ col 1 4 ∷ col 1 5 ∷ col 1 6 ∷ []

pub find_is : Asks our_schema find_object_text 2 of_number values [] no_limit
unfolding understood everything
find_is = record { names = _; is = refl; unlisted = refl; plain = (refl, refl) }

pub next_is : Asks our_schema next_object_text 2 (exceeds (col 1 0) (col 0 0) ∷ []) (col 1 0 ∷ []) by_rowid first_only
unfolding understood everything
next_is = record { names = _; is = refl; unlisted = refl; plain = (refl, refl) }
