-- The numbers of the uploads that timed out.
use Rattle.std.proofs.Common.{◌≡◌, ℕ, pos, List, [], ◌∷◌, map, Option, None, is_some, Ok, refl}
use Rattle.std.specs.Option.{option_to_list}
use Rattle.sqlite_tied.specs.Compute.{everything}
use Rattle.sqlite.specs.Listing.{understood}
use Rattle.sqlite.specs.Rowids.TheVariants.{Chosen}
use Rattle.sqlite.specs.Order.{Row}
use Rattle.sqlite.specs.Term.{Term, lit, col}
use Rattle.sqlite.specs.State.{State, ExecutesInside, Shown}
use Rattle.sqlite.specs.declared.types.Value.TheVariants.{Null, Int}
use Rattle.sqlite_trees.specs.Tree.{put_row, rowid}
use Rattle.sqlite_rules.specs.Edit.{with_rowid}
use Rattle.dep_tables.specs.Query.{equals, no_limit}
use Rattle.dep_tables.specs.Rowids.{row_at, columns_from}
use Rattle.dep_tables.proofs.Values.{cast_int, cast_null}
use Rattle.dep_tables.proofs.Tests.{passes_key}
use Rattle.dep_tables.proofs.Written.{IsListed, Inserts, inserts_keyed}
use Rattle.dep_tables.proofs.Selected.{Asks, selects_keyed}
use Rattle.dep_tables.specs.Schema.{our_schema, timed_out_table}
use Rattle.dep_tables.specs.Texts.{insert_timed_out_text, find_timed_out_text}
use Rattle.dep_tables.specs.Rows.{stored_number}
use Rattle.dep_tables.specs.Tables.{tables_of, IsOurs, Leads}
use Rattle.dep_tables.proofs.Leading.{leads, listed}
use Rattle.dep_tables.proofs.Answered.{read_one, same_some}

abbrev pub timed_out_at : IsListed our_schema 7 9
timed_out_at = listed 7 9 timed_out_table refl (λ trees. refl)

insert_is : Inserts our_schema insert_timed_out_text 7 (col 0 0 ∷ lit Null ∷ [])
unfolding understood everything
insert_is = (refl, (refl, refl))

pub inserts_timed_out : (old new : State) (upload count : ℕ) → IsOurs old → ExecutesInside 0 insert_timed_out_text (Int (pos upload) ∷ []) old new (Ok count)
    → Leads old new (record (tables_of old) { timed_out = put_row (stored_number upload) (tables_of old).timed_out }) × (row_at (tables_of old).timed_out upload ≡ None)
inserts_timed_out old new upload count ours h =
    let made = inserts_keyed our_schema 7 9 timed_out_at insert_timed_out_text (Int (pos upload) ∷ []) old new ours.schema ours.trees.ordered.1.1.1.1.1.1.1.0 count h _ insert_is upload (Null ∷ [])
    (λ i. with_rowid Chosen (old.now.trees 9) (cast_int (pos upload) i ∷ cast_null i ∷ []) ∷ []) in
    (leads old new 9 _ ours made.0 _ refl, made.1)

abbrev tests : List Term
tests = equals (col 1 0) (col 0 0) ∷ []

pub find_is : Asks our_schema find_timed_out_text 9 tests (col 1 0 ∷ []) [] no_limit
unfolding understood everything
find_is = record { names = _; is = refl; unlisted = refl; plain = (refl, refl) }

pub finds_timed_out : (old new : State) (upload : ℕ) (found : Option ℕ) → IsOurs old
    → (rows : List Row) × Shown find_timed_out_text (Int (pos upload) ∷ []) old new rows × (map (λ n. Int (pos n) ∷ []) (option_to_list found) ≡ map (columns_from 0 1) rows)
    → is_some found ≡ is_some (row_at (tables_of old).timed_out upload)
finds_timed_out old new upload found ours read =
    same_some (λ n. Int (pos n) ∷ []) (λ row. rowid row ∷ []) found (row_at (tables_of old).timed_out upload)
    (read_one (λ n. Int (pos n) ∷ []) 1 (λ row. rowid row ∷ []) (λ row. refl) found (row_at (tables_of old).timed_out upload) read.0
    (selects_keyed our_schema find_timed_out_text (Int (pos upload) ∷ []) old ours.schema 9 timed_out_at.own tests _ new ours.trees.ordered.1.1.1.1.1.1.1.0 find_is (pos upload) (λ row. passes_key upload 0 row) read.0 read.1) read.2)
