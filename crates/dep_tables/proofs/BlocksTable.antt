-- The bytes of contents, in blocks.
use Rattle.std.proofs.Common.{◌≡◌, ℕ, ℤ, pos, List, [], ◌∷◌, map, filter, true, false, ◌&&◌, if◌then◌else◌, ◌++◌, Option, Ok, codes, Bool, refl, sym, ap, ◌∙◌}
use Rattle.std.specs.Option.{option_to_list}
use Rattle.std.specs.List.{list_any}
use Rattle.std.proofs.lemmas.Bool.{and_parts, and_from}
use Rattle.std.proofs.lemmas.Cmp.{back_total, on_total, then_total}
use Rattle.std.specs.Ordering.{ordering_then}
use Rattle.std.specs.Cmp.{IsTotalOrder}
use Rattle.sqlite_tied.specs.Compute.{everything}
use Rattle.sqlite.specs.Listing.{understood}
use Rattle.sqlite.specs.Rowids.TheVariants.{Chosen}
use Rattle.sqlite.specs.Cast.{cast}
use Rattle.sqlite.specs.Kind.TheVariants.{Integer}
use Rattle.sqlite.specs.Order.{Row, column}
use Rattle.sqlite.specs.Term.{Term, lit, col, holds}
use Rattle.sqlite.specs.State.{State, ExecutesInside, Shown}
use Rattle.sqlite.specs.declared.types.Value.TheVariants.{Null, Int, Blob}
use Rattle.sqlite_value.specs.declared.keys.Key.{Key}
use Rattle.sqlite_value.specs.Keys.{plain, first_key}
use Rattle.sqlite_value.specs.Order.{value_cmp}
use Rattle.sqlite_value.proofs.OrderLemmas.{value_cmp_total, then-Equal}
use Rattle.sqlite_value.specs.declared.keys.Collation.TheVariants.{Binary}
use Rattle.sqlite_sql.specs.Ops.{binary, is_true}
use Rattle.sqlite_sql.specs.declared.ops.BinaryOp.TheVariants.{Compare}
use Rattle.sqlite_sql.specs.declared.ops.CompareOp.TheVariants.{Lt}
use Rattle.sqlite_schema.specs.Rules.{agree}
use Rattle.sqlite_rules.specs.Edit.{with_rowid}
use Rattle.sqlite_rules.specs.Lists.{Has}
use Rattle.dep_tables.specs.Query.{equals, falls_below, no_limit, rising, passes_tests}
use Rattle.dep_tables.specs.Rowids.{put_next, columns_from, is_below_number, IsFirst}
use Rattle.dep_tables.proofs.Values.{cast_int, cast_null}
use Rattle.dep_tables.proofs.Tests.{equals_int, holds_number, passes_below, passes_two, passes_three, passes_four}
use Rattle.dep_tables.proofs.Edits.{key_of, has_its_key}
use Rattle.dep_tables.proofs.Typed.{kept_integer, stored_column}
use Rattle.dep_tables.proofs.Unique.{IsKey}
use Rattle.dep_tables.proofs.RowsLeft.{changed_by}
use Rattle.dep_tables.proofs.Written.{Inserts, Deletes, Updates, inserts_next, updates_where}
use Rattle.dep_tables.proofs.Selected.{Asks, first_only, selects_first}
use Rattle.dep_tables.specs.Schema.{our_schema, blocks_table}
use Rattle.dep_tables.specs.Texts.{insert_block_text, delete_blocks_text, delete_run_text, move_blocks_text, move_run_text, read_block_text, first_block_text, last_block_text}
use Rattle.dep_tables.specs.declared.owner.BlockOwner.{BlockOwner}
use Rattle.dep_tables.specs.declared.owner.BlockKey.{BlockKey}
use Rattle.dep_tables.specs.declared.owner.BlockPlace.{BlockPlace}
use Rattle.dep_tables.specs.Rows.{owner_kind, owner_number, owner_values, part_values, key_values, block_values, move_values, move_run_values, place_values, shown_place, shown_number, is_block, is_block_of, is_part_of, is_earlier_block, moved_to, by_part_and_place, by_falling_place}
use Rattle.dep_tables.specs.Tables.{tables_of, IsOurs, Leads}
use Rattle.dep_tables.proofs.Leading.{leads, blocks_at}
use Rattle.dep_tables.proofs.Answered.{read_first}

insert_is : Inserts our_schema insert_block_text 8 (lit Null ∷ col 0 0 ∷ col 0 1 ∷ col 0 2 ∷ col 0 3 ∷ col 0 4 ∷ [])
unfolding understood everything
insert_is = (refl, (refl, refl))

abbrev places : List ℕ
places = 1 ∷ 2 ∷ 3 ∷ 4 ∷ []

key : IsKey our_schema blocks_table places
key = record { name = codes "sqlite_autoindex_blocks_1"; tree = 11; at = 2; listed = refl; guards_it = refl }

agrees : (k : BlockKey) (bytes : List ℕ) (id : ℤ) (other : Row) → is_block k other ≡ true → agree plain places other places (Int id ∷ block_values k bytes) ≡ true
unfolding first_key
agrees k bytes id other same =
    let parts = and_parts _ _ same in
    let three = and_parts _ _ parts.0 in
    let two = and_parts _ _ three.0 in
    and_from _ _ (equals_int (column other 1) (pos (owner_kind k.owner)) ∙ two.0)
    (and_from _ _ (equals_int (column other 2) (pos (owner_number k.owner)) ∙ two.1)
    (and_from _ _ (equals_int (column other 3) (pos k.at.part) ∙ three.1) (and_from _ _ (equals_int (column other 4) (pos k.at.place) ∙ parts.1) refl)))

pub inserts_block : (old new : State) (k : BlockKey) (bytes : List ℕ) (count : ℕ) → IsOurs old → ExecutesInside 0 insert_block_text (block_values k bytes) old new (Ok count)
    → Leads old new (record (tables_of old) { blocks = put_next (block_values k bytes) (tables_of old).blocks }) × (list_any (is_block k) (tables_of old).blocks ≡ false)
inserts_block old new k bytes count ours h =
    let made = inserts_next our_schema 8 10 blocks_at insert_block_text (block_values k bytes) old new ours.schema ours.trees.ordered.1.1.1.1.1.1.1.1.0 count h _ insert_is (block_values k bytes)
    (λ i. with_rowid Chosen (old.now.trees 10) (cast_null i ∷ cast_int (pos (owner_kind k.owner)) i ∷ cast_int (pos (owner_number k.owner)) i ∷ cast_int (pos k.at.part) i ∷ cast_int (pos k.at.place) i ∷ Blob bytes ∷ []) ∷ [])
    places key (is_block k) (agrees k bytes) in
    (leads old new 10 _ ours made.0 _ refl, made.1)

-- ---- the tests

abbrev pub of_owner : List Term
of_owner = equals (col 1 1) (col 0 0) ∷ equals (col 1 2) (col 0 1) ∷ []

pub tests_owner : (o : BlockOwner) (row : Row) → passes_tests (owner_values o) of_owner row ≡ is_block_of o row
tests_owner o row =
    passes_two (owner_values o) row (equals (col 1 1) (col 0 0)) (equals (col 1 2) (col 0 1)) _ _ (holds_number (owner_values o) 0 (owner_kind o) 1 row refl) (holds_number (owner_values o) 1 (owner_number o) 2 row refl)

pub delete_is : Deletes our_schema delete_blocks_text 8 10 of_owner
unfolding understood everything
delete_is = (refl, (refl, refl))

-- ---- the blocks of a part before a place

abbrev pub earlier : List Term
earlier = equals (col 1 1) (col 0 0) ∷ equals (col 1 2) (col 0 1) ∷ equals (col 1 3) (col 0 2) ∷ falls_below (col 1 4) (col 0 3) ∷ []

and_true : (b : Bool) → (b && true) ≡ b
and_true true = refl
and_true false = refl

-- column < ?, where a number is given
holds_below : (params : Row) (slot n at : ℕ) (row : Row) → column params slot ≡ Int (pos n) → holds (params ∷ row ∷ []) (falls_below (col 1 at) (col 0 slot)) ≡ is_below_number at n row
holds_below params slot n at row is = ap (λ v. is_true (binary (Compare Lt Binary) (column row at) v)) is ∙ sym (and_true _) ∙ passes_below n at row

-- with the parameters of a key, whatever follows them
pub tests_earlier : (k : BlockKey) (more row : Row) → passes_tests (key_values k ++ more) earlier row ≡ is_earlier_block k row
tests_earlier k more row =
    let params = key_values k ++ more in
    passes_four params row (equals (col 1 1) (col 0 0)) (equals (col 1 2) (col 0 1)) (equals (col 1 3) (col 0 2)) (falls_below (col 1 4) (col 0 3)) _ _ _ _ (holds_number params 0 (owner_kind k.owner) 1 row refl) (holds_number params 1 (owner_number k.owner) 2 row refl)
    (holds_number params 2 k.at.part 3 row refl) (holds_below params 3 k.at.place 4 row refl)

pub delete_run_is : Deletes our_schema delete_run_text 8 10 earlier
unfolding understood everything
delete_run_is = (refl, (refl, refl))

-- ---- moves

-- what an UPDATE stores of a block that is there, whose new owner stands in these two of its parameters
moves_row : (s : State) → IsOurs s → (to : BlockOwner) (params : Row) (kind number : ℕ) → column params kind ≡ Int (pos (owner_kind to)) → column params number ≡ Int (pos (owner_number to)) → (r : Row) → Has (s.now.trees 10) r
    → changed_by blocks_table (col 1 0 ∷ col 1 0 ∷ col 0 kind ∷ col 0 number ∷ col 1 3 ∷ col 1 4 ∷ col 1 5 ∷ []) params r ≡ moved_to to r
moves_row s ours to params kind number kind_is number_is r there =
    let keyed = has_its_key (s.now.trees 10) r ours.trees.ordered.1.1.1.1.1.1.1.1.0 there in
    let id : cast Integer (column r 0) ≡ column r 0 = ap (cast Integer) keyed ∙ cast_int (key_of r) ∙ sym keyed in
    let part = kept_integer (column r 3) (stored_column our_schema blocks_table 8 refl refl s.now.trees ours.trees.sound.obeys r there 2 _ _ _ refl) in
    let place = kept_integer (column r 4) (stored_column our_schema blocks_table 8 refl refl s.now.trees ours.trees.sound.obeys r there 3 _ _ _ refl) in
    λ i. id i ∷ (ap (cast Integer) kind_is ∙ cast_int (pos (owner_kind to))) i ∷ (ap (cast Integer) number_is ∙ cast_int (pos (owner_number to))) i ∷ part i ∷ place i ∷ column r 5 ∷ []

tests_moved : (o to : BlockOwner) (row : Row) → passes_tests (move_values o to) of_owner row ≡ is_block_of o row
tests_moved o to row =
    passes_two (move_values o to) row (equals (col 1 1) (col 0 0)) (equals (col 1 2) (col 0 1)) _ _ (holds_number (move_values o to) 0 (owner_kind o) 1 row refl) (holds_number (move_values o to) 1 (owner_number o) 2 row refl)

move_is : Updates our_schema move_blocks_text 8 10 of_owner (col 1 0 ∷ col 0 2 ∷ col 0 3 ∷ col 1 3 ∷ col 1 4 ∷ col 1 5 ∷ [])
unfolding understood everything
move_is = (refl, (refl, refl))

pub moves_blocks : (old new : State) (o to : BlockOwner) (count : ℕ) → IsOurs old → ExecutesInside 0 move_blocks_text (move_values o to) old new (Ok count)
    → Leads old new (record (tables_of old) { blocks = map (λ r. if is_block_of o r then moved_to to r else r) (tables_of old).blocks })
moves_blocks old new o to count ours h =
    leads old new 10 _ ours
    (updates_where our_schema 8 10 blocks_at move_blocks_text (move_values o to) old new ours.schema ours.trees.ordered.1.1.1.1.1.1.1.1.0 count h of_owner _ move_is (is_block_of o) (moved_to to)
    (tests_moved o to) (λ r there passing. (moves_row old ours to (move_values o to) 2 3 refl refl r there, refl))) _ refl

move_run_is : Updates our_schema move_run_text 8 10 earlier (col 1 0 ∷ col 0 4 ∷ col 0 5 ∷ col 1 3 ∷ col 1 4 ∷ col 1 5 ∷ [])
unfolding understood everything
move_run_is = (refl, (refl, refl))

pub moves_run : (old new : State) (k : BlockKey) (to : BlockOwner) (count : ℕ) → IsOurs old → ExecutesInside 0 move_run_text (move_run_values k to) old new (Ok count)
    → Leads old new (record (tables_of old) { blocks = map (λ r. if is_earlier_block k r then moved_to to r else r) (tables_of old).blocks })
moves_run old new k to count ours h =
    leads old new 10 _ ours
    (updates_where our_schema 8 10 blocks_at move_run_text (move_run_values k to) old new ours.schema ours.trees.ordered.1.1.1.1.1.1.1.1.0 count h earlier _ move_run_is (is_earlier_block k) (moved_to to)
    (tests_earlier k (owner_values to)) (λ r there passing. (moves_row old ours to (move_run_values k to) 4 5 refl refl r there, refl))) _ refl

-- ---- reading a block

abbrev pub of_key : List Term
of_key = equals (col 1 1) (col 0 0) ∷ equals (col 1 2) (col 0 1) ∷ equals (col 1 3) (col 0 2) ∷ equals (col 1 4) (col 0 3) ∷ []

pub tests_key : (k : BlockKey) (row : Row) → passes_tests (key_values k) of_key row ≡ is_block k row
tests_key k row =
    let params = key_values k in
    passes_four params row (equals (col 1 1) (col 0 0)) (equals (col 1 2) (col 0 1)) (equals (col 1 3) (col 0 2)) (equals (col 1 4) (col 0 3)) _ _ _ _ (holds_number params 0 (owner_kind k.owner) 1 row refl) (holds_number params 1 (owner_number k.owner) 2 row refl)
    (holds_number params 2 k.at.part 3 row refl) (holds_number params 3 k.at.place 4 row refl)

pub read_is : Asks our_schema read_block_text 10 of_key (col 1 5 ∷ []) [] no_limit
unfolding understood everything
read_is = record { names = _; is = refl; unlisted = refl; plain = (refl, refl) }

-- ---- the first block

abbrev pub order : List (Term × Key)
order = (col 1 3, rising) ∷ (col 1 4, rising) ∷ []

pub by_place_total : IsTotalOrder by_part_and_place
by_place_total = then_total (on_total (λ r. column r 0) value_cmp_total) (on_total (λ r. column r 1) value_cmp_total)

pub first_is : Asks our_schema first_block_text 10 of_owner (col 1 3 ∷ col 1 4 ∷ []) order first_only
unfolding understood everything
first_is = record { names = _; is = refl; unlisted = refl; plain = (refl, refl) }

pub firsts_block : (old new : State) (o : BlockOwner) (found : Option BlockPlace) → IsOurs old
    → (rows : List Row) × Shown first_block_text (owner_values o) old new rows × (map place_values (option_to_list found) ≡ map (columns_from 0 2) rows)
    → IsFirst by_part_and_place (map shown_place (filter (is_block_of o) (tables_of old).blocks)) (map place_values (option_to_list found))
firsts_block old new o found ours read =
    read_first place_values 2 shown_place (λ row. refl) by_part_and_place (filter (is_block_of o) (tables_of old).blocks) read.0 (option_to_list found)
    (selects_first our_schema first_block_text (owner_values o) old ours.schema 10 blocks_at.own of_owner _ (is_block_of o) (tests_owner o) order by_part_and_place by_place_total
    (λ a b. ap (ordering_then (value_cmp (column a 3) (column b 3))) (then-Equal (value_cmp (column a 4) (column b 4)))) new first_is read.0 read.1) read.2

-- ---- the last block of a part

abbrev of_part : List Term
of_part = equals (col 1 1) (col 0 0) ∷ equals (col 1 2) (col 0 1) ∷ equals (col 1 3) (col 0 2) ∷ []

tests_part : (o : BlockOwner) (part : ℕ) (row : Row) → passes_tests (part_values o part) of_part row ≡ is_part_of o part row
tests_part o part row =
    let params = part_values o part in
    passes_three params row (equals (col 1 1) (col 0 0)) (equals (col 1 2) (col 0 1)) (equals (col 1 3) (col 0 2)) _ _ _ (holds_number params 0 (owner_kind o) 1 row refl) (holds_number params 1 (owner_number o) 2 row refl)
    (holds_number params 2 part 3 row refl)

abbrev falling : List (Term × Key)
falling = (col 1 4, record { collation = Binary; descending = true }) ∷ []

pub falling_total : IsTotalOrder by_falling_place
falling_total = back_total (on_total (λ r. column r 0) value_cmp_total)

pub last_is : Asks our_schema last_block_text 10 of_part (col 1 4 ∷ []) falling first_only
unfolding understood everything
last_is = record { names = _; is = refl; unlisted = refl; plain = (refl, refl) }

pub lasts_block : (old new : State) (o : BlockOwner) (part : ℕ) (found : Option ℕ) → IsOurs old
    → (rows : List Row) × Shown last_block_text (part_values o part) old new rows × (map (λ n. Int (pos n) ∷ []) (option_to_list found) ≡ map (columns_from 0 1) rows)
    → IsFirst by_falling_place (map (shown_number 4) (filter (is_part_of o part) (tables_of old).blocks)) (map (λ n. Int (pos n) ∷ []) (option_to_list found))
lasts_block old new o part found ours read =
    read_first (λ n. Int (pos n) ∷ []) 1 (shown_number 4) (λ row. refl) by_falling_place (filter (is_part_of o part) (tables_of old).blocks) read.0 (option_to_list found)
    (selects_first our_schema last_block_text (part_values o part) old ours.schema 10 blocks_at.own of_part _ (is_part_of o part) (tests_part o part) falling by_falling_place falling_total
    (λ a b. then-Equal (value_cmp (column b 4) (column a 4))) new last_is read.0 read.1) read.2
