-- Queries over the tables of any version.
use Rattle.std.proofs.Common.{◌≡◌, inl, inr, ℕ, pos, List, [], ◌∷◌, map, filter, find, Option, refl, sym, ap, subst}
use Rattle.std.specs.Option.{option_to_list}
use Rattle.std.specs.Ordering.{ordering_then}
use Rattle.sqlite_tied.specs.Compute.{everything}
use Rattle.sqlite.specs.Order.{Row, column}
use Rattle.sqlite.specs.Schema.{Schema}
use Rattle.sqlite.specs.Term.{col}
use Rattle.sqlite.specs.Listing.{understood}
use Rattle.sqlite.specs.State.{State, Shown}
use Rattle.sqlite.specs.declared.types.Value.TheVariants.{Int}
use Rattle.sqlite.proofs.Callers.{IsPlain}
use Rattle.sqlite_trees.specs.Tree.{rowid}
use Rattle.sqlite_value.specs.Order.{value_cmp}
use Rattle.sqlite_value.proofs.OrderLemmas.{then-Equal}
use Rattle.dep_tables.specs.Query.{no_limit, exceeds}
use Rattle.dep_tables.specs.Rowids.{InOrder, IsOrdered, columns_from, is_after}
use Rattle.dep_tables.proofs.Picked.{by_rowid}
use Rattle.dep_tables.proofs.Tests.{passes_after}
use Rattle.dep_tables.proofs.Selected.{Asks, first_only, selects_sorted, selects_next}
use Rattle.dep_tables.specs.Schema.{our_schema, older_schema}
use Rattle.dep_tables.specs.Texts.{blocks_of_text}
use Rattle.dep_tables.specs.declared.owner.BlockOwner.{BlockOwner}
use Rattle.dep_tables.specs.Rows.{owner_values, shown_block, is_block_of, by_part_and_place}
use Rattle.dep_tables.specs.Tables.{tables_of, HasTablesOf, IsKnownSchema, IsKnown}
use Rattle.dep_tables.proofs.Answered.{read_one, one_value}
use Rattle.dep_tables.proofs.BlocksTable.{of_owner, tests_owner, order, by_place_total}
use Rattle.dep_schema.specs.Sha512s.{next_file_text, IsFileAfter}
use Rattle.dep_schema.proofs.OrderedBlocks.{values, owner_is}

-- what holds of the schema of each version holds of one that is known
of_known : (P : Schema → Type 0) → P our_schema → P older_schema → (its : Schema) → IsKnownSchema its → P its
of_known P ours older its (inl is) = subst P (sym is) ours
of_known P ours older its (inr is) = subst P (sym is) older

-- ---- the blocks of an owner

abbrev AsksBlocks : Schema → Type 0
AsksBlocks its = Asks its blocks_of_text 10 of_owner values order no_limit

older_blocks : AsksBlocks older_schema
unfolding understood everything
older_blocks = record { names = _; is = refl; unlisted = refl; plain = (refl, refl) }

blocks_in : (its : Schema) → IsKnownSchema its → AsksBlocks its
blocks_in = of_known AsksBlocks owner_is older_blocks

pub blocks_plain : (s : State) → IsKnown s → IsPlain (understood s.now.schema blocks_of_text)
blocks_plain s (its, known, ours) = subst (λ schema. IsPlain (understood schema blocks_of_text)) (sym ours.schema) (blocks_in its known).plain

pub blocks_in_order : (old : State) (o : BlockOwner) → IsKnown old → (rows : List Row) → Shown blocks_of_text (owner_values o) old old rows
    → InOrder by_part_and_place (map shown_block (filter (is_block_of o) (tables_of old).blocks)) rows
blocks_in_order old o (its, known, ours) rows shown =
    selects_sorted its blocks_of_text (owner_values o) old ours.schema 10 (λ trees. refl) of_owner values (is_block_of o) (tests_owner o) order by_part_and_place by_place_total
    (λ a b. ap (ordering_then (value_cmp (column a 3) (column b 3))) (then-Equal (value_cmp (column a 4) (column b 4)))) old (blocks_in its known) rows shown

-- ---- the next file

abbrev AsksFile : Schema → Type 0
AsksFile its = Asks its next_file_text 5 (exceeds (col 1 0) (col 0 0) ∷ []) (col 1 0 ∷ []) by_rowid first_only

our_files : AsksFile our_schema
unfolding understood everything
our_files = record { names = _; is = refl; unlisted = refl; plain = (refl, refl) }

older_files : AsksFile older_schema
unfolding understood everything
older_files = record { names = _; is = refl; unlisted = refl; plain = (refl, refl) }

files_in : (its : Schema) → IsKnownSchema its → AsksFile its
files_in = of_known AsksFile our_files older_files

pub known_files_ordered : (s : State) → IsKnown s → IsOrdered (tables_of s).files
known_files_ordered s (its, inl is, ours) = (subst (λ schema. HasTablesOf schema s.now) is ours).trees.ordered.1.1.1.1.0
known_files_ordered s (its, inr is, ours) = (subst (λ schema. HasTablesOf schema s.now) is ours).trees.ordered.1.1.1.1.0

pub nexts_file : (old new : State) (after : ℕ) (found : Option ℕ) (rows : List Row) → IsKnown old → Shown next_file_text (Int (pos after) ∷ []) old new rows
    → map (λ n. Int (pos n) ∷ []) (option_to_list found) ≡ map (columns_from 0 1) rows
    → IsFileAfter (tables_of old) after found
nexts_file old new after found rows known shown read =
    one_value (λ n. Int (pos n)) rowid found (find (is_after after) (tables_of old).files)
    (read_one (λ n. Int (pos n) ∷ []) 1 (λ row. rowid row ∷ []) (λ row. refl) found (find (is_after after) (tables_of old).files) rows
    (selects_next known.0 next_file_text (Int (pos after) ∷ []) old known.2.schema 5 (λ trees. refl) _ _ (is_after after) (λ row. passes_after after row) new (known_files_ordered old known) (files_in known.0 known.1) rows shown) read)
