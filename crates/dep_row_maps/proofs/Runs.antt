-- Runs of an owner's blocks that go one after another, where the rest goes as a whole.
use Rattle.std.proofs.Common.{◌≡◌, ◌≢◌, inl, inr, Bool, true, false, not, List, [], ◌∷◌, map, filter, None, refl, sym, ap, ap₂, subst, ◌∙◌}
use Rattle.std.specs.Prelude.{if◌then◌else◌}
use Rattle.std.proofs.lemmas.Bool.{and_parts, cases_Bool}
use Rattle.std.proofs.lemmas.List.Sorted.{IsPermutation-sym}
use Rattle.std.specs.List.Sorted.{IsPermutation}
use Rattle.sqlite_value.specs.Order.{Row}
use Rattle.dep_tables.specs.Edits.{with_blocks_moved, with_run_moved, without_blocks_of, without_run, IsFirstBlock}
use Rattle.dep_tables.specs.Rows.{is_block_of, is_earlier_block, moved_to, shown_place}
use Rattle.dep_tables.specs.Tables.{Tables}
use Rattle.dep_tables.specs.declared.owner.BlockOwner.{BlockOwner}
use Rattle.dep_tables.specs.declared.owner.BlockKey.{BlockKey}
use Rattle.dep_row_maps.proofs.Blocks.{one_owner, is_owner}
use Rattle.dep_row_maps.proofs.Left.{none_taken}
use Rattle.dep_row_maps.proofs.Owners.{filter_of_left, none_permutation}

-- a block of a run is its owner's
of_owner : (k : BlockKey) (r : Row) → is_earlier_block k r ≡ true → is_block_of k.owner r ≡ true
of_owner k r is = let part = and_parts _ _ is in (and_parts _ _ part.0).0

-- ---- moves

-- a block that was given away is its new owner's
given_away : (o to : BlockOwner) → o ≢ to → (r : Row) → is_block_of o (moved_to to r) ≡ false
given_away o to apart r =
    elim (cases_Bool (is_block_of o (moved_to to r))) [ inl so ↦ absurd (apart (one_owner o to (moved_to to r) so (is_owner to (moved_to to r) refl refl))) | inr not_so ↦ not_so ]

module _ (k : BlockKey) (to : BlockOwner) (apart : k.owner ≢ to) where
  abbrev moved : Bool → Row → Row
  moved b r = if b then moved_to to r else r

  one_moved : (r : Row) (b : Bool) → is_earlier_block k r ≡ b → moved (is_block_of k.owner (moved (is_earlier_block k r) r)) (moved (is_earlier_block k r) r) ≡ moved (is_block_of k.owner r) r
  one_moved r true is =
      ap (λ b. moved (is_block_of k.owner (moved b r)) (moved b r)) is ∙ ap (λ b. moved b (moved_to to r)) (given_away k.owner to apart r) ∙ sym (ap (λ b. moved b r) (of_owner k r is))
  one_moved r false is = ap (λ b. moved (is_block_of k.owner (moved b r)) (moved b r)) is

  rows_moved : (rows : List Row) → map (λ r. moved (is_block_of k.owner r) r) (map (λ r. moved (is_earlier_block k r) r) rows) ≡ map (λ r. moved (is_block_of k.owner r) r) rows
  rows_moved [] = refl
  rows_moved (r ∷ rows) = ap₂ ◌∷◌ (one_moved r (is_earlier_block k r) refl) (rows_moved rows)

  -- where a run was moved, the move of all makes what it made before
  pub moved_rest : (t : Tables) → with_blocks_moved k.owner to (with_run_moved k to t) ≡ with_blocks_moved k.owner to t
  moved_rest t = ap (λ rows. record t { blocks = rows }) (rows_moved t.blocks)

-- ---- deletions

-- the same of a run that was deleted
pub deleted_rest : (k : BlockKey) (t : Tables) → without_blocks_of k.owner (without_run k t) ≡ without_blocks_of k.owner t
deleted_rest k t = ap (λ rows. record t { blocks = rows }) (filter_of_left (λ r. not (is_block_of k.owner r)) (is_earlier_block k) t.blocks apart)
  where
    apart : (r : Row) → not (is_block_of k.owner r) ≡ true → is_earlier_block k r ≡ true → ⊥
    apart r other is = let own = of_owner k r is in let never : false ≡ true = rw own at other in cc

-- ---- where none is left

no_rows : (rows : List Row) → map shown_place rows ≡ [] → rows ≡ []
no_rows [] is = refl
no_rows (r ∷ rows) is = absurd (cc)

none_left : (o : BlockOwner) (t : Tables) → IsFirstBlock o t None → filter (is_block_of o) t.blocks ≡ []
none_left o t first =
    let shown = map shown_place (filter (is_block_of o) t.blocks) in
    let empty : first.0 ≡ [] = none_taken first.0 first.2 in
    let same = subst (λ (rows : List Row). IsPermutation rows shown) empty (IsPermutation-sym shown first.0 first.1.same) in
    no_rows (filter (is_block_of o) t.blocks) (none_permutation same)

rows_stay : (o to : BlockOwner) (rows : List Row) → filter (is_block_of o) rows ≡ [] → map (λ r. if is_block_of o r then moved_to to r else r) rows ≡ rows
rows_stay o to [] none = refl
rows_stay o to (r ∷ rows) none = go (is_block_of o r) refl none (rows_stay o to rows)
  where
    go : (b : Bool) → is_block_of o r ≡ b → filter (is_block_of o) (r ∷ rows) ≡ [] → (filter (is_block_of o) rows ≡ [] → map (λ q. if is_block_of o q then moved_to to q else q) rows ≡ rows)
        → map (λ q. if is_block_of o q then moved_to to q else q) (r ∷ rows) ≡ r ∷ rows
    go true is none more = absurd (let some : r ∷ filter (is_block_of o) rows ≡ [] = rw is at none in cc)
    go false is none more = rw is (ap (λ rest. r ∷ rest) (more (rw is at none)))

rows_kept : (o : BlockOwner) (rows : List Row) → filter (is_block_of o) rows ≡ [] → filter (λ r. not (is_block_of o r)) rows ≡ rows
rows_kept o [] none = refl
rows_kept o (r ∷ rows) none = go (is_block_of o r) refl none (rows_kept o rows)
  where
    go : (b : Bool) → is_block_of o r ≡ b → filter (is_block_of o) (r ∷ rows) ≡ [] → (filter (is_block_of o) rows ≡ [] → filter (λ q. not (is_block_of o q)) rows ≡ rows) → filter (λ q. not (is_block_of o q)) (r ∷ rows) ≡ r ∷ rows
    go true is none more = absurd (let some : r ∷ filter (is_block_of o) rows ≡ [] = rw is at none in cc)
    go false is none more = rw is (ap (λ rest. r ∷ rest) (more (rw is at none)))

-- an owner of whom no block is found has none to move, and none to delete
pub moved_none : (o to : BlockOwner) (t : Tables) → IsFirstBlock o t None → with_blocks_moved o to t ≡ t
moved_none o to t first = ap (λ rows. record t { blocks = rows }) (rows_stay o to t.blocks (none_left o t first))

pub deleted_none : (o : BlockOwner) (t : Tables) → IsFirstBlock o t None → without_blocks_of o t ≡ t
deleted_none o t first = ap (λ rows. record t { blocks = rows }) (rows_kept o t.blocks (none_left o t first))
