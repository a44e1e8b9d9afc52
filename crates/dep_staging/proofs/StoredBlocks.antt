-- One block of a segment, which need not be there.
use Rattle.std.proofs.Common.{◌≡◌, ◌≢◌, ◌⊎◌, inl, inr, ℕ, zero, suc, ◌<◌, ◌≤◌, ◌^◌, Result, Ok, Err, OnOk, List, [], ◌∷◌, length, get_or, map, filter, unwrap_or, Option, Some, None, refl, sym, ap, subst, ◌∙◌, arith}
use Rattle.std.specs.Prelude.{option_map, slice_get}
use Rattle.std.specs.Option.{option_to_list}
use Rattle.std.specs.List.Sorted.{IsPermutation}
use Rattle.std.specs.FinMap as finmap
use Rattle.std.proofs.lemmas.List.Sorted.{IsPermutation-trans}
use Rattle.sqlite.specs.declared.types.Value.TheVariants.{Blob}
use Rattle.sqlite_value.specs.Order.{Row}
use Rattle.std.proofs.lemmas.Bool.{cases_lt}
use Rattle.dep_types.specs.declared.store_fault.StoreFault.{StoreFault}
use Rattle.dep_types.specs.declared.store_fault.StoreFault.TheVariants.{Store}
use Rattle.dep_types.specs.Maps.{Numbered}
use Rattle.dep_types.specs.State.{State}
use Rattle.dep_tables.specs.Rows.{bytes_in, is_block, is_block_of, shown_block}
use Rattle.dep_tables.specs.Tables.{Tables}
use Rattle.dep_tables.specs.declared.owner.BlockOwner.{BlockOwner}
use Rattle.dep_tables.specs.declared.owner.BlockOwner.TheVariants as owner
use Rattle.dep_row_maps.specs.Owned.{owned}
use Rattle.dep_row_maps.specs.Stored.{block_key, block_rows, blocks_of}
use Rattle.dep_row_maps.specs.TablesAre.{TablesAre, BlocksAre, Parts, segments_at}
use Rattle.dep_row_maps.proofs.Blocks.{same_owner}
use Rattle.dep_row_maps.proofs.LastBlock.{empty_part, no_blocks}
use Rattle.dep_row_maps.proofs.Lens.{get_here}
use Rattle.dep_row_maps.proofs.Owners.{with_at}
use Rattle.dep_row_maps.proofs.Picked.{block_at}
use Rattle.dep_staging.specs.Comparing.{stored_bytes}
use Rattle.dep_staging.specs.FileBlocks.{part_of}

-- ---- a part that need not be there

module _ (rows : List Row) (parts : Parts) (are : BlocksAre rows parts) (o : BlockOwner) (part place : ℕ) where
  -- a part that isn't there has no block, as an empty one would have none
  none_there : finmap.get (parts o) part ≡ None → map bytes_in (filter (is_block (block_key o part place)) rows) ≡ []
  none_there none =
      let now = with_at same_owner parts o (finmap.insert (parts o) part []) in
      let still : BlocksAre rows now.0 = record { of_each = λ q. go now.0 now.1 now.2 q (same_owner q o); owners = are.owners } in
      block_at rows now.0 still o part [] (ap (λ (m : Numbered (List ℕ)). finmap.get m part) now.1 ∙ get_here (parts o) part []) place
      ∙ ap (λ bs. option_to_list (option_map Blob (slice_get bs place))) no_blocks
    where
      go : (now : Parts) → now o ≡ finmap.insert (parts o) part [] → ((q : BlockOwner) → q ≢ o → now q ≡ parts q) → (q : BlockOwner) → (q ≡ o) ⊎ (q ≢ o)
          → IsPermutation (owned shown_block (is_block_of q) rows) (block_rows (now q))
      go now new others q (inl is) = subst (λ x. IsPermutation (owned shown_block (is_block_of x) rows) (block_rows (now x))) (sym is)
          (rw new (IsPermutation-trans _ _ _ (are.of_each o) (empty_part (parts o) part none)))
      go now new others q (inr apart) = rw (others q apart) (are.of_each q)

  part_at : (x : Option (List ℕ)) → finmap.get (parts o) part ≡ x
      → map bytes_in (filter (is_block (block_key o part place)) rows) ≡ option_to_list (option_map Blob (slice_get (blocks_of (unwrap_or x [])) place))
  part_at (Some content) there = block_at rows parts are o part content there place
  part_at None none = none_there none ∙ sym (ap (λ bs. option_to_list (option_map Blob (slice_get bs place))) no_blocks)

same_found : {X : Type 0} (items : X → List ℕ) (a : Option X) (b : Option (List ℕ)) → option_to_list (option_map Blob b) ≡ option_to_list (option_map (λ x. Blob (items x)) a) → option_map items a ≡ b
same_found items None None e = refl
same_found items (Some x) (Some y) e = let same : items x ≡ y = cc e in ap Some same
same_found items None (Some y) e = absurd (cc e)
same_found items (Some x) None e = absurd (cc e)

-- what is read of a segment at a place
pub stored_at : {X : Type 0} (items : X → List ℕ) (t : Tables) (s : State) (u k place : ℕ) (found : Option X) → TablesAre t s
    → map bytes_in (filter (is_block (block_key (owner.Upload u) k place)) t.blocks) ≡ option_to_list (option_map (λ x. Blob (items x)) found)
    → option_map items found ≡ slice_get (blocks_of (stored_bytes s u k)) place
stored_at items t s u k place found h read =
    same_found items found (slice_get (blocks_of (stored_bytes s u k)) place)
    (sym (part_at t.blocks h.common.parts h.common.blocks (owner.Upload u) k place (finmap.get (segments_at s.uploads u) k) (ap (λ (m : Numbered (List ℕ)). finmap.get m k) (h.common.uploads_parts u))) ∙ read)

-- what is read of a part of a file at a place
pub file_at_place : {X : Type 0} (items : X → List ℕ) (t : Tables) (s : State) (f part place : ℕ) (found : Option X) (h : TablesAre t s)
    → map bytes_in (filter (is_block (block_key (owner.File f) part place)) t.blocks) ≡ option_to_list (option_map (λ x. Blob (items x)) found)
    → option_map items found ≡ slice_get (blocks_of (part_of h f part)) place
file_at_place items t s f part place found h read =
    same_found items found (slice_get (blocks_of (part_of h f part)) place)
    (sym (part_at t.blocks h.common.parts h.common.blocks (owner.File f) part place (finmap.get (h.common.parts (owner.File f)) part) refl) ∙ read)

-- ---- an element of a list

-- an element that is there is within
pub within_by : {X : Type 0} (xs : List X) (i : ℕ) (x : X) → slice_get xs i ≡ Some x → i < length xs
within_by [] i x e = absurd (cc e)
within_by (y ∷ xs) zero x e = omega arith
within_by (y ∷ xs) (suc i) x e = let more = within_by xs i x e in omega (arith, more)

pub past_by : {X : Type 0} (xs : List X) (i : ℕ) → slice_get xs i ≡ None → length xs ≤ i
past_by [] i e = omega arith
past_by (y ∷ xs) zero e = absurd (cc e)
past_by (y ∷ xs) (suc i) e = let more = past_by xs i e in omega (arith, more)

pub got_by : {X : Type 0} (xs : List X) (i : ℕ) (x none : X) → slice_get xs i ≡ Some x → get_or xs i none ≡ x
got_by [] i x none e = absurd (cc e)
got_by (y ∷ xs) zero x none e = let same : y ≡ x = cc e in same
got_by (y ∷ xs) (suc i) x none e = got_by xs i x none e

pub there_by : {X : Type 0} (xs : List X) (i : ℕ) (none : X) → i < length xs → slice_get xs i ≡ Some (get_or xs i none)
there_by [] i none h = absurd (omega (arith, h))
there_by (y ∷ xs) zero none h = refl
there_by (y ∷ xs) (suc i) none h = there_by xs i none (omega (arith, h))

-- a query that was answered had a number that a table can hold
pub asked_below : {X P Key : Type 0} (n : ℕ) (r : Result X StoreFault) → (Key → n < 2 ^ 63) → ((Key → ⊥) → (r ≡ Err Store) × P) → OnOk r (n < 2 ^ 63)
asked_below n (Err e) below refuses = tt
asked_below n (Ok x) below refuses = go (cases_lt n (2 ^ 63))
  where
    go : (n < 2 ^ 63) ⊎ (2 ^ 63 ≤ n) → n < 2 ^ 63
    go (inl few) = few
    go (inr above) = let failed = (refuses (λ key. let it = below key in omega (arith, it, above))).0 in absurd (cc)
