-- The content of a file as the tables have it, whatever state they are.
use Rattle.std.proofs.Common.{◌≡◌, ◌∙◌, ℕ, zero, suc, ◌+◌, ◌<◌, Bool, true, false, List, [], ◌∷◌, length, map, filter, Some, refl, ap, subst, if◌then◌else◌, is_lt, Ordering, Less, Equal, Greater, arith}
use Rattle.std.specs.Prelude.{slice_index_or}
use Rattle.std.specs.List.{flat_map, insert}
use Rattle.std.specs.List.Sorted.{IsPermutation}
use Rattle.std.specs.Cmp.{IsTotalOrder}
use Rattle.std.specs.Ordering.{ordering_reverse}
use Rattle.std.proofs.lemmas.List.Sorted.{IsPermutation-refl, IsPermutation-cons, IsPermutation-insert, IsPermutation-trans}
use Rattle.sqlite_value.specs.Order.{Row}
use Rattle.dep_types.specs.State.{State, File, file_at}
use Rattle.dep_tables.specs.Rows.{shown_block, is_block_of, by_part_and_place}
use Rattle.dep_tables.specs.Tables.{Tables}
use Rattle.dep_tables.specs.declared.owner.BlockOwner.TheVariants as owner
use Rattle.dep_tables.proofs.BlocksTable.{by_place_total}
use Rattle.dep_row_maps.specs.Stored.{bytes_seen}
use Rattle.dep_row_maps.specs.TablesAre.{TablesAre}
use Rattle.dep_row_maps.proofs.Readings.{content_read}
use Rattle.dep_files.proofs.FileCalls.{file_is}

module _ (lt : Row → Row → Bool) where
  -- where a row goes
  place_of : Row → List Row → ℕ
  place_of r [] = 0
  place_of r (x ∷ xs) = if lt x r then suc (place_of r xs) else 0

  put : Row → List Row → List Row
  put r xs = insert xs (place_of r xs) r

  ordered : List Row → List Row
  ordered [] = []
  ordered (x ∷ xs) = put x (ordered xs)

  ordered-same : (xs : List Row) → IsPermutation xs (ordered xs)
  unfolding put ordered
  ordered-same [] = IsPermutation-refl []
  ordered-same (x ∷ xs) = IsPermutation-trans _ _ _ (IsPermutation-cons x _ _ (ordered-same xs)) (IsPermutation-insert (ordered xs) (place_of x (ordered xs)) x)

  -- each row isn't less than the one before it
  Rises : List Row → Type 0
  Rises [] = Unit {0}
  Rises (x ∷ []) = Unit {0}
  Rises (x ∷ y ∷ ys) = (lt y x ≡ false) × Rises (y ∷ ys)

  module _ (apart : (a b : Row) → lt a b ≡ true → lt b a ≡ false) where
    put_rises : (r : Row) (xs : List Row) → Rises xs → Rises (put r xs)
    unfolding put Rises place_of
    put_rises r [] h = tt
    put_rises r (x ∷ []) h = elim (lt x r) as (λ b. lt x r ≡ b → Rises (insert (x ∷ []) (if b then 1 else 0) r)) [
      | true ↦ λ is. (apart x r is, tt)
      | false ↦ λ is. (is, tt)
    ] refl
    put_rises r (x ∷ y ∷ ys) h = elim (lt x r) as (λ b. lt x r ≡ b → Rises (insert (x ∷ y ∷ ys) (if b then suc (place_of r (y ∷ ys)) else 0) r)) [
      | true ↦ λ is. below (apart x r is) (put_rises r (y ∷ ys) h.1)
      | false ↦ λ is. (is, h)
    ] refl
      where
        below : lt r x ≡ false → Rises (insert (y ∷ ys) (place_of r (y ∷ ys)) r) → Rises (x ∷ insert (y ∷ ys) (place_of r (y ∷ ys)) r)
        below first = elim (lt y r) as (λ b. Rises (insert (y ∷ ys) (if b then suc (place_of r ys) else 0) r) → Rises (x ∷ insert (y ∷ ys) (if b then suc (place_of r ys) else 0) r)) [
          | true ↦ λ more. (h.0, more)
          | false ↦ λ more. (first, more)
        ]

    ordered-rises : (xs : List Row) → Rises (ordered xs)
    unfolding Rises ordered
    ordered-rises [] = tt
    ordered-rises (x ∷ xs) = put_rises x (ordered xs) (ordered-rises xs)

  rises_sorted : (xs : List Row) → Rises xs → (k : ℕ) (d : Row) → k + 1 < length xs → lt (slice_index_or xs (k + 1) d) (slice_index_or xs k d) ≡ false
  unfolding Rises
  rises_sorted [] h k d l = absurd (omega (arith, l))
  rises_sorted (x ∷ []) h k d l = absurd (omega (arith, l))
  rises_sorted (x ∷ y ∷ ys) h zero d l = h.0
  rises_sorted (x ∷ y ∷ ys) h (suc k) d l =
      let next : suc (k + 1) ≡ suc k + 1 = omega arith in
      subst (λ n. lt (slice_index_or (x ∷ y ∷ ys) n d) (slice_index_or (y ∷ ys) k d) ≡ false) next (rises_sorted (y ∷ ys) h.1 k d (omega (arith, l)))

apart_by : (cmp : Row → Row → Ordering) → IsTotalOrder cmp → (a b : Row) → is_lt (cmp a b) ≡ true → is_lt (cmp b a) ≡ false
apart_by cmp total a b less = ap is_lt (total.antisymm b a) ∙ turned (cmp a b) less
  where
    turned : (o : Ordering) → is_lt o ≡ true → is_lt (ordering_reverse o) ≡ false
    turned Less e = refl
    turned Equal e = absurd (cc e)
    turned Greater e = absurd (cc e)

earlier : Row → Row → Bool
earlier a b = is_lt (by_part_and_place a b)

-- for each state that these tables are, that is the file's content
pub content_same : (t : Tables) (f : ℕ) → (bytes : List ℕ) × ((s : State) → TablesAre t s → (n : ℕ) (file : File) → file_at s n f ≡ Some file → bytes ≡ file.content)
unfolding earlier
content_same t f =
    let rows = map shown_block (filter (is_block_of (owner.File f)) t.blocks) in (
      flat_map bytes_seen (ordered earlier rows),
      λ s h n file held.
          content_read t s h n f file (file_is s n f ∙ held) (ordered earlier rows) (record {
            same = ordered-same earlier rows;
            sorted = λ k d from to. rises_sorted earlier (ordered earlier rows) (ordered-rises earlier (apart_by by_part_and_place by_place_total) rows) k d to;
          }),
    )
