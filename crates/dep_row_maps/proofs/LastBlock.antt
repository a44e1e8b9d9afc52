-- The place of the last block of a part.
use Rattle.std.proofs.Common.{◌≡◌, ◌⊎◌, inl, inr, ℕ, zero, suc, pos, ◌+◌, ◌<◌, ◌≤◌, Bool, true, false, List, [], ◌∷◌, length, get_or, map, take, filter, append-nil, unwrap_or, Option, Some, None, Ordering, refl, sym, ap, subst, ◌∙◌, is_lt, arith}
use Rattle.std.specs.Option.{option_map_or, option_to_list}
use Rattle.std.specs.Cmp.{IsTotalOrder}
use Rattle.std.specs.List.Sorted.{IsPermutation, IsSorted}
use Rattle.std.specs.FinMap as finmap
use Rattle.std.proofs.lemmas.Bool.{cases_lt}
use Rattle.std.proofs.lemmas.Cmp.{nat_cmp_total}
use Rattle.std.proofs.lemmas.List.Sorted.{IsPermutation-map, IsPermutation-refl, IsPermutation-sym, IsPermutation-trans, ranks_by, sorted_far}
use Rattle.sqlite.specs.declared.types.Value.TheVariants.{Int}
use Rattle.sqlite_value.specs.Order.{Row, column, value_cmp}
use Rattle.sqlite_rules.specs.Lists.{Has}
use Rattle.sqlite_trees.proofs.ListLemmas.{IsPermutation-filter}
use Rattle.dep_types.specs.Maps.{Numbered}
use Rattle.dep_tables.specs.Rowids.{has_number, IsFirst}
use Rattle.dep_tables.proofs.Members.{permuted_from}
use Rattle.dep_tables.specs.Rows.{by_falling_place, is_block_of, is_part_of, shown_block, shown_number}
use Rattle.dep_tables.specs.declared.owner.BlockOwner.{BlockOwner}
use Rattle.dep_tables.proofs.BlocksTable.{falling_total}
use Rattle.dep_row_maps.specs.Owned.{owned, placed}
use Rattle.dep_row_maps.specs.Stored.{block_rows, block_seen, blocks_of, part_rows}
use Rattle.dep_row_maps.specs.TablesAre.{BlocksAre, Parts}
use Rattle.dep_row_maps.proofs.Blocks.{number_below}
use Rattle.dep_row_maps.proofs.Contents.{one_part}
use Rattle.dep_row_maps.proofs.Left.{none_taken}
use Rattle.dep_row_maps.proofs.Lens.{get_here}
use Rattle.dep_row_maps.proofs.Spreads.{spread-insert}

-- ---- a part that need not be there

pub no_blocks : blocks_of [] ≡ []
unfolding blocks_of
no_blocks = refl

-- a part without bytes has no rows
pub empty_part : (m : Numbered (List ℕ)) (part : ℕ) → finmap.get m part ≡ None → IsPermutation (block_rows m) (block_rows (finmap.insert m part []))
unfolding blocks_of
empty_part m part none =
    subst (λ rows. IsPermutation rows (block_rows (finmap.insert m part []))) (append-nil (block_rows m))
    (spread-insert nat_cmp_total finmap.nat_cmp-IsAntisymmetric part_rows m part [] [] (rw none (IsPermutation-refl [])))

-- ---- the places of a part

abbrev pub place_row : ℕ → List ℕ → Row
place_row i block = Int (pos i) ∷ []

-- those of an owner's blocks that are of the part
places_picked : (o : BlockOwner) (part : ℕ) (rows : List Row) → map (shown_number 4) (filter (is_part_of o part) rows) ≡ map (shown_number 1) (filter (has_number 0 part) (map shown_block (filter (is_block_of o) rows)))
places_picked o part [] = refl
places_picked o part (r ∷ rows) = go (is_block_of o r) refl (has_number 3 part r) refl (places_picked o part rows)
  where
    go : (a : Bool) → is_block_of o r ≡ a → (b : Bool) → has_number 3 part r ≡ b
        → map (shown_number 4) (filter (is_part_of o part) rows) ≡ map (shown_number 1) (filter (has_number 0 part) (map shown_block (filter (is_block_of o) rows)))
        → map (shown_number 4) (filter (is_part_of o part) (r ∷ rows)) ≡ map (shown_number 1) (filter (has_number 0 part) (map shown_block (filter (is_block_of o) (r ∷ rows))))
    go false is b of_part more = simp is more
    go true is false of_part more = simp (is, of_part) more
    go true is true of_part more = simp (is, of_part) (ap (λ vs. (column r 4 ∷ []) ∷ vs) more)

places_seen : (part k : ℕ) (bs : List (List ℕ)) → map (shown_number 1) (placed (block_seen part) k bs) ≡ placed place_row k bs
places_seen part k [] = refl
places_seen part k (b ∷ bs) = ap (λ rs. (Int (pos k) ∷ []) ∷ rs) (places_seen part (k + 1) bs)

module _ (rows : List Row) (parts : Parts) (are : BlocksAre rows parts) (o : BlockOwner) (part : ℕ) where
  -- the owner's blocks, were the part there with no bytes
  with_part : (x : Option (List ℕ)) → finmap.get (parts o) part ≡ x → (m : Numbered (List ℕ)) × IsPermutation (owned shown_block (is_block_of o) rows) (block_rows m) × (finmap.get m part ≡ Some (unwrap_or x []))
  with_part (Some content) there = (parts o, are.of_each o, there)
  with_part None none = (finmap.insert (parts o) part [], IsPermutation-trans _ _ _ (are.of_each o) (empty_part (parts o) part none), get_here (parts o) part [])

  places_are : IsPermutation (map (shown_number 4) (filter (is_part_of o part) rows)) (placed place_row 0 (blocks_of (unwrap_or (finmap.get (parts o) part) [])))
  places_are =
      let content = unwrap_or (finmap.get (parts o) part) [] in
      let its = with_part (finmap.get (parts o) part) refl in
      let shown = owned shown_block (is_block_of o) rows in
      let of_part : IsPermutation (filter (has_number 0 part) shown) (part_rows part content) =
      IsPermutation-trans _ _ _ (IsPermutation-filter (has_number 0 part) _ _ its.1) (one_part its.0 part content its.2) in
      subst (λ rs. IsPermutation rs (placed place_row 0 (blocks_of content))) (sym (places_picked o part rows))
      (subst (IsPermutation (map (shown_number 1) (filter (has_number 0 part) shown))) (places_seen part 0 (blocks_of content)) (IsPermutation-map (shown_number 1) _ _ of_part))

-- ---- the greatest of them

from_placed : (k : ℕ) (bs : List (List ℕ)) (row : Row) → Has (placed place_row k bs) row → (i : ℕ) × (i < length bs) × (row ≡ place_row (k + i) [])
from_placed k [] row there = absurd there
from_placed k (b ∷ bs) row (inl same) = let here : k ≡ k + 0 = omega arith in (0, omega arith, same ∙ ap (λ n. place_row n []) here)
from_placed k (b ∷ bs) row (inr later) =
    let from = from_placed (k + 1) bs row later in
    let next : k + 1 + from.0 ≡ k + suc from.0 = omega arith in
    (suc from.0, omega (arith, from.1), from.2 ∙ ap (λ n. place_row n []) next)

has_placed : (k i : ℕ) (bs : List (List ℕ)) → i < length bs → Has (placed place_row k bs) (place_row (k + i) [])
has_placed k i [] within = absurd (omega (arith, within))
has_placed k zero (b ∷ bs) within = let here : k + zero ≡ k = omega arith in inl (ap (λ n. place_row n []) here)
has_placed k (suc i) (b ∷ bs) within =
    let next : k + 1 + i ≡ k + suc i = omega arith in
    inr (subst (λ n. Has (placed place_row (k + 1) bs) (place_row n [])) next (has_placed (k + 1) i bs (omega (arith, within))))

index_of : {X : Type 0} (xs : List X) (x : X) → Has xs x → (i : ℕ) × (i < length xs) × ((d : X) → get_or xs i d ≡ x)
index_of [] x there = absurd there
index_of (y ∷ xs) x (inl same) = (0, omega arith, λ d. sym same)
index_of (y ∷ xs) x (inr later) = let at = index_of xs x later in (suc at.0, omega (arith, at.1), at.2)

-- none comes before the first
first_least : (cmp : Row → Row → Ordering) → IsTotalOrder cmp → (first : Row) (rest : List Row) (row : Row) → IsSorted cmp (first ∷ rest) → Has (first ∷ rest) row → is_lt (cmp row first) ≡ false
first_least cmp total first rest row sorted there =
    let at = index_of (first ∷ rest) row there in
    subst (λ x. is_lt (cmp x first) ≡ false) (at.2 first) (sorted_far (λ x y. is_lt (cmp x y)) (ranks_by total (λ x. x)) (first ∷ rest) sorted 0 at.0 first (omega arith) at.1)

module _ (bs : List (List ℕ)) (rows : List Row) (same : IsPermutation rows (placed place_row 0 bs)) where
  none_left : (cs : List (List ℕ)) → ((row : Row) → Has (placed place_row 0 cs) row → ⊥) → length cs ≡ 0
  none_left [] none = refl
  none_left (c ∷ cs) none = absurd (none (place_row 0 c) (inl refl))

  behind : (all : List Row) (found : Option ℕ) → IsPermutation rows all → IsSorted by_falling_place all → map (λ n. Int (pos n) ∷ []) (option_to_list found) ≡ take 1 all → length bs ≡ option_map_or (λ n. n + 1) found 0
  behind all None order sorted is =
      let empty = none_taken all is in
      none_left bs (λ row there. subst (λ xs. Has xs row) empty (permuted_from all (placed place_row 0 bs) row (IsPermutation-trans _ _ _ (IsPermutation-sym _ _ order) same) there))
  behind [] (Some n) order sorted is = absurd (cc is)
  behind (first ∷ rest) (Some n) order sorted is =
      let here : first ≡ place_row n [] = cc is in
      let to : IsPermutation (placed place_row 0 bs) (first ∷ rest) = IsPermutation-trans _ _ _ (IsPermutation-sym _ _ same) order in
      let from = from_placed 0 bs first (permuted_from (placed place_row 0 bs) (first ∷ rest) first to (inl refl)) in
      let number : n ≡ 0 + from.0 = one_number n (0 + from.0) (sym here ∙ from.2) in
      go (cases_lt (n + 1) (length bs)) (omega (arith, number, from.1)) (λ next.
      first_least by_falling_place falling_total first rest (place_row (0 + (n + 1)) []) sorted
      (permuted_from (first ∷ rest) (placed place_row 0 bs) (place_row (0 + (n + 1)) []) (IsPermutation-sym _ _ to) (has_placed 0 (n + 1) bs next))) here
    where
      one_number : (i j : ℕ) → place_row i [] ≡ place_row j [] → i ≡ j
      one_number i j e = cc e

      go : ((n + 1) < length bs) ⊎ (length bs ≤ (n + 1)) → n < length bs → ((n + 1) < length bs → is_lt (by_falling_place (place_row (0 + (n + 1)) []) first) ≡ false) → first ≡ place_row n [] → length bs ≡ n + 1
      go (inr most) within later here = omega (arith, most, within)
      go (inl next) within later here =
          let less : is_lt (by_falling_place (place_row (0 + (n + 1)) []) first) ≡ true = ap (λ (r : Row). is_lt (value_cmp (column r 0) (Int (pos (0 + (n + 1)))))) here ∙ ap is_lt (number_below n (0 + (n + 1)) (omega arith)) in
          absurd (let both = sym less ∙ later next in cc both)

  pub last_found : (found : Option ℕ) → IsFirst by_falling_place rows (map (λ n. Int (pos n) ∷ []) (option_to_list found)) → length bs ≡ option_map_or (λ n. n + 1) found 0
  last_found found (all, order, is) = behind all found order.same order.sorted is

-- how many blocks a part has, by the last of which the place was found
pub part_ends : (rows : List Row) (parts : Parts) → BlocksAre rows parts → (o : BlockOwner) (part : ℕ) (found : Option ℕ)
    → IsFirst by_falling_place (map (shown_number 4) (filter (is_part_of o part) rows)) (map (λ n. Int (pos n) ∷ []) (option_to_list found))
    → length (blocks_of (unwrap_or (finmap.get (parts o) part) [])) ≡ option_map_or (λ n. n + 1) found 0
part_ends rows parts are o part found first =
    last_found (blocks_of (unwrap_or (finmap.get (parts o) part) [])) (map (shown_number 4) (filter (is_part_of o part) rows)) (places_are rows parts are o part) found first
