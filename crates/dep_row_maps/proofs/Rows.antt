-- Rows in the order of their rowids against the entries of a map.
use Rattle.std.proofs.Common.{◌≡◌, ℕ, pos, true, false, cond, not, List, [], ◌∷◌, refl, sym, ap, ◌∙◌, nat_cmp, int_cmp, Ordering, Less, Equal, Greater, is_eq, arith}
use Rattle.std.proofs.lemmas.Bool.Decides.{nat_tests}
use Rattle.std.specs.Prelude.{map as each}
use Rattle.std.specs.Ordering.{ordering_reverse, match_ordering, eq_by_cmp}
use Rattle.std.specs.Cmp.{nat_cmp_total}
use Rattle.std.specs.FinMap as map
use Rattle.std.specs.FinMap.Entries.{by_order, where_key}
use Rattle.dep_types.specs.Maps.{Numbered}
use Rattle.sqlite_trees.specs.Tree.{put_row, without_rowid, rowid, has_rowid}
use Rattle.sqlite_value.specs.Order.{Row, value_cmp}
use Rattle.sqlite_value.specs.declared.value.Value.TheVariants.{Int}
use Rattle.sqlite_value.proofs.OrderLemmas.{value_cmp-Int}
use Rattle.dep_types.proofs.Kept.{entries-kept, remove-kept}
use Rattle.std.specs.Ordering.{is_gt}
use Rattle.std.specs.Prelude.{find, option_map, nat_lt, Some}
use Rattle.dep_tables.specs.Rowids.{IsOrdered, row_at, is_after, replaced}
use Rattle.dep_tables.proofs.Looking.{replaced_is_put}
use Rattle.dep_row_maps.specs.Keyed.{Keyed, rows_of, next_entry}

reversed : (a b : ℕ) → nat_cmp a b ≡ ordering_reverse (nat_cmp b a)
reversed a b = nat_cmp_total.antisymm a b

as_numbers : (a b : ℕ) → int_cmp (pos a) (pos b) ≡ nat_cmp a b
as_numbers a b = grind (arith, nat_tests)

above : (a b : ℕ) → is_gt (int_cmp (pos a) (pos b)) ≡ nat_lt b a
above a b = grind (arith, nat_tests)

module _ {X : Type 0} (row : ℕ → X → Row) (keyed : Keyed row) where
  compared : (a : ℕ) (x : X) (b : ℕ) (y : X) → value_cmp (rowid (row a x)) (rowid (row b y)) ≡ nat_cmp a b
  compared a x b y = rw (keyed a x, keyed b y) (value_cmp-Int (pos a) (pos b) ∙ as_numbers a b)

  pub put_rows : (k : ℕ) (x : X) (es : List (ℕ × X)) → put_row (row k x) (each (λ e. row e.0 e.1) es) ≡ each (λ e. row e.0 e.1) (map.put nat_cmp k x es)
  put_rows k x [] = refl
  put_rows k x (e ∷ es) =
      let seen : value_cmp (rowid (row e.0 e.1)) (rowid (row k x)) ≡ ordering_reverse (nat_cmp k e.0) = compared e.0 e.1 k x ∙ reversed e.0 k in
      ap (λ o. match_ordering o (row e.0 e.1 ∷ put_row (row k x) (each (λ e. row e.0 e.1) es)) (row k x ∷ each (λ e. row e.0 e.1) es) (row k x ∷ row e.0 e.1 ∷ each (λ e. row e.0 e.1) es)) seen
      ∙ elim (nat_cmp k e.0) as (λ r. nat_cmp k e.0 ≡ r → match_ordering (ordering_reverse r) (row e.0 e.1 ∷ put_row (row k x) (each (λ e. row e.0 e.1) es)) (row k x ∷ each (λ e. row e.0 e.1) es) (row k x ∷ row e.0 e.1 ∷ each (λ e. row e.0 e.1) es)
      ≡ each (λ e. row e.0 e.1) (by_order r ((k, x) ∷ e ∷ es) ((e.0, x) ∷ es) (e ∷ map.put nat_cmp k x es))) [
        | Less ↦ λ r. refl
        | Equal ↦ λ r. ap (λ n. row n x ∷ each (λ e. row e.0 e.1) es) (map.nat_cmp-IsAntisymmetric k e.0 r)
        | Greater ↦ λ r. ap (λ rs. row e.0 e.1 ∷ rs) (put_rows k x es)
      ] refl

  pub put_insert : (k : ℕ) (x : X) (m : Numbered X) → put_row (row k x) (rows_of row m) ≡ rows_of row (map.insert m k x)
  put_insert k x m = put_rows k x (map.entries m) ∙ ap (each (λ e. row e.0 e.1)) (sym (map.entries-insert nat_cmp_total m k x))

  same_key : (k : ℕ) (e : ℕ × X) → has_rowid (pos k) (row e.0 e.1) ≡ eq_by_cmp nat_cmp k e.0
  same_key k e = ap (λ v. is_eq (value_cmp v (Int (pos k)))) (keyed e.0 e.1) ∙ ap is_eq (value_cmp-Int (pos e.0) (pos k) ∙ as_numbers e.0 k ∙ reversed e.0 k) ∙ either (nat_cmp k e.0)
    where
      either : (r : Ordering) → is_eq (ordering_reverse r) ≡ is_eq r
      either Less = refl
      either Equal = refl
      either Greater = refl

  pub without_rows : (k : ℕ) (es : List (ℕ × X)) → without_rowid (pos k) (each (λ e. row e.0 e.1) es) ≡ each (λ e. row e.0 e.1) (where_key nat_cmp (λ x. not (eq_by_cmp nat_cmp k x)) es)
  without_rows k [] = refl
  without_rows k (e ∷ es) =
      ap (λ b. cond (not b) (row e.0 e.1 ∷ without_rowid (pos k) (each (λ e. row e.0 e.1) es)) (without_rowid (pos k) (each (λ e. row e.0 e.1) es))) (same_key k e)
      ∙ elim (eq_by_cmp nat_cmp k e.0) as (λ b. cond (not b) (row e.0 e.1 ∷ without_rowid (pos k) (each (λ e. row e.0 e.1) es)) (without_rowid (pos k) (each (λ e. row e.0 e.1) es))
      ≡ each (λ e. row e.0 e.1) (cond (not b) (e ∷ where_key nat_cmp (λ x. not (eq_by_cmp nat_cmp k x)) es) (where_key nat_cmp (λ x. not (eq_by_cmp nat_cmp k x)) es))) [
        | true ↦ without_rows k es
        | false ↦ ap (λ rs. row e.0 e.1 ∷ rs) (without_rows k es)
      ]

  pub without_remove : (k : ℕ) (m : Numbered X) → without_rowid (pos k) (rows_of row m) ≡ rows_of row (map.remove m k)
  without_remove k m = without_rows k (map.entries m) ∙ ap (each (λ e. row e.0 e.1)) (sym (ap map.entries (remove-kept m k) ∙ entries-kept m (λ x. not (eq_by_cmp nat_cmp k x))))

  found_rows : (k : ℕ) (es : List (ℕ × X)) → find (has_rowid (pos k)) (each (λ e. row e.0 e.1) es) ≡ option_map (row k) (map.find nat_cmp k es)
  found_rows k [] = refl
  found_rows k (e ∷ es) = ap (λ b. cond b (Some (row e.0 e.1)) (find (has_rowid (pos k)) (each (λ e. row e.0 e.1) es))) (same_key k e) ∙ go (nat_cmp k e.0) refl (found_rows k es)
    where
      go : (o : Ordering) → nat_cmp k e.0 ≡ o → find (has_rowid (pos k)) (each (λ e. row e.0 e.1) es) ≡ option_map (row k) (map.find nat_cmp k es)
          → cond (is_eq (nat_cmp k e.0)) (Some (row e.0 e.1)) (find (has_rowid (pos k)) (each (λ e. row e.0 e.1) es)) ≡ option_map (row k) (cond (is_eq (nat_cmp k e.0)) (Some e.1) (map.find nat_cmp k es))
      go Less is more = rw is more
      go Equal is more = rw is (ap (λ n. Some (row n e.1)) (sym (map.nat_cmp-IsAntisymmetric k e.0 is)))
      go Greater is more = rw is more

  -- the row that has a rowid is that of the number's entry
  pub found_row_of : (k : ℕ) (m : Numbered X) → row_at (rows_of row m) k ≡ option_map (row k) (map.get m k)
  found_row_of k m = found_rows k (map.entries m) ∙ ap (option_map (row k)) (sym (map.get-entries m k))

  later_key : (k : ℕ) (e : ℕ × X) → is_after k (row e.0 e.1) ≡ nat_lt k e.0
  later_key k e = ap (λ v. is_gt (value_cmp v (Int (pos k)))) (keyed e.0 e.1) ∙ ap is_gt (value_cmp-Int (pos e.0) (pos k)) ∙ above e.0 k

  next_rows : (k : ℕ) (es : List (ℕ × X)) → find (is_after k) (each (λ e. row e.0 e.1) es) ≡ option_map (λ e. row e.0 e.1) (find (λ e. nat_lt k e.0) es)
  next_rows k [] = refl
  next_rows k (e ∷ es) = ap (λ b. cond b (Some (row e.0 e.1)) (find (is_after k) (each (λ e. row e.0 e.1) es))) (later_key k e)
      ∙ elim (nat_lt k e.0) as (λ b. cond b (Some (row e.0 e.1)) (find (is_after k) (each (λ e. row e.0 e.1) es)) ≡ option_map (λ e. row e.0 e.1) (cond b (Some e) (find (λ e. nat_lt k e.0) es))) [ true ↦ refl | false ↦ next_rows k es ]

  pub next_row_of : (k : ℕ) (m : Numbered X) → find (is_after k) (rows_of row m) ≡ option_map (λ e. row e.0 e.1) (next_entry m k)
  next_row_of k m = next_rows k (map.entries m)

  -- a row is written over that of its number
  pub replaced_insert : (k : ℕ) (x y : X) (m : Numbered X) → IsOrdered (rows_of row m) → map.get m k ≡ Some y → replaced (row k x) (rows_of row m) ≡ rows_of row (map.insert m k x)
  replaced_insert k x y m up there = replaced_is_put (pos k) (row k x) (rows_of row m) (keyed k x) up (row k y) (found_row_of k m ∙ ap (option_map (row k)) there) ∙ put_insert k x m
