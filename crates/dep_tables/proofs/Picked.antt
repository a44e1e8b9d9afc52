-- The rows that a query answers.
use Rattle.std.proofs.Common.{◌≡◌, inl, inr, is_gt, ap₂, ℕ, ◌≤◌, pos, length, take, drop, List, [], ◌∷◌, map, false, refl, sym, ap, subst, ◌∙◌, Ordering, Less, arith}
use Rattle.std.proofs.lemmas.List.{length-map}
use Rattle.std.proofs.lemmas.List.Sorted.{IsPermutation-map}
use Rattle.std.specs.List.Sorted.{IsPermutation, IsSorted}
use Rattle.sqlite.specs.declared.types.Value.TheVariants.{Int}
use Rattle.sqlite_value.specs.declared.keys.Key.{Key}
use Rattle.sqlite_value.specs.Order.{value_cmp}
use Rattle.sqlite_value.proofs.OrderLemmas.{then-Equal}
use Rattle.sqlite.specs.Order.{Row}
use Rattle.sqlite.specs.Term.{Term, Env, lit, col, eval_all}
use Rattle.sqlite.specs.Query.{Query, output, output_cmp, page, Output}
use Rattle.sqlite_sql.proofs.QueryLemmas.{output_cmp_total}
use Rattle.sqlite_trees.specs.Tree.{rowid, IsAscending, IsTable}
use Rattle.sqlite_trees.proofs.ListLemmas.{map-map, ascending-map, ascending_weaker}
use Rattle.std.specs.Cmp.{IsTotalOrder}
use Rattle.sqlite_exec.proofs.PartitionLemmas.{ascending_from_sorted, sorted_from_ascending}
use Rattle.sqlite_trees.proofs.ListLemmas.{all-map}
use Rattle.sqlite_rules.specs.Lists.{Has}
use Rattle.sqlite_rules.proofs.ListLemmas.{all_has, all_from}
use Rattle.dep_tables.proofs.Members.{mapped_from, permuted_from}
use Rattle.dep_tables.specs.Query.{one_table, no_limit, rising}
use Rattle.dep_tables.proofs.Asking.{PicksBy, Picks}
use Rattle.dep_tables.proofs.Sorted.{short_permutation, sorted_is}

pub drop-none : {X : Type 0} (xs : List X) → drop 0 xs ≡ xs
drop-none [] = refl
drop-none (x ∷ xs) = refl

abbrev Rises : {X : Type 0} → (X → X → Ordering) → List X → Type 0
Rises cmp = IsAscending (λ a b. is_gt (cmp a b) ≡ false)

-- whatever it is of, with no LIMIT and no OFFSET
module _ {X : Type 0} (q : Query) (params : Row) (env : X → Env) (found : List X) (rows : List Row) (whole : (xs : List Row) → page q params xs ≡ xs) where
  abbrev out : X → Output
  out x = output q (env x)

  -- in some order
  pub all_in_any_order : PicksBy q params env found rows → IsPermutation (map (λ x. eval_all q.project (env x)) found) rows
  all_in_any_order h =
      subst (IsPermutation (map (λ x. eval_all q.project (env x)) found)) (sym (h.shown ∙ whole (map (λ (o : Output). o.1) h.ordered)))
      (subst (λ xs. IsPermutation xs (map (λ (o : Output). o.1) h.ordered)) (map-map (λ (o : Output). o.1) out found) (IsPermutation-map (λ (o : Output). o.1) _ h.ordered h.same))

  module _ (cmp : Row → Row → Ordering) (agrees : (a b : X) → output_cmp q (out a) (out b) ≡ cmp (eval_all q.project (env a)) (eval_all q.project (env b))) where
    rises : (os : List Output) → ((o : Output) → Has os o → Has (map out found) o) → Rises (output_cmp q) os → Rises cmp (map (λ (o : Output). o.1) os)
    rises [] within up = tt
    rises (o ∷ os) within up =
        let first = mapped_from out found o (within o (inl refl)) in (
          all-map (λ x. is_gt (cmp o.1 x) ≡ false) (λ (p : Output). p.1) os (all_from _ os (λ p h.
              let next = mapped_from out found p (within p (inr h)) in
              let same : output_cmp q o p ≡ cmp o.1 p.1 = ap₂ (output_cmp q) first.2 next.2 ∙ agrees first.0 next.0 ∙ sym (ap₂ (λ (x y : Output). cmp x.1 y.1) first.2 next.2) in
              ap is_gt (sym same) ∙ all_has _ os p up.0 h)),
          rises os (λ p h. within p (inr h)) up.1,
        )

    -- in an order of what is shown
    pub all_in_order : IsTotalOrder cmp → PicksBy q params env found rows → IsSorted cmp rows
    all_in_order total h =
        subst (IsSorted cmp) (sym (h.shown ∙ whole (map (λ (o : Output). o.1) h.ordered)))
        (sorted_from_ascending cmp total (map (λ (o : Output). o.1) h.ordered)
        (rises h.ordered (λ o k. permuted_from (map out found) h.ordered o h.same k) (ascending_from_sorted (output_cmp q) (output_cmp_total q) h.ordered h.sorted)))

-- what the query shows of a row
abbrev pub shown_of : Row → List Term → Row → Row
shown_of params shows row = eval_all shows (params ∷ row ∷ [])

module _ (tree : ℕ) (tests shows : List Term) (order : List (Term × Key)) (params : Row) (found rows : List Row) where
  abbrev all : Query
  all = one_table tree tests shows order no_limit

  pub in_any_order : Picks all params found rows → IsPermutation (map (shown_of params shows) found) rows
  in_any_order = all_in_any_order all params (λ r. params ∷ r ∷ []) found rows (λ xs. drop-none xs)

  -- at most one
  pub of_few : length found ≤ 1 → Picks all params found rows → rows ≡ map (shown_of params shows) found
  of_few few h = short_permutation (map (shown_of params shows) found) rows (omega (arith, few, length-map found (shown_of params shows))) (in_any_order h)

  pub in_order : (cmp : Row → Row → Ordering) → ((a b : Row) → output_cmp all (output all (params ∷ a ∷ [])) (output all (params ∷ b ∷ [])) ≡ cmp (shown_of params shows a) (shown_of params shows b))
      → IsTotalOrder cmp → Picks all params found rows → IsSorted cmp rows
  in_order = all_in_order all params (λ r. params ∷ r ∷ []) found rows (λ xs. drop-none xs)

abbrev pub by_rowid : List (Term × Key)
by_rowid = (col 1 0, rising) ∷ []

module _ (tree : ℕ) (tests shows : List Term) (params : Row) (found rows : List Row) (up : IsTable found) where
  ordered_is : (limit : Term) (ordered : List Output) → let q = one_table tree tests shows by_rowid limit in IsPermutation (map (λ r. output q (params ∷ r ∷ [])) found) ordered → IsSorted (output_cmp q) ordered
      → ordered ≡ map (λ r. output q (params ∷ r ∷ [])) found
  ordered_is limit ordered same sorted =
      let q = one_table tree tests shows by_rowid limit in
      sorted_is (output_cmp q) (output_cmp_total q) _ ordered
      (ascending-map (λ a b. output_cmp q a b ≡ Less) (λ r. output q (params ∷ r ∷ [])) found (ascending_weaker _ _ (λ a b h. then-Equal (value_cmp (rowid a) (rowid b)) ∙ h) found up)) same sorted

  -- in the order of the rowids
  pub in_key_order : Picks (one_table tree tests shows by_rowid no_limit) params found rows → rows ≡ map (shown_of params shows) found
  in_key_order h =
      h.shown ∙ drop-none (map (λ (o : Output). o.1) h.ordered) ∙ ap (map (λ (o : Output). o.1)) (ordered_is no_limit h.ordered h.same h.sorted)
      ∙ map-map (λ (o : Output). o.1) (λ r. output (one_table tree tests shows by_rowid no_limit) (params ∷ r ∷ [])) found

  -- so many of them, from the first on
  pub first_in_key_order : (count : ℕ) → Picks (one_table tree tests shows by_rowid (lit (Int (pos count)))) params found rows → rows ≡ take count (map (shown_of params shows) found)
  first_in_key_order count h =
      let q = one_table tree tests shows by_rowid (lit (Int (pos count))) in
      h.shown ∙ ap (take count) (drop-none (map (λ (o : Output). o.1) h.ordered) ∙ ap (map (λ (o : Output). o.1)) (ordered_is (lit (Int (pos count))) h.ordered h.same h.sorted) ∙ map-map (λ (o : Output). o.1) (λ r. output q (params ∷ r ∷ [])) found)
