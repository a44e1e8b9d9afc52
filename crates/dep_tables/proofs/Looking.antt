-- Rows that a query by a key, or by the next greater key, finds.
use Rattle.std.proofs.Common.{◌≡◌, inl, inr, ℕ, ℤ, pos, ◌≤◌, Bool, true, false, not, if◌then◌else◌, length, List, [], ◌∷◌, map, take, filter, find, Option, Some, None, refl, sym, ap, ◌∙◌, is_eq, is_lt, Ordering, Less, Equal, Greater, arith}
use Rattle.std.specs.Option.{option_to_list}
use Rattle.std.specs.List.{AllByRecursion}
use Rattle.sqlite.specs.Order.{Row}
use Rattle.sqlite.specs.Term.{Term, lit}
use Rattle.sqlite.specs.declared.types.Value.TheVariants.{Int}
use Rattle.sqlite_value.specs.Order.{value_cmp}
use Rattle.sqlite_trees.specs.Tree.{rowid, has_rowid, without_rowid, put_row}
use Rattle.sqlite_trees.proofs.TreeLemmas.{later_rowids}
use Rattle.sqlite_trees.proofs.ListLemmas.{filter_same, ascending-filter}
use Rattle.sqlite_rules.proofs.ListLemmas.{all_from}
use Rattle.dep_tables.specs.Query.{one_table, no_limit, passes_tests}
use Rattle.dep_tables.specs.Rowids.{IsOrdered, replaced}
use Rattle.dep_tables.proofs.Asking.{Picks}
use Rattle.dep_tables.proofs.Picked.{shown_of, of_few, in_key_order, first_in_key_order, by_rowid}
use Rattle.dep_tables.proofs.Keys.{found_row, find_none, find_head}

pub same_filter : (p q : Row → Bool) (rows : List Row) → ((r : Row) → p r ≡ q r) → filter p rows ≡ filter q rows
same_filter p q rows h = filter_same p q rows (all_from _ rows (λ r k. h r))

pub same_find : (p q : Row → Bool) (rows : List Row) → ((r : Row) → p r ≡ q r) → find p rows ≡ find q rows
same_find p q [] h = refl
same_find p q (x ∷ rows) h = rw (h x) (go (q x) (same_find p q rows h))
  where
    go : (b : Bool) → find p rows ≡ find q rows → (if b then Some x else find p rows) ≡ (if b then Some x else find q rows)
    go true more = refl
    go false more = more

-- at most one row has a key
pub few_is_find : (id : ℤ) (rows : List Row) → IsOrdered rows → filter (has_rowid id) rows ≡ option_to_list (find (has_rowid id) rows)
few_is_find id rows up = elim (found_row id rows up) [
  | inl none ↦ none ∙ ap option_to_list (sym (find_none (has_rowid id) rows none))
  | inr one ↦ one.1 ∙ ap option_to_list (sym (find_head (has_rowid id) rows one.0 [] one.1))
]

few : (o : Option Row) → length (option_to_list o) ≤ 1
few None = omega arith
few (Some x) = omega arith

take_none : {X : Type 0} (xs : List X) → take 0 xs ≡ []
take_none [] = refl
take_none (x ∷ xs) = refl

take_one : (p : Row → Bool) (f : Row → Row) (rows : List Row) → take 1 (map f (filter p rows)) ≡ map f (option_to_list (find p rows))
take_one p f [] = refl
take_one p f (x ∷ rows) = go (p x) refl (take_one p f rows)
  where
    go : (b : Bool) → p x ≡ b → take 1 (map f (filter p rows)) ≡ map f (option_to_list (find p rows)) → take 1 (map f (filter p (x ∷ rows))) ≡ map f (option_to_list (find p (x ∷ rows)))
    go true is more = rw is (ap (λ xs. f x ∷ xs) (take_none (map f (filter p rows))))
    go false is more = rw is more

module _ (tree : ℕ) (tests shows : List Term) (params : Row) (before rows : List Row) (up : IsOrdered before) where
  -- SELECT .. by its key
  pub by_key : (id : ℤ) → ((r : Row) → passes_tests params tests r ≡ has_rowid id r) → Picks (one_table tree tests shows [] no_limit) params (filter (passes_tests params tests) before) rows
      → rows ≡ map (shown_of params shows) (option_to_list (find (has_rowid id) before))
  by_key id test h =
      let is : filter (passes_tests params tests) before ≡ option_to_list (find (has_rowid id) before) = same_filter _ (has_rowid id) before test ∙ few_is_find id before up in
      of_few tree tests shows [] params (filter (passes_tests params tests) before) rows (rw is (few (find (has_rowid id) before))) h ∙ ap (map (shown_of params shows)) is

  -- SELECT .. ORDER BY key LIMIT 1
  pub by_next : (p : Row → Bool) → ((r : Row) → passes_tests params tests r ≡ p r) → Picks (one_table tree tests shows by_rowid (lit (Int (pos 1)))) params (filter (passes_tests params tests) before) rows
      → rows ≡ map (shown_of params shows) (option_to_list (find p before))
  by_next p test h =
      first_in_key_order tree tests shows params (filter (passes_tests params tests) before) rows (ascending-filter _ (passes_tests params tests) before up.0) 1 h ∙ take_one (passes_tests params tests) (shown_of params shows) before
      ∙ ap (λ o. map (shown_of params shows) (option_to_list o)) (same_find _ p before test)

  -- SELECT .. ORDER BY key
  pub by_order : (p : Row → Bool) → ((r : Row) → passes_tests params tests r ≡ p r) → Picks (one_table tree tests shows by_rowid no_limit) params (filter (passes_tests params tests) before) rows
      → rows ≡ map (shown_of params shows) (filter p before)
  by_order p test h =
      in_key_order tree tests shows params (filter (passes_tests params tests) before) rows (ascending-filter _ (passes_tests params tests) before up.0) h ∙ ap (map (shown_of params shows)) (same_filter _ p before test)

  -- the same with LIMIT
  pub by_order_page : (count : ℕ) (p : Row → Bool) → ((r : Row) → passes_tests params tests r ≡ p r) → Picks (one_table tree tests shows by_rowid (lit (Int (pos count)))) params (filter (passes_tests params tests) before) rows
      → rows ≡ take count (map (shown_of params shows) (filter p before))
  by_order_page count p test h =
      first_in_key_order tree tests shows params (filter (passes_tests params tests) before) rows (ascending-filter _ (passes_tests params tests) before up.0) count h ∙ ap (λ rs. take count (map (shown_of params shows) rs)) (same_filter _ p before test)

pub without_key : (id : ℤ) (p : Row → Bool) (rows : List Row) → ((r : Row) → p r ≡ has_rowid id r) → filter (λ r. not (p r)) rows ≡ without_rowid id rows
without_key id p rows test = same_filter _ (λ r. not (has_rowid id r)) rows (λ r. ap not (test r))

pub without_passing : (p q : Row → Bool) (rows : List Row) → ((r : Row) → p r ≡ q r) → filter (λ r. not (p r)) rows ≡ filter (λ r. not (q r)) rows
without_passing p q rows test = same_filter _ (λ r. not (q r)) rows (λ r. ap not (test r))

-- no row that does not tie is replaced
kept_rows : (new : Row) (rows : List Row) → AllByRecursion (λ r. is_eq (value_cmp (rowid r) (rowid new)) ≡ false) rows → replaced new rows ≡ rows
kept_rows new [] h = refl
kept_rows new (x ∷ rows) h = rw h.0 (ap (λ xs. x ∷ xs) (kept_rows new rows h.1))

none_tied : (id : ℤ) (rows : List Row) → AllByRecursion (λ r. is_eq (value_cmp (rowid r) (Int id)) ≡ false) rows → find (has_rowid id) rows ≡ None
none_tied id [] h = refl
none_tied id (x ∷ rows) h = rw h.0 (none_tied id rows h.1)

-- where the key is there, a row is replaced by being put in
pub replaced_is_put : (id : ℤ) (new : Row) (rows : List Row) → rowid new ≡ Int id → IsOrdered rows → (r : Row) → find (has_rowid id) rows ≡ Some r → replaced new rows ≡ put_row new rows
replaced_is_put id new [] keyed up r there = absurd (cc)
replaced_is_put id new (x ∷ rows) keyed up r there = go (value_cmp (rowid x) (rowid new)) refl (replaced_is_put id new rows keyed (up.0.1, up.1.1) r)
  where
    go : (o : Ordering) → value_cmp (rowid x) (rowid new) ≡ o → (find (has_rowid id) rows ≡ Some r → replaced new rows ≡ put_row new rows) → replaced new (x ∷ rows) ≡ put_row new (x ∷ rows)
    go Less is more =
        let other : has_rowid id x ≡ false = ap (λ v. is_eq (value_cmp (rowid x) v)) (sym keyed) ∙ ap is_eq is in
        let later : find (has_rowid id) rows ≡ Some r = rw other at there in
        rw is (ap (λ xs. x ∷ xs) (more later))
    go Equal is more =
        let below : is_lt (value_cmp (rowid x) (rowid new)) ≡ false = ap is_lt is in
        rw is (ap (λ xs. new ∷ xs) (kept_rows new rows (later_rowids (rowid new) x rows below up.0.0)))
    go Greater is more =
        let other : has_rowid id x ≡ false = ap (λ v. is_eq (value_cmp (rowid x) v)) (sym keyed) ∙ ap is_eq is in
        let below : is_lt (value_cmp (rowid x) (Int id)) ≡ false = ap (λ v. is_lt (value_cmp (rowid x) v)) (sym keyed) ∙ ap is_lt is in
        let later : find (has_rowid id) rows ≡ Some r = rw other at there in
        let gone = none_tied id rows (later_rowids (Int id) x rows below up.0.0) in
        absurd (cc)
