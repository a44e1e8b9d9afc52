-- What a SELECT from one table of a schema answers: one lemma for each form.
use Rattle.std.proofs.Common.{◌≡◌, ℕ, ℤ, pos, List, [], ◌∷◌, ◌++◌, map, take, filter, find, Bool, false, Ordering, sym, ap, subst, ◌∙◌}
use Rattle.std.specs.Option.{option_to_list}
use Rattle.std.specs.Cmp.{IsTotalOrder}
use Rattle.std.specs.List.Sorted.{IsPermutation}
use Rattle.sqlite.specs.declared.types.Value.TheVariants.{Int}
use Rattle.sqlite.specs.Order.{Row}
use Rattle.sqlite.specs.Term.{Term, lit}
use Rattle.sqlite.specs.Tree.{Trees}
use Rattle.sqlite.specs.Schema.{Schema}
use Rattle.sqlite.specs.Command.TheVariants.{Select}
use Rattle.sqlite.specs.Query.{Query, output, output_cmp, Output, IsSureAnswer}
use Rattle.sqlite.specs.Listing.{understood, reads_listing}
use Rattle.sqlite.specs.Program.{overlay}
use Rattle.sqlite.specs.State.{State, Shown, Begins}
use Rattle.sqlite.proofs.Callers.{IsPlain, command_of, begins_as}
use Rattle.sqlite_value.specs.declared.keys.Key.{Key}
use Rattle.sqlite_trees.specs.Tree.{has_rowid}
use Rattle.dep_tables.specs.Query.{one_table, plainly, no_limit, passes_tests}
use Rattle.dep_tables.specs.Rowids.{IsOrdered, InOrder, AreFirst, IsFirst}
use Rattle.dep_tables.proofs.Asking.{Picks, answers}
use Rattle.dep_tables.proofs.Picked.{shown_of, by_rowid, in_any_order, in_order, drop-none}
use Rattle.dep_tables.proofs.Looking.{by_key, by_next, by_order, by_order_page, same_filter}
use Rattle.dep_tables.proofs.OneStatement.{selected}

abbrev pub first_ones : ℕ → Term
first_ones count = lit (Int (pos count))

abbrev pub first_only : Term
first_only = first_ones 1

-- how a text asks
pub record AsksBy (schema : Schema) (sql : List ℕ) (q : Query) : Type 0 where
  pub names : List (List ℕ)
  pub is : command_of (understood schema sql) ≡ Select (plainly q) names
  pub unlisted : reads_listing schema sql ≡ false
  pub plain : IsPlain (understood schema sql)

-- one table
abbrev pub Asks : Schema → List ℕ → ℕ → List Term → List Term → List (Term × Key) → Term → Type 0
Asks schema sql tree tests shows order limit = AsksBy schema sql (one_table tree tests shows order limit)

module _ (schema : Schema) (sql : List ℕ) (params : Row) (old : State) (ours : old.now.schema ≡ schema) (tree : ℕ) (own : (trees : Trees) → overlay trees [] tree ≡ trees tree) (tests shows : List Term) where
  abbrev rows : List Row
  rows = old.now.trees tree

  picked : (new : State) (order : List (Term × Key)) (limit : Term) → Asks schema sql tree tests shows order limit → (found : List Row) → Shown sql params old new found
      → Picks (one_table tree tests shows order limit) params (filter (passes_tests params tests) rows) found
  picked new order limit is found h = selected schema sql params old new ours is.plain tree tests shows order limit is.names is.is is.unlisted (own old.now.trees) found h

  -- SELECT .. by its key
  pub selects_keyed : (new : State) → IsOrdered rows → Asks schema sql tree tests shows [] no_limit → (id : ℤ) → ((r : Row) → passes_tests params tests r ≡ has_rowid id r) → (found : List Row) → Shown sql params old new found
      → found ≡ map (shown_of params shows) (option_to_list (find (has_rowid id) rows))
  selects_keyed new up is id test found h = by_key tree tests shows params rows found up id test (picked new [] no_limit is found h)

  module _ (p : Row → Bool) (test : (r : Row) → passes_tests params tests r ≡ p r) where
    -- SELECT .. ORDER BY key LIMIT 1
    pub selects_next : (new : State) → IsOrdered rows → Asks schema sql tree tests shows by_rowid first_only → (found : List Row) → Shown sql params old new found
        → found ≡ map (shown_of params shows) (option_to_list (find p rows))
    selects_next new up is found h = by_next tree tests shows params rows found up p test (picked new by_rowid first_only is found h)

    -- SELECT .. ORDER BY key
    pub selects_in_order : (new : State) → IsOrdered rows → Asks schema sql tree tests shows by_rowid no_limit → (found : List Row) → Shown sql params old new found → found ≡ map (shown_of params shows) (filter p rows)
    selects_in_order new up is found h = by_order tree tests shows params rows found up p test (picked new by_rowid no_limit is found h)

    -- the same with LIMIT
    pub selects_in_order_page : (count : ℕ) (new : State) → IsOrdered rows → Asks schema sql tree tests shows by_rowid (first_ones count) → (found : List Row) → Shown sql params old new found
        → found ≡ take count (map (shown_of params shows) (filter p rows))
    selects_in_order_page count new up is found h = by_order_page tree tests shows params rows found up count p test (picked new by_rowid (first_ones count) is found h)

    -- SELECT .. in any order
    pub selects_all : (new : State) (order : List (Term × Key)) → Asks schema sql tree tests shows order no_limit → (found : List Row) → Shown sql params old new found → IsPermutation (map (shown_of params shows) (filter p rows)) found
    selects_all new order is found h =
        subst (λ xs. IsPermutation (map (shown_of params shows) xs) found) (same_filter (passes_tests params tests) p rows test)
        (in_any_order tree tests shows order params (filter (passes_tests params tests) rows) found (picked new order no_limit is found h))

    module _ (order : List (Term × Key)) (cmp : Row → Row → Ordering) (total : IsTotalOrder cmp)
        (agrees : (a b : Row) → output_cmp (one_table tree tests shows order no_limit) (output (one_table tree tests shows order no_limit) (params ∷ a ∷ [])) (output (one_table tree tests shows order no_limit) (params ∷ b ∷ []))
        ≡ cmp (shown_of params shows a) (shown_of params shows b)) where
      sorted_pick : (found : List Row) → Picks (one_table tree tests shows order no_limit) params (filter (passes_tests params tests) rows) found → InOrder cmp (map (shown_of params shows) (filter p rows)) found
      sorted_pick found h = record {
        same = subst (λ xs. IsPermutation (map (shown_of params shows) xs) found) (same_filter (passes_tests params tests) p rows test) (in_any_order tree tests shows order params (filter (passes_tests params tests) rows) found h);
        sorted = in_order tree tests shows order params (filter (passes_tests params tests) rows) found cmp agrees total h;
      }

      -- SELECT .. ORDER BY columns that are shown
      pub selects_sorted : (new : State) → Asks schema sql tree tests shows order no_limit → (found : List Row) → Shown sql params old new found → InOrder cmp (map (shown_of params shows) (filter p rows)) found
      selects_sorted new is found h = sorted_pick found (picked new order no_limit is found h)

      -- the same with LIMIT
      pub selects_page : (count : ℕ) (new : State) → Asks schema sql tree tests shows order (first_ones count) → (found : List Row) → Shown sql params old new found
          → AreFirst count cmp (map (shown_of params shows) (filter p rows)) found
      selects_page count new is found h =
          let pick = picked new order (first_ones count) is found h in
          let all = map (λ (o : Output). o.1) pick.ordered in
          (all, sorted_pick all (record { ordered = pick.ordered; same = pick.same; sorted = pick.sorted; shown = sym (drop-none all) }), pick.shown ∙ ap (take count) (drop-none all))

      -- the same with LIMIT 1
      pub selects_first : (new : State) → Asks schema sql tree tests shows order first_only → (found : List Row) → Shown sql params old new found
          → IsFirst cmp (map (shown_of params shows) (filter p rows)) found
      selects_first = selects_page 1

      -- what begins an answer begins one that is in order
      pub begins_sorted : Asks schema sql tree tests shows order no_limit → (given : List Row) → Begins sql params old given
          → (tail : List Row) × InOrder cmp (map (shown_of params shows) (filter p rows)) (given ++ tail)
      begins_sorted is given h =
          let q = one_table tree tests shows order no_limit in
          let first = begins_as sql params old old schema ours (Select (plainly q) is.names) is.is is.plain is.unlisted given h in
          let start : (tail : List Row) × IsSureAnswer q (overlay old.now.trees []) params (given ++ tail) = first.1 in
          (start.0, sorted_pick (given ++ start.0) (answers tree tests shows order no_limit old.now params (given ++ start.0) (own old.now.trees) (record { typed = first.0; answer = start.1 })))
