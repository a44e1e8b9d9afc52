-- What a statement on one of our tables makes of them, and what is read of a query on one, whichever it is.
use Rattle.std.proofs.Common.{◌≡◌, ◌∙◌, ◌&&◌, ℕ, ℤ, pos, Bool, true, not, List, [], ◌∷◌, map, filter, find, Option, Ok, refl}
use Rattle.std.proofs.lemmas.Bool.{and_parts, and_from}
use Rattle.std.specs.Option.{option_to_list, option_map}
use Rattle.sqlite.specs.declared.types.Value.{Value}
use Rattle.sqlite.specs.declared.types.Value.TheVariants.{Int}
use Rattle.sqlite.specs.Order.{Row, column}
use Rattle.sqlite.specs.Table.{Table}
use Rattle.sqlite.specs.Term.{Term, col}
use Rattle.sqlite.specs.State.{State, ExecutesInside, Shown}
use Rattle.sqlite_value.specs.Keys.{plain, first_key}
use Rattle.sqlite_schema.specs.Rules.{agree}
use Rattle.sqlite_trees.specs.Tree.{with_tree, without_rowid, rowid}
use Rattle.sqlite_trees.proofs.ListLemmas.{all-slice_get}
use Rattle.dep_tables.specs.Query.{equals, exceeds, no_limit, passes_tests}
use Rattle.dep_tables.specs.Rowids.{IsOrdered, row_at, columns_from, is_after, has_number}
use Rattle.dep_tables.proofs.Tests.{equals_int, passes_key, passes_after}
use Rattle.dep_tables.proofs.Picked.{by_rowid, shown_of}
use Rattle.dep_tables.proofs.RowsLeft.{Made}
use Rattle.dep_tables.proofs.Written.{IsListed, table_of, Deletes, deletes_where, deletes_keyed}
use Rattle.dep_tables.proofs.Selected.{Asks, first_only, selects_keyed, selects_next, selects_all}
use Rattle.dep_tables.specs.Schema.{our_schema}
use Rattle.dep_tables.specs.Tables.{tables_in, IsOurs, Leads}
use Rattle.dep_tables.proofs.Leading.{leads}
use Rattle.dep_tables.proofs.Answered.{read_one, read_few, one_value}

-- WHERE column = ?1
abbrev pub of_column : ℕ → List Term
of_column at = equals (col 1 at) (col 0 0) ∷ []

-- WHERE key = ?1
abbrev pub of_number : List Term
of_number = of_column 0

-- a number as the one parameter, and as the one column
abbrev pub one_number : ℕ → Row
one_number n = Int (pos n) ∷ []

-- a row that has both numbers of a key of two has the same key
pub two_agree : (a b : ℕ) (rest : Row) (id : ℤ) (other : Row) → (has_number 1 a other && has_number 2 b other) ≡ true → agree plain (1 ∷ 2 ∷ []) other (1 ∷ 2 ∷ []) (Int id ∷ Int (pos a) ∷ Int (pos b) ∷ rest) ≡ true
unfolding first_key
two_agree a b rest id other same =
    let parts = and_parts _ _ same in
    and_from _ _ (equals_int (column other 1) (pos a) ∙ parts.0) (and_from _ _ (equals_int (column other 2) (pos b) ∙ parts.1) refl)

module _ {at tree : ℕ} (it : IsListed our_schema at tree) where
  pub rises : (s : State) → IsOurs s → IsOrdered (s.now.trees tree)
  rises s ours = all-slice_get (λ (t : Table). IsOrdered (s.now.trees t.tree)) our_schema.tables at (table_of it) it.listed ours.trees.ordered

  -- the transaction goes on with these rows in this table
  abbrev pub LeadsWith : State → State → List Row → Type 0
  LeadsWith old new rows = Leads old new (tables_in (with_tree old.now.trees tree rows))

  leads_with : (old new : State) (rows : List Row) → IsOurs old → Made our_schema old new tree rows → LeadsWith old new rows
  leads_with old new rows ours made = leads old new tree rows ours made _ refl

  -- DELETE of the rows that pass
  pub deletes_all : (sql : List ℕ) (tests : List Term) (params : Row) → Deletes our_schema sql at tree tests → (p : Row → Bool) → ((r : Row) → passes_tests params tests r ≡ p r)
      → (old new : State) (count : ℕ) → IsOurs old → ExecutesInside 0 sql params old new (Ok count) → LeadsWith old new (filter (λ r. not (p r)) (old.now.trees tree))
  deletes_all sql tests params is p test old new count ours h =
      leads_with old new _ ours (deletes_where our_schema at tree it sql params old new ours.schema (rises old ours) count h tests is p test)

  -- those with a number in a column
  pub deletes_of : (sql : List ℕ) (column number : ℕ) → Deletes our_schema sql at tree (of_column column) → (old new : State) (count : ℕ) → IsOurs old → ExecutesInside 0 sql (one_number number) old new (Ok count)
      → LeadsWith old new (filter (λ r. not (has_number column number r)) (old.now.trees tree))
  deletes_of sql column number is = deletes_all sql (of_column column) (one_number number) is (has_number column number) (λ row. passes_key number column row)

  -- DELETE of the row with a key
  pub deletes_one : (sql : List ℕ) (key : ℕ) → Deletes our_schema sql at tree of_number → (old new : State) (count : ℕ) → IsOurs old → ExecutesInside 0 sql (one_number key) old new (Ok count)
      → LeadsWith old new (without_rowid (pos key) (old.now.trees tree))
  deletes_one sql key is old new count ours h =
      leads_with old new _ ours (deletes_keyed our_schema at tree it sql (one_number key) old new ours.schema (rises old ours) count h of_number is (pos key) (λ row. passes_key key 0 row))

  -- SELECT of the row with a key
  pub finds_one : {R : Type 0} (values : R → Row) (width : ℕ) (sql : List ℕ) (shows : List Term) (key : ℕ) → Asks our_schema sql tree of_number shows [] no_limit
      → ((row : Row) → columns_from 0 width (shown_of (one_number key) shows row) ≡ shown_of (one_number key) shows row)
      → (old new : State) (found : Option R) → IsOurs old → (rows : List Row) × Shown sql (one_number key) old new rows × (map values (option_to_list found) ≡ map (columns_from 0 width) rows)
      → option_map values found ≡ option_map (shown_of (one_number key) shows) (row_at (old.now.trees tree) key)
  finds_one values width sql shows key is whole old new found ours read =
      read_one values width (shown_of (one_number key) shows) whole found (row_at (old.now.trees tree) key) read.0
      (selects_keyed our_schema sql (one_number key) old ours.schema tree it.own of_number shows new (rises old ours) is (pos key) (λ row. passes_key key 0 row) read.0 read.1) read.2

  -- SELECT of one column of the rows that pass, of which at most one was read
  pub finds_value : {B : Type 0} (value : B → Value) (sql : List ℕ) (tests : List Term) (params : Row) (c : ℕ) → Asks our_schema sql tree tests (col 1 c ∷ []) [] no_limit
      → (p : Row → Bool) → ((r : Row) → passes_tests params tests r ≡ p r)
      → (old new : State) (found : Option B) → IsOurs old → (rows : List Row) × Shown sql params old new rows × (map (λ b. value b ∷ []) (option_to_list found) ≡ map (columns_from 0 1) rows)
      → map (λ r. column r c) (filter p (old.now.trees tree)) ≡ option_to_list (option_map value found)
  finds_value value sql tests params c is p test old new found ours read =
      read_few value (λ r. column r c) found (filter p (old.now.trees tree)) read.0
      (selects_all our_schema sql params old ours.schema tree it.own tests (col 1 c ∷ []) p test new [] is read.0 read.1) read.2

  -- SELECT of the least key above a number
  pub nexts_one : (sql : List ℕ) (after : ℕ) → Asks our_schema sql tree (exceeds (col 1 0) (col 0 0) ∷ []) (col 1 0 ∷ []) by_rowid first_only
      → (old new : State) (found : Option ℕ) → IsOurs old → (rows : List Row) × Shown sql (one_number after) old new rows × (map one_number (option_to_list found) ≡ map (columns_from 0 1) rows)
      → option_map (λ n. Int (pos n)) found ≡ option_map rowid (find (is_after after) (old.now.trees tree))
  nexts_one sql after is old new found ours read =
      let there = find (is_after after) (old.now.trees tree) in
      one_value (λ n. Int (pos n)) rowid found there
      (read_one one_number 1 (λ row. rowid row ∷ []) (λ row. refl) found there read.0
      (selects_next our_schema sql (one_number after) old ours.schema tree it.own _ _ (is_after after) (λ row. passes_after after row) new (rises old ours) is read.0 read.1) read.2)
