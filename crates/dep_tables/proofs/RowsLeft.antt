-- The rows that a write leaves.
use Rattle.std.proofs.Common.{◌≡◌, ℕ, ℤ, IsTrue, List, [], ◌∷◌, map, drop, filter, Bool, true, false, not, ◌&&◌, if◌then◌else◌, refl, sym, ap, subst, ◌∙◌}
use Rattle.std.specs.List.{AllByRecursion}
use Rattle.std.proofs.lemmas.List.Sorted.{IsPermutation-map}
use Rattle.std.specs.List.Sorted.{IsPermutation}
use Rattle.sqlite.specs.declared.types.Value.TheVariants.{Int}
use Rattle.sqlite.specs.Order.{Row}
use Rattle.sqlite.specs.Term.{Term}
use Rattle.sqlite.specs.Table.{Table}
use Rattle.sqlite.specs.Schema.{Schema}
use Rattle.sqlite.specs.Rowids.TheVariants.{Chosen, Given}
use Rattle.sqlite.specs.Effect.{IsDatabase}
use Rattle.sqlite.specs.State.{State, Shows}
use Rattle.sqlite_trees.specs.Tree.{rowid, has_rowid, put_row}
use Rattle.sqlite_trees.specs.View.{is_int}
use Rattle.sqlite_trees.specs.declared.store.Shape.TheVariants as shape
use Rattle.sqlite_trees.proofs.TreeLemmas.{IsShaped-put_row, IsShaped-filter}
use Rattle.sqlite_trees.proofs.ListLemmas.{map-map}
use Rattle.sqlite_value.specs.declared.keys.Key.{Key}
use Rattle.sqlite_rules.specs.Lists.{Has}
use Rattle.sqlite_rules.specs.Cast.{cast_row}
use Rattle.sqlite_rules.specs.Edit.{edit_of, id_in, numbered, without_all, put_all, are_fresh, is_taken}
use Rattle.sqlite_rules.specs.Calls.{ids_of}
use Rattle.sqlite_rules.proofs.PlaceLemmas.{given}
use Rattle.dep_tables.specs.Query.{one_table, no_limit, passes_tests}
use Rattle.dep_tables.specs.Rowids.{IsOrdered, replaced}
use Rattle.dep_tables.proofs.Asking.{Picks}
use Rattle.dep_tables.proofs.Picked.{shown_of, in_any_order}
use Rattle.dep_tables.proofs.Edits.{key_of, left_rows, changed_rows, changed_ordered}
use Rattle.dep_tables.proofs.Keys.{row_key, replaces}
use Rattle.dep_tables.proofs.OneStatement.{Wrote}

-- the transaction goes on with these rows in this table, and the other tables keep theirs
pub record Made (schema : Schema) (old new : State) (tree : ℕ) (rows : List Row) : Type 0 where
  pub shows : Shows old new new.now old.committed true
  pub schema_is : new.now.schema ≡ schema
  pub sound : IsDatabase new.now
  pub rows_are : new.now.trees tree ≡ rows
  pub ordered : IsOrdered rows
  pub others : AllByRecursion (λ t. (t.tree ≡ tree → ⊥) → new.now.trees t.tree ≡ old.now.trees t.tree) schema.tables

-- the same rows, said otherwise
pub same_made : {schema : Schema} {old new : State} {tree : ℕ} {rows others : List Row} → Made schema old new tree rows → rows ≡ others → Made schema old new tree others
same_made {schema} {old} {new} {tree} made is = subst (Made schema old new tree) is made

free_if : (b : Bool) → (not b && true) ≡ true → b ≡ false
free_if true h = absurd cc
free_if false h = refl

-- what an UPDATE makes of a row
abbrev pub changed_by : Table → List Term → Row → Row → Row
changed_by table shows params r = cast_row table (drop 1 (shown_of params shows r))

module _ (schema : Schema) (old new : State) (table : Table) where
  abbrev rows_before : List Row
  rows_before = old.now.trees table.tree

  -- one row is put in, where its rowid is not taken
  pub puts : (sources : List Row) (row : Row) → IsOrdered rows_before → IsTrue (is_int (rowid row)) → numbered Chosen rows_before (map (λ s. cast_row table (drop 0 s)) sources) ≡ row ∷ [] → Wrote schema old new (edit_of old.now.trees table [] Chosen 0 sources)
      → Made schema old new table.tree (put_row row rows_before) × (is_taken rows_before row ≡ false)
  puts sources row up numbered_by is w = (
    record {
      shows = w.shows;
      schema_is = w.schema_is;
      sound = w.sound;
      rows_are = w.applies.rows ∙ ap (put_all rows_before) is;
      ordered = IsShaped-put_row row rows_before numbered_by up;
      others = w.applies.tables;
    },
    free_if (is_taken rows_before row) (subst (λ xs. are_fresh rows_before xs ≡ true) is w.applies.fresh),
  )

  module _ (tests shows : List Term) (order : List (Term × Key)) (params : Row) (rows : List Row) (up : IsOrdered rows_before) (keyed : (r : Row) → rowid (shown_of params shows r) ≡ rowid r)
      (picked : Picks (one_table table.tree tests shows order no_limit) params (filter (passes_tests params tests) rows_before) rows) where
    abbrev p : Row → Bool
    p = passes_tests params tests

    ids_same : IsPermutation (map key_of (filter p rows_before)) (ids_of rows)
    ids_same =
        subst (λ xs. IsPermutation xs (ids_of rows)) (map-map key_of (shown_of params shows) (filter p rows_before) ∙ ap (λ (f : Row → ℤ). map f (filter p rows_before)) (λ i. λ r. id_in (keyed r i)))
        (IsPermutation-map key_of _ rows (in_any_order table.tree tests shows order params (filter p rows_before) rows picked))

    left : without_all rows_before (ids_of rows) ≡ filter (λ r. not (p r)) rows_before
    left = left_rows p rows_before up (ids_of rows) ids_same

    -- the rows that pass are deleted
    pub takes : Wrote schema old new (edit_of old.now.trees table (ids_of rows) Given 0 []) → Made schema old new table.tree (filter (λ r. not (p r)) rows_before)
    takes w = record {
      shows = w.shows;
      schema_is = w.schema_is;
      sound = w.sound;
      rows_are = w.applies.rows ∙ left;
      ordered = IsShaped-filter shape.Table _ rows_before up;
      others = w.applies.tables;
    }

    abbrev change : Row → Row
    change = changed_by table shows params

    -- the rows that pass are changed
    pub changes : ((r : Row) → Has rows_before r → p r ≡ true → rowid (changed_by table shows params r) ≡ rowid r) → Wrote schema old new (edit_of old.now.trees table (ids_of rows) Given 1 rows)
        → Made schema old new table.tree (map (λ r. if passes_tests params tests r then changed_by table shows params r else r) rows_before)
    changes keeps w =
        let cut = λ (s : Row). cast_row table (drop 1 s) in
        let news = map cut rows in
        let numbers : numbered Given (without_all rows_before (ids_of rows)) news ≡ news = given _ news in
        let same : IsPermutation (map change (filter p rows_before)) news =
        subst (λ xs. IsPermutation xs news) (map-map cut (shown_of params shows) (filter p rows_before)) (IsPermutation-map cut _ rows (in_any_order table.tree tests shows order params (filter p rows_before) rows picked)) in
        let fresh : are_fresh (filter (λ r. not (p r)) rows_before) news ≡ true = subst (λ xs. are_fresh xs news ≡ true) left (subst (λ xs. are_fresh (without_all rows_before (ids_of rows)) xs ≡ true) numbers w.applies.fresh) in
        record {
          shows = w.shows;
          schema_is = w.schema_is;
          sound = w.sound;
          rows_are = w.applies.rows ∙ ap (put_all (without_all rows_before (ids_of rows))) numbers ∙ ap (λ xs. put_all xs news) left ∙ changed_rows p change rows_before up keeps news same fresh;
          ordered = changed_ordered p change rows_before up keeps;
          others = w.applies.tables;
        }

    -- the row with this key is changed to this one
    pub replaces_row : (id : ℤ) (row : Row) → ((r : Row) → passes_tests params tests r ≡ has_rowid id r) → rowid row ≡ Int id → ((r : Row) → rowid r ≡ Int id → changed_by table shows params r ≡ row)
        → Wrote schema old new (edit_of old.now.trees table (ids_of rows) Given 1 rows) → Made schema old new table.tree (replaced row rows_before)
    replaces_row id row by_key keyed is w =
        let each = λ (r : Row) (h : Has rows_before r) (passing : p r ≡ true).
        let has : rowid r ≡ Int id = row_key rows_before r id up h (sym (by_key r) ∙ passing) in ap rowid (is r has) ∙ keyed ∙ sym has in
        same_made (changes each w) (replaces id p change row rows_before up keyed by_key is)
