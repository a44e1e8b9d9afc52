-- What a statement on one table of a schema leaves: one lemma for each form of INSERT, UPDATE and DELETE.
use Rattle.std.proofs.Common.{◌≡◌, inl, pos, ℕ, ℤ, ◌/◌, List, [], ◌∷◌, length, map, drop, filter, slice_get, Bool, true, false, not, if◌then◌else◌, IsTrue, Option, Some, None, Ok, refl, sym, ap, subst, ◌∙◌}
use Rattle.std.specs.List.{list_any}
use Rattle.std.proofs.lemmas.Bool.{and_from}
use Rattle.sqlite.specs.Order.{Row}
use Rattle.sqlite.specs.Term.{Term, col}
use Rattle.sqlite.specs.Table.{Table}
use Rattle.sqlite.specs.Tree.{Trees}
use Rattle.sqlite.specs.Schema.{Schema}
use Rattle.sqlite.specs.Source.TheVariants.{Values}
use Rattle.sqlite.specs.Command.TheVariants.{Insert, Update, Delete}
use Rattle.sqlite.specs.Rowids.TheVariants.{Chosen}
use Rattle.sqlite.specs.declared.types.Value.TheVariants.{Int}
use Rattle.sqlite.specs.Effect.{value_rows}
use Rattle.sqlite.specs.Listing.{understood}
use Rattle.sqlite.specs.Program.{overlay}
use Rattle.sqlite.specs.State.{State, ExecutesInside}
use Rattle.sqlite.proofs.Callers.{IsPlain, command_of}
use Rattle.sqlite_schema.specs.declared.schema.Column.{Column}
use Rattle.sqlite_schema.specs.declared.schema.Keys.TheVariants.{Enforced}
use Rattle.sqlite_schema.specs.Rules.{Fits, agree, clashes}
use Rattle.sqlite_value.specs.declared.keys.Order.{Order}
use Rattle.sqlite_value.specs.Keys.{plain}
use Rattle.sqlite_trees.specs.Tree.{rowid, has_rowid, put_row, without_rowid}
use Rattle.sqlite_trees.specs.View.{is_int}
use Rattle.sqlite_rules.specs.Action.{works}
use Rattle.sqlite_rules.specs.Cast.{cast_row}
use Rattle.sqlite_rules.specs.Edit.{numbered, is_taken, next_rowid}
use Rattle.sqlite_rules.specs.Lists.{Has}
use Rattle.sqlite_rules.proofs.ListLemmas.{all_from}
use Rattle.sqlite_rules.proofs.TableLemmas.{put_all_adds}
use Rattle.dep_tables.specs.PlainTables.{plain_table}
use Rattle.dep_tables.specs.Query.{one_table, plainly, no_limit, passes_tests}
use Rattle.dep_tables.specs.Rowids.{IsOrdered, row_at, replaced, put_next}
use Rattle.dep_tables.proofs.OneStatement.{inserted, updated, deleted}
use Rattle.dep_tables.proofs.RowsLeft.{Made, same_made, changed_by, puts, takes, changes, replaces_row}
use Rattle.dep_tables.proofs.Looking.{without_key, without_passing}
use Rattle.dep_tables.proofs.Found.{not_there}
use Rattle.dep_tables.proofs.Members.{map_same}
use Rattle.dep_tables.proofs.Unique.{IsKey, no_clash, no_key}

-- the schema has a plain table of this tree at this place, and no write of it sets off another
pub record IsListed (schema : Schema) (at tree : ℕ) : Type 0 where
  pub name : List ℕ
  pub columns : List Column
  pub key : Option ℕ
  pub primary : List ℕ
  pub uniques : List (List ℕ)
  pub orders : List Order
  pub listed : slice_get schema.tables at ≡ Some (plain_table name tree columns key primary uniques orders)
  pub free : (olds news : List Row) → works schema Enforced 0 tree olds news ≡ []
  pub own : (trees : Trees) → overlay trees [] tree ≡ trees tree

abbrev pub table_of : {schema : Schema} {at tree : ℕ} → IsListed schema at tree → Table
table_of {schema} {at} {tree} t = plain_table t.name tree t.columns t.key t.primary t.uniques t.orders

-- how a text writes: the table's place, the terms or the tests
abbrev pub Inserts : Schema → List ℕ → ℕ → List Term → Type 0
Inserts schema sql at terms = (command_of (understood schema sql) ≡ Insert at (Values terms (length terms))) × IsPlain (understood schema sql)

abbrev pub Deletes : Schema → List ℕ → ℕ → ℕ → List Term → Type 0
Deletes schema sql at tree tests = (command_of (understood schema sql) ≡ Delete at (plainly (one_table tree tests (col 1 0 ∷ []) [] no_limit))) × IsPlain (understood schema sql)

abbrev pub Updates : Schema → List ℕ → ℕ → ℕ → List Term → List Term → Type 0
Updates schema sql at tree tests shows = (command_of (understood schema sql) ≡ Update at (plainly (one_table tree tests (col 1 0 ∷ shows) [] no_limit))) × IsPlain (understood schema sql)

if_same : (p q : Row → Bool) (f g : Row → Row) (r : Row) → p r ≡ q r → (q r ≡ true → f r ≡ g r) → (if p r then f r else r) ≡ (if q r then g r else r)
if_same p q f g r test same = go (q r) refl
  where
    go : (b : Bool) → q r ≡ b → (if p r then f r else r) ≡ (if q r then g r else r)
    go true is = rw (test, is) (same is)
    go false is = rw (test, is) refl

-- the rows that an INSERT of one row puts in
abbrev put_in : Table → Row → List Term → List Row → List Row
put_in table params terms rows = numbered Chosen rows (map (λ s. cast_row table (drop 0 s)) (value_rows params (length terms) (length terms / length terms) terms))

module _ (schema : Schema) (at tree : ℕ) (it : IsListed schema at tree) (sql : List ℕ) (params : Row) (old new : State) (ours : old.now.schema ≡ schema) (up : IsOrdered (old.now.trees tree))
    (count : ℕ) (h : ExecutesInside 0 sql params old new (Ok count)) where
  abbrev rows : List Row
  rows = old.now.trees tree

  puts_one : (terms : List Term) → Inserts schema sql at terms → (row : Row) → IsTrue (is_int (rowid row)) → put_in (table_of it) params terms rows ≡ row ∷ []
      → Made schema old new tree (put_row row rows) × (is_taken rows row ≡ false) × Fits schema new.now.trees
  puts_one terms is row keyed made =
      let wrote = inserted schema sql params old new ours is.1 count h at it.name tree it.columns it.key it.primary it.uniques it.orders it.listed terms (length terms) is.0 in
      let done = puts schema old new (table_of it) (value_rows params (length terms) (length terms / length terms) terms) row up keyed made wrote in
      (done.0, done.1, wrote.applies.fits)

  -- INSERT of a row under its key
  pub inserts_keyed : (terms : List Term) → Inserts schema sql at terms → (key : ℕ) (values : Row) → put_in (table_of it) params terms rows ≡ (Int (pos key) ∷ values) ∷ []
      → Made schema old new tree (put_row (Int (pos key) ∷ values) rows) × (row_at rows key ≡ None)
  inserts_keyed terms is key values made =
      let done = puts_one terms is (Int (pos key) ∷ values) refl made in
      (done.0, not_there rows (pos key) done.1)

  -- INSERT of a row under the next rowid, where the schema has a key of several columns
  pub inserts_next : (terms : List Term) → Inserts schema sql at terms → (values : Row) → put_in (table_of it) params terms rows ≡ (Int (next_rowid rows) ∷ values) ∷ []
      → (places : List ℕ) → IsKey schema (table_of it) places → (p : Row → Bool) → ((id : ℤ) (other : Row) → p other ≡ true → agree plain places other places (Int id ∷ values) ≡ true)
      → Made schema old new tree (put_next values rows) × (list_any p rows ≡ false)
  inserts_next terms is values made places key p agrees =
      let row = Int (next_rowid rows) ∷ values in
      let done = puts_one terms is row refl made in
      let there : Has (new.now.trees tree) row = subst (λ xs. Has xs row) (sym done.0.rows_are) (put_all_adds (row ∷ []) rows row (and_from _ _ (ap not done.1) refl) (inl refl)) in
      let none = no_clash schema (table_of it) at places key it.listed new.now.trees done.2 row there in
      (done.0, no_key places p (next_rowid rows) values rows up done.1 (agrees (next_rowid rows)) (subst (λ xs. clashes plain places xs row ≡ false) done.0.rows_are none))

  -- DELETE of the rows that pass
  pub deletes_where : (tests : List Term) → Deletes schema sql at tree tests → (p : Row → Bool) → ((r : Row) → passes_tests params tests r ≡ p r) → Made schema old new tree (filter (λ r. not (p r)) rows)
  deletes_where tests is p test =
      let all = deleted schema sql params old new ours is.1 count h at it.name tree it.columns it.key it.primary it.uniques it.orders it.listed it.free tests (col 1 0 ∷ []) [] no_limit is.0 (it.own old.now.trees) in
      same_made (takes schema old new (table_of it) tests (col 1 0 ∷ []) [] params all.0 up (λ r. refl) all.1 all.2) (without_passing (passes_tests params tests) p rows test)

  -- DELETE of the row with a key
  pub deletes_keyed : (tests : List Term) → Deletes schema sql at tree tests → (id : ℤ) → ((r : Row) → passes_tests params tests r ≡ has_rowid id r) → Made schema old new tree (without_rowid id rows)
  deletes_keyed tests is id test = same_made (deletes_where tests is (has_rowid id) test) (without_key id (has_rowid id) rows (λ r. refl))

  -- UPDATE of the rows that pass, each of which keeps its rowid
  pub updates_where : (tests shows : List Term) → Updates schema sql at tree tests shows → (p : Row → Bool) (change : Row → Row) → ((r : Row) → passes_tests params tests r ≡ p r)
      → ((r : Row) → Has rows r → p r ≡ true → (changed_by (table_of it) (col 1 0 ∷ shows) params r ≡ change r) × (rowid (change r) ≡ rowid r))
      → Made schema old new tree (map (λ r. if p r then change r else r) rows)
  updates_where tests shows is p change test same =
      let all = updated schema sql params old new ours is.1 count h at it.name tree it.columns it.key it.primary it.uniques it.orders it.listed it.free tests (col 1 0 ∷ shows) [] no_limit is.0 (it.own old.now.trees) in
      let changed = changed_by (table_of it) (col 1 0 ∷ shows) params in
      let each = λ (r : Row) (k : Has rows r) (passing : passes_tests params tests r ≡ true).
      let both = same r k (sym (test r) ∙ passing) in ap rowid both.0 ∙ both.1 in
      same_made (changes schema old new (table_of it) tests (col 1 0 ∷ shows) [] params all.0 up (λ r. refl) all.1 each all.2)
      (map_same _ _ rows (all_from _ rows (λ r k. if_same (passes_tests params tests) p changed change r (test r) (λ passing. (same r k passing).0))))

  -- UPDATE of the row with a key to a row
  pub updates_keyed : (tests shows : List Term) → Updates schema sql at tree tests shows → (id : ℤ) (values : Row) → ((r : Row) → passes_tests params tests r ≡ has_rowid id r)
      → ((r : Row) → rowid r ≡ Int id → changed_by (table_of it) (col 1 0 ∷ shows) params r ≡ Int id ∷ values) → Made schema old new tree (replaced (Int id ∷ values) rows)
  updates_keyed tests shows is id values test same =
      let all = updated schema sql params old new ours is.1 count h at it.name tree it.columns it.key it.primary it.uniques it.orders it.listed it.free tests (col 1 0 ∷ shows) [] no_limit is.0 (it.own old.now.trees) in
      replaces_row schema old new (table_of it) tests (col 1 0 ∷ shows) [] params all.0 up (λ r. refl) all.1 id (Int id ∷ values) test refl same all.2
