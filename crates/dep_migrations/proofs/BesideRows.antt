-- The first rows, where our tables stand beside those of others.
use Rattle.std.proofs.Common.{◌≡◌, inl, IsTrue, ℕ, ◌+◌, ◌<◌, pos, List, [], ◌∷◌, ◌++◌, if◌then◌else◌, length, map, drop, slice_get, Option, None, Some, unwrap_or, option_map, option_and_then, Ok, Err, OnOk, Result, codes, refl, sym, ap, subst, ◌∙◌, arith}
use Rattle.std.specs.List.{AllByRecursion}
use Rattle.sqlite_tied.specs.Compute.{everything}
use Rattle.sqlite.specs.Schema.{Schema}
use Rattle.sqlite.specs.Table.{Table}
use Rattle.sqlite.specs.Tree.{Trees}
use Rattle.sqlite.specs.Order.{Row}
use Rattle.sqlite_trees.specs.View.{is_int}
use Rattle.sqlite.specs.Listing.{understood, listing_schema, misses_table, if_select}
use Rattle.sqlite.specs.Command.{Command}
use Rattle.sqlite.specs.Command.TheVariants.{Insert}
use Rattle.sqlite.specs.Source.TheVariants.{Values}
use Rattle.sqlite.specs.Rowids.TheVariants.{Chosen}
use Rattle.sqlite.specs.declared.types.Value.TheVariants.{Null, Int}
use Rattle.sqlite.specs.Term.{Term, lit}
use Rattle.sqlite.specs.Effect.{Database}
use Rattle.sqlite.specs.State.{State, ExecutesInside}
use Rattle.sqlite.proofs.Callers.{IsPlain, command_of}
use Rattle.sqlite_schema.specs.Names.{table_named}
use Rattle.sqlite_ast.specs.declared.Statement.{Statement}
use Rattle.sqlite_ast.specs.declared.Statement.TheVariants as written
use Rattle.sqlite_ast.specs.declared.Conflict.TheVariants as conflict
use Rattle.sqlite_resolve.specs.declared.error.CompileError.TheVariants.{Misuse, NoSuchTable}
use Rattle.sqlite_resolve.specs.declared.compiled.Compiled.{Compiled}
use Rattle.sqlite_resolve.specs.Lowering.{Checked, and_then, or_else}
use Rattle.sqlite_resolve.specs.Compile.{compiled, first, with_command, new_rows, small}
use Rattle.sqlite_rules.specs.Lists.{Has}
use Rattle.sqlite_rules.specs.Edit.{with_rowid, put_all}
use Rattle.sqlite_rules.proofs.ListLemmas.{all_from, all_has, has_right}
use Rattle.sqlite_trees.specs.Tree.{put_row, rowid}
use Rattle.sqlite_catalog.specs.Listing.{IsSound}
use Rattle.sqlite_catalog.specs.Change.{created, next_tree, KeepsRows}
use Rattle.sqlite_catalog.proofs.StepLemmas.{table_below}
use Rattle.dep_tables.specs.Adding.{HasCounters, AddsAll, Puts}
use Rattle.dep_tables.specs.Rowids.{IsOrdered}
use Rattle.dep_tables.proofs.Adding.{AllMade, made_all, free_all, trees_for}
use Rattle.dep_tables.proofs.Values.{cast_int, cast_null}
use Rattle.dep_tables.proofs.OneStatement.{inserted}
use Rattle.dep_tables.proofs.Results.{ok_then}
use Rattle.dep_tables.specs.Schema.{our_schema, our_tables, format_table, state_table, files_index, uploads_index}
use Rattle.dep_migrations.specs.Texts.{add_format_text, add_state_text}
use Rattle.dep_tables.specs.Rows.{stored_format, stored_state}
use Rattle.dep_migrations.specs.Beside.{AreFree, with_ours, AddsIndexes}
use Rattle.dep_migrations.proofs.Placed.{ours, with_format, with_state, tables_are, state_tree, objects_tree, metadata_tree, files_tree, uploads_tree, segments_tree, timed_out_tree, blocks_tree, sha512s_tree, format_named, format_listed, state_named, state_listed, indexed_schema, indexed_rows, free_indexes}
use Rattle.dep_tables.specs.Tables.{Tables, tables_of, tables_from}
use Rattle.dep_tables.specs.Versions.{our_version}
use Rattle.dep_migrations.specs.FirstTables.{SeesTables, no_schema, first_state, new_store_tables, IsBeside, GainsOurs}

-- ---- how an INSERT is understood, by the table that its name finds

abbrev insert_of : Schema → Option ℕ → (ℕ → Option Table) → ℕ → Statement → Checked Command
insert_of schema named at base (written.Insert conflict.Abort name columns rows clauses shown) =
    and_then (or_else named NoSuchTable) (λ n. and_then (or_else (at n) NoSuchTable) (λ table. and_then (new_rows schema table base columns rows) (λ s. Ok (Insert n s))))
insert_of schema named at base _ = Err Misuse

abbrev formats_in : Option Table → List (List ℕ)
formats_in found = unwrap_or (option_map (λ t. t.stamps.formats) found) []

abbrev insert_by : Schema → Option ℕ → (ℕ → Option Table) → List ℕ → Checked Compiled
insert_by schema named at text =
    let formats = formats_in (option_and_then at named) in
    and_then (first text) (λ p. and_then (and_then (and_then (insert_of schema named at (small p.names + small formats) p.statement) (λ c. Ok (c, None))) (λ found. Ok (formats, found))) (λ plan. Ok (with_command p plan)))

abbrev inserting_by : Schema → Option ℕ → (ℕ → Option Table) → List ℕ → Checked Compiled
inserting_by schema named at text = if misses_table (insert_by schema named at text) then if_select (compiled listing_schema text) else insert_by schema named at text

abbrev Inserts : ℕ → List Term → ℕ → Checked Compiled → Type 0
Inserts n terms width r = (command_of r ≡ Insert n (Values terms width)) × IsPlain r

abbrev format_terms : List Term
format_terms = lit (Int (pos 1)) ∷ lit Null ∷ lit (Int (pos 2)) ∷ []

abbrev state_terms : List Term
state_terms = lit (Int (pos 1)) ∷ lit Null ∷ lit (Int (pos 0)) ∷ lit (Int (pos 1)) ∷ lit (Int (pos 1)) ∷ lit (Int (pos 1)) ∷ lit (Int (pos 1)) ∷ []

-- a text inserts them where its table of this name stands
inserts_there : (schema : Schema) (name text : List ℕ) (terms : List Term) (width n : ℕ) (table : Table)
    → understood schema text ≡ inserting_by schema (table_named schema name) (slice_get schema.tables) text
    → Inserts n terms width (inserting_by schema (Some n) (λ _. Some table) text)
    → table_named schema name ≡ Some n → slice_get schema.tables n ≡ Some table → Inserts n terms width (understood schema text)
inserts_there schema name text terms width n table by is named at =
    let there = subst (λ found. Inserts n terms width (inserting_by schema (Some n) (λ _. found) text)) (sym at) is in
    subst (Inserts n terms width) (sym by) (subst (λ o. Inserts n terms width (inserting_by schema o (slice_get schema.tables) text)) (sym named) there)

module _ (schema : Schema) (n k : ℕ) where
  format_by : understood schema add_format_text ≡ inserting_by schema (table_named schema (codes "format")) (slice_get schema.tables) add_format_text
  unfolding understood everything
  format_by = refl

  format_at : Inserts n format_terms 3 (inserting_by schema (Some n) (λ _. Some (record format_table { tree = k })) add_format_text)
  unfolding understood everything
  format_at = (refl, (refl, refl))

  format_is : table_named schema (codes "format") ≡ Some n → slice_get schema.tables n ≡ Some (record format_table { tree = k }) → Inserts n format_terms 3 (understood schema add_format_text)
  format_is = inserts_there schema (codes "format") add_format_text format_terms 3 n _ format_by format_at

  state_by : understood schema add_state_text ≡ inserting_by schema (table_named schema (codes "state")) (slice_get schema.tables) add_state_text
  unfolding understood everything
  state_by = refl

  state_at : Inserts n state_terms 7 (inserting_by schema (Some n) (λ _. Some (record state_table { tree = k })) add_state_text)
  unfolding understood everything
  state_at = (refl, (refl, refl))

  state_is : table_named schema (codes "state") ≡ Some n → slice_get schema.tables n ≡ Some (record state_table { tree = k }) → Inserts n state_terms 7 (understood schema add_state_text)
  state_is = inserts_there schema (codes "state") add_state_text state_terms 7 n _ state_by state_at

module _ (schema : Schema) (free : AreFree schema) (old new : State) (count : ℕ) (here : old.now.schema ≡ with_ours schema) where
  pub puts_format : ExecutesInside 0 add_format_text [] old new (Ok count) → Puts (next_tree schema) (stored_format our_version) old.now new.now
  puts_format h =
      let is = format_is (with_ours schema) (length schema.tables + 0) (next_tree schema) (format_named schema free.tables) (format_listed schema free.tables) in
      let wrote = inserted (with_ours schema) add_format_text [] old new here is.1 count h (length schema.tables + 0) _ _ _ _ _ _ _ (format_listed schema free.tables) format_terms 3 is.0 in
      let put = ap (put_all (old.now.trees (next_tree schema))) (λ i. with_rowid Chosen (old.now.trees (next_tree schema)) (cast_int (pos 1) i ∷ cast_null i ∷ cast_int (pos 2) i ∷ []) ∷ []) in
      record { schema = wrote.schema_is ∙ sym here; rows = wrote.applies.rows ∙ put; others = subst (λ (s : Schema). AllByRecursion (λ t. (t.tree ≡ next_tree schema → ⊥) → new.now.trees t.tree ≡ old.now.trees t.tree) s.tables) (sym here) wrote.applies.tables; sound = wrote.sound }

  pub puts_state : ExecutesInside 0 add_state_text [] old new (Ok count) → Puts (next_tree (with_format schema)) (stored_state first_state) old.now new.now
  puts_state h =
      let is = state_is (with_ours schema) (length schema.tables + 1) (next_tree (with_format schema)) (state_named schema free.tables) (state_listed schema free.tables) in
      let wrote = inserted (with_ours schema) add_state_text [] old new here is.1 count h (length schema.tables + 1) _ _ _ _ _ _ _ (state_listed schema free.tables) state_terms 7 is.0 in
      let put = ap (put_all (old.now.trees (next_tree (with_format schema)))) (λ i. with_rowid Chosen (old.now.trees (next_tree (with_format schema))) (cast_int (pos 1) i ∷ cast_null i ∷ cast_int (pos 0) i ∷ cast_int (pos 1) i ∷ cast_int (pos 1) i ∷ cast_int (pos 1) i ∷ cast_int (pos 1) i ∷ []) ∷ []) in
      record { schema = wrote.schema_is ∙ sym here; rows = wrote.applies.rows ∙ put; others = subst (λ (s : Schema). AllByRecursion (λ t. (t.tree ≡ next_tree (with_format schema) → ⊥) → new.now.trees t.tree ≡ old.now.trees t.tree) s.tables) (sym here) wrote.applies.tables; sound = wrote.sound }

-- ---- all of it

all_apart : {X : Type 0} (P : X → Type 0) (xs ys : List X) → AllByRecursion P (xs ++ ys) → AllByRecursion P xs × AllByRecursion P ys
all_apart P [] ys all = (tt, all)
all_apart P (x ∷ xs) ys all = let rest = all_apart P xs ys all.1 in ((all.0, rest.0), rest.1)

abbrev KeepsBut : ℕ → Trees → Trees → List Table → Type 0
KeepsBut n a b tables = AllByRecursion (λ t. (t.tree ≡ n → ⊥) → b t.tree ≡ a t.tree) tables

abbrev AreEmpty : Trees → List Table → Type 0
AreEmpty a tables = AllByRecursion (λ n. a n ≡ []) (map (λ t. t.tree) tables)

still_empty : (a b : Trees) (tables : List Table) → KeepsRows tables a b → AreEmpty a tables → AreEmpty b tables
still_empty a b [] kept none = tt
still_empty a b (t ∷ tables) kept none = (kept.0 ∙ none.0, still_empty a b tables kept.1 none.1)

-- so do tables behind two that are written to
empty_behind : (a b c : Trees) (m n : ℕ) → m < n → (tables : List Table) → KeepsBut m a b tables → KeepsBut n b c tables → AllByRecursion (λ k. n < k) (map (λ t. t.tree) tables) → AreEmpty a tables → AreEmpty c tables
empty_behind a b c m n low [] first second above none = tt
empty_behind a b c m n low (t ∷ tables) first second above none =
    (second.0 (λ e. omega (arith, e, above.0)) ∙ first.0 (λ e. omega (arith, e, low, above.0)) ∙ none.0, empty_behind a b c m n low tables first.1 second.1 above.1 none.1)

-- each table takes trees above those that were there
trees_above : (k : ℕ) (tables : List Table) (s : Schema) → k < next_tree s → AllByRecursion (λ n. k < n) (trees_for tables s)
trees_above k [] s low = tt
trees_above k (t ∷ tables) s low =
    let new = record t { tree = next_tree s } in
    (low, trees_above k tables (created s t) (omega (arith, low, table_below (created s t) new (has_right s.tables (new ∷ []) new (inl refl)))))

plainly_made : (old mid : Database) → HasCounters old.schema → AddsAll our_tables old mid → AllMade our_tables old mid
plainly_made old mid has added = made_all our_tables old mid (refl, (refl, (refl, (refl, (refl, (refl, (refl, (refl, (refl, (refl, tt)))))))))) has added

module _ (old mid named next new : Database) (added : AddsAll our_tables old mid) (both : AddsIndexes mid named) (has : HasCounters old.schema)
    (format_put : Puts (next_tree old.schema) (stored_format our_version) named next) (state_put : Puts (next_tree (created old.schema format_table)) (stored_state first_state) next new) where
  abbrev schema : Schema
  schema = old.schema

  made : AllMade our_tables old mid
  made = plainly_made old mid has added

  named_schema : named.schema ≡ with_ours schema
  named_schema = indexed_schema schema (free_all our_tables old mid added).0 mid named made.schema both

  -- the tables are still empty once their indexes are made
  indexes_kept : KeepsRows schema.tables mid.trees named.trees × KeepsRows (ours schema) mid.trees named.trees
  indexes_kept = all_apart _ schema.tables (ours schema) (subst (λ ts. KeepsRows ts mid.trees named.trees) (tables_are schema) (indexed_rows schema (free_all our_tables old mid added).0 mid named made.schema both))

  empty_at : AllByRecursion (λ n. named.trees n ≡ []) (trees_for our_tables schema)
  empty_at = still_empty mid.trees named.trees (ours schema) indexes_kept.1 made.empty

  listed_named : named.schema.tables ≡ schema.tables ++ ours schema
  listed_named = ap (λ (s : Schema). s.tables) named_schema ∙ tables_are schema

  listed_next : next.schema.tables ≡ schema.tables ++ ours schema
  listed_next = ap (λ (s : Schema). s.tables) format_put.schema ∙ listed_named

  first_kept : KeepsBut (next_tree schema) named.trees next.trees schema.tables × KeepsBut (next_tree schema) named.trees next.trees (ours schema)
  first_kept = all_apart _ schema.tables (ours schema) (subst (KeepsBut (next_tree schema) named.trees next.trees) listed_named format_put.others)

  second_kept : KeepsBut (next_tree (with_format schema)) next.trees new.trees schema.tables × KeepsBut (next_tree (with_format schema)) next.trees new.trees (ours schema)
  second_kept = all_apart _ schema.tables (ours schema) (subst (KeepsBut (next_tree (with_format schema)) next.trees new.trees) listed_next state_put.others)

  schema_is : new.schema ≡ with_ours schema
  schema_is = state_put.schema ∙ format_put.schema ∙ named_schema

  format_rows : new.trees (next_tree schema) ≡ stored_format our_version ∷ []
  format_rows = second_kept.1.0 (λ e. omega (arith, e, state_tree schema)) ∙ format_put.rows ∙ ap (put_row (stored_format our_version)) empty_at.0

  state_rows : new.trees (next_tree (with_format schema)) ≡ stored_state first_state ∷ []
  state_rows = state_put.rows ∙ ap (put_row (stored_state first_state)) (first_kept.1.1.0 (λ e. omega (arith, e, state_tree schema)) ∙ empty_at.1.0)

  -- the tables behind the first two are still empty once these have their rows
  later_empty : AllByRecursion (λ n. new.trees n ≡ []) (trees_for (drop 2 our_tables) (with_state schema))
  later_empty = empty_behind named.trees next.trees new.trees (next_tree schema) (next_tree (with_format schema)) (omega (arith, state_tree schema)) (drop 2 (ours schema)) first_kept.1.1.1 second_kept.1.1.1
      (trees_above (next_tree (with_format schema)) (drop 2 our_tables) (with_state schema) (omega (arith, state_tree schema, objects_tree schema))) empty_at.1.1

  rows_are : tables_from (next_tree schema) new.trees ≡ new_store_tables
  rows_are = λ i. record {
    format = format_rows i;
    state = (ap new.trees (sym (state_tree schema)) ∙ state_rows) i;
    objects = (ap new.trees (sym (objects_tree schema)) ∙ later_empty.0) i;
    metadata = (ap new.trees (sym (metadata_tree schema)) ∙ later_empty.1.0) i;
    files = (ap new.trees (sym (files_tree schema)) ∙ later_empty.1.1.0) i;
    uploads = (ap new.trees (sym (uploads_tree schema)) ∙ later_empty.1.1.1.0) i;
    segments = (ap new.trees (sym (segments_tree schema)) ∙ later_empty.1.1.1.1.0) i;
    timed_out = (ap new.trees (sym (timed_out_tree schema)) ∙ later_empty.1.1.1.1.1.0) i;
    blocks = (ap new.trees (sym (blocks_tree schema)) ∙ later_empty.1.1.1.1.1.1.0) i;
    sha512s = (ap new.trees (sym (sha512s_tree schema)) ∙ later_empty.1.1.1.1.1.1.1.0) i;
  }

  each_kept : (t : Table) → Has schema.tables t → new.trees t.tree ≡ old.trees t.tree
  each_kept t here =
      let low = table_below schema t here in
      all_has _ schema.tables t second_kept.0 here (λ e. omega (arith, e, low, state_tree schema)) ∙ all_has _ schema.tables t first_kept.0 here (λ e. omega (arith, e, low)) ∙ all_has _ schema.tables t indexes_kept.0 here ∙ all_has _ schema.tables t made.others here

  pub represents_beside : (new.schema ≡ with_ours old.schema) × IsBeside old new.trees
  represents_beside = (schema_is, record { sound = subst (λ s. IsSound s new.trees) schema_is state_put.sound; rows = rows_are; others = all_from _ schema.tables each_kept })

gains_if : {A E : Type 0} (r : Result A E) (old new : Database) → AreFree old.schema → (HasCounters old.schema → OnOk r ((new.schema ≡ with_ours old.schema) × IsBeside old new.trees)) → OnOk r (GainsOurs old new)
gains_if (Ok x) old new free after = record { free = free; made = after }
gains_if (Err e) old new free after = tt

-- where the tables and the indexes were made, their names were free
pub free_before : (old mid named : Database) → AddsAll our_tables old mid → AddsIndexes mid named → AreFree old.schema
free_before old mid named added both =
    let all = free_all our_tables old mid added in
    let indexes = free_indexes mid named both in
    record { tables = all.0; files_index = all.1 files_index.name indexes.0; uploads_index = all.1 uploads_index.name indexes.1 }

pub gains : {A E : Type 0} (r : Result A E) (old mid named new : Database) → AddsAll our_tables old mid → AddsIndexes mid named
    → ((others : Schema) → AreFree others → named.schema ≡ with_ours others
    → OnOk r ((next : Database) × Puts (next_tree others) (stored_format our_version) named next × Puts (next_tree (created others format_table)) (stored_state first_state) next new))
    → OnOk r (GainsOurs old new)
gains r old mid named new added both rows =
    let all = free_all our_tables old mid added in
    let free = free_before old mid named added both in
    gains_if r old new free (λ has.
    ok_then r (rows old.schema free (indexed_schema old.schema all.0 mid named (plainly_made old mid has added).schema both)) (λ put. represents_beside old mid named put.0 new added both has put.1 put.2))

-- ---- in an empty database

pub empty_ours : with_ours no_schema ≡ our_schema
unfolding everything
empty_ours = refl

sees_first : (old new : State) → old.now.schema ≡ no_schema → GainsOurs old.now new.now → SeesTables new new_store_tables
sees_first old new empty gained =
    let after = gained.made (subst HasCounters (sym empty) refl) in
    let schema : with_ours old.now.schema ≡ our_schema = ap with_ours empty ∙ empty_ours in
    let rows : tables_of new ≡ new_store_tables = subst (λ s. tables_from (next_tree s) new.now.trees ≡ new_store_tables) empty after.1.rows in
    let one : (tree : List Row) (row : Row) → tree ≡ row ∷ [] → IsTrue (is_int (rowid row)) → IsOrdered tree = λ tree row is keyed. subst IsOrdered (sym is) ((tt, tt), (keyed, tt)) in
    let none : (tree : List Row) → tree ≡ [] → IsOrdered tree = λ tree is. subst IsOrdered (sym is) (tt, tt) in
    record {
      ours = record {
        schema = after.0 ∙ schema;
        trees = record {
          sound = subst (λ s. IsSound s new.now.trees) schema after.1.sound;
          ordered = (one _ _ (ap (λ (t : Tables). t.format) rows) refl, (one _ _ (ap (λ (t : Tables). t.state) rows) refl, (none _ (ap (λ (t : Tables). t.objects) rows), (none _ (ap (λ (t : Tables). t.metadata) rows), (none _ (ap (λ (t : Tables). t.files) rows), (none _ (ap (λ (t : Tables). t.uploads) rows), (none _ (ap (λ (t : Tables). t.segments) rows), (none _ (ap (λ (t : Tables). t.timed_out) rows), (none _ (ap (λ (t : Tables). t.blocks) rows), (none _ (ap (λ (t : Tables). t.sha512s) rows), tt))))))))));
        };
      };
      rows = rows;
    }

pub first_seen : {A E : Type 0} (r : Result A E) (old new : State) → old.now.schema ≡ no_schema → OnOk r (GainsOurs old.now new.now) → OnOk r (SeesTables new new_store_tables)
first_seen r old new empty gained = ok_then r gained (sees_first old new empty)
