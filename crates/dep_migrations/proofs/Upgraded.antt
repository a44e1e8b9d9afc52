-- What the statements of an upgrade make of the tables of version 1.
use Rattle.std.proofs.Common.{◌≡◌, ◌<◌, ◌+◌, ◌^◌, ℕ, true, false, List, [], ◌∷◌, ◌++◌, take, get_or, length, Result, Err, refl, sym, ap, subst, ◌∙◌}
use Rattle.std.specs.List.{AllByRecursion}
use Rattle.std.proofs.Math.Decide.{dec_lt}
use Rattle.std.proofs.lemmas.List.{take_more, map-append}
use Rattle.std.proofs.lemmas.List.Elements.{Contains-get_or}
use Rattle.sqlite_tied.specs.Compute.{everything}
use Rattle.sqlite.specs.Order.{Row}
use Rattle.sqlite.specs.Schema.{Schema}
use Rattle.sqlite.specs.Table.{Table}
use Rattle.sqlite.specs.Effect.{Database}
use Rattle.sqlite.specs.State.{State}
use Rattle.sqlite.specs.Tree.{Trees}
use Rattle.sqlite.specs.Held.{state}
use Rattle.sqlite_catalog.specs.Listing.{IsSound}
use Rattle.sqlite_catalog.specs.Change.{created, next_tree, KeepsRows}
use Rattle.dep_tables.specs.Rowids.{AreOrdered, IsOrdered, put_next}
use Rattle.dep_tables.specs.Adding.{HasCounters, AreFreeFor, Adds}
use Rattle.dep_tables.proofs.Adding.{all_front}
use Rattle.dep_tables.specs.Schema.{our_schema, our_tables, older_schema, sha512s_table, files_index, uploads_index}
use Rattle.dep_tables.specs.Rows.{sha512_values}
use Rattle.dep_tables.specs.Texts.{insert_sha512_text}
use Rattle.dep_tables.specs.declared.owner.BlockOwner.TheVariants as owner
use Rattle.dep_tables.specs.declared.sha512s.FileSha512.{FileSha512}
use Rattle.dep_tables.specs.Tables.{Tables, tables_of, IsOlder}
use Rattle.dep_tables.specs.Clauses.{CommitsNothing, FailsToRun}
use Rattle.dep_types.specs.declared.store_fault.StoreFault.{StoreFault}
use Rattle.dep_types.specs.declared.store_fault.StoreFault.TheVariants.{Store}
use Rattle.dep_migrations.specs.Causes.{FailsSince}
use Rattle.dep_migrations.proofs.Causes.{fails_then}
use Rattle.dep_row_maps.specs.Owned.{put_each}
use Rattle.dep_row_maps.specs.Sha512s.{value_rows}
use Rattle.dep_migrations.specs.Beside.{with_tables, AddsIndexes, AreNewNamesFree}
use Rattle.dep_migrations.specs.FirstTables.{SeesTables, no_schema}
use Rattle.dep_migrations.specs.Upgrading.{with_no_sha512s, with_sha512s, FailsToPut}
use Rattle.dep_migrations.specs.Upgrading.FailsToPut.{no_number, not_put}
use Rattle.dep_migrations.proofs.Placed.{indexed_schema, indexed_sound, indexed_rows, free_indexes, keeps_then}
use Rattle.dep_migrations.proofs.BesideRows.{empty_ours}

-- with `sha512s` behind them, the tables of version 1 are those of version 2, which have no index yet
one_later : created older_schema sha512s_table ≡ with_tables no_schema
unfolding everything
one_later = refl

none_used : AreFreeFor our_tables no_schema
none_used = (refl, (refl, (refl, (refl, (refl, (refl, (refl, (refl, (refl, (refl, tt))))))))))

keep_ordered : (a b : Trees) (tables : List Table) → KeepsRows tables a b → AreOrdered tables a → AreOrdered tables b
keep_ordered a b [] kept up = tt
keep_ordered a b (t ∷ tables) kept up = (subst IsOrdered (sym kept.0) up.0, keep_ordered a b tables kept.1 up.1)

all_more : (P : Table → Type 0) (tables : List Table) (t : Table) → AllByRecursion P tables → P t → AllByRecursion P (tables ++ t ∷ [])
all_more P [] t all one = (one, tt)
all_more P (u ∷ tables) t all one = (all.0, all_more P tables t all.1 one)

-- the table and the indexes are made, and the other tables keep their rows
pub extends : (old mid new : State) → IsOlder old → Adds sha512s_table old.now mid.now → AddsIndexes mid.now new.now → SeesTables new (with_no_sha512s (tables_of old))
extends old mid new older added both =
    let made = added.made (subst HasCounters (sym older.schema) refl) in
    let here : mid.now.schema ≡ with_tables no_schema = made.schema ∙ ap (λ s. created s sha512s_table) older.schema ∙ one_later in
    let schema : new.now.schema ≡ our_schema = indexed_schema no_schema none_used mid.now new.now here both ∙ empty_ours in
    let first = subst (λ (s : Schema). KeepsRows s.tables old.now.trees mid.now.trees) older.schema made.others in
    let last = all_front (λ t. new.now.trees t.tree ≡ mid.now.trees t.tree) older_schema.tables (record sha512s_table { tree = 12 }) (indexed_rows no_schema none_used mid.now new.now here both) in
    let kept = keeps_then older_schema.tables old.now.trees mid.now.trees new.now.trees first last.0 in
    let none : mid.now.trees 12 ≡ [] = subst (λ (s : Schema). mid.now.trees (next_tree s) ≡ []) older.schema made.empty in
    let empty : new.now.trees 12 ≡ [] = last.1 ∙ none in
    record {
      ours = record {
        schema = schema;
        trees = record {
          sound = subst (λ s. IsSound s new.now.trees) schema (indexed_sound no_schema none_used mid.now new.now here both);
          ordered = all_more (λ t. IsOrdered (new.now.trees t.tree)) older_schema.tables (record sha512s_table { tree = 12 })
              (keep_ordered old.now.trees new.now.trees older_schema.tables kept older.trees.ordered) (subst IsOrdered (sym empty) (tt, tt));
        };
      };
      rows = λ i. record {
        format = kept.0 i;
        state = kept.1.0 i;
        objects = kept.1.1.0 i;
        metadata = kept.1.1.1.0 i;
        files = kept.1.1.1.1.0 i;
        uploads = kept.1.1.1.1.1.0 i;
        segments = kept.1.1.1.1.1.1.0 i;
        timed_out = kept.1.1.1.1.1.1.1.0 i;
        blocks = kept.1.1.1.1.1.1.1.1.0 i;
        sha512s = empty i;
      };
    }

-- where both were made, the names were free
pub free_new : (old mid new : Database) → Adds sha512s_table old mid → AddsIndexes mid new → AreNewNamesFree old.schema
free_new old mid new added both =
    let indexes = free_indexes mid new both in
    record { table = added.free; files_index = added.keeps files_index.name indexes.0; uploads_index = added.keeps uploads_index.name indexes.1 }

-- they are not in the tables of version 2
pub new_not_free : AreNewNamesFree our_schema → ⊥
unfolding everything
new_not_free free = let no : true ≡ false = free.table in absurd (cc)

put_each-append : (xs ys rows : List Row) → put_each (xs ++ ys) rows ≡ put_each ys (put_each xs rows)
put_each-append [] ys rows = refl
put_each-append (x ∷ xs) ys rows = put_each-append xs ys (put_next x rows)

-- one more value is put in
pub one_more_value : (old mid new : Tables) (values : List FileSha512) (k : ℕ) (d : FileSha512) → k < length values
    → mid ≡ with_sha512s (take k values) old → new ≡ record mid { sha512s = put_next (sha512_values (owner.File (get_or values k d).file) (get_or values k d).value) mid.sha512s }
    → new ≡ with_sha512s (take (k + 1) values) old
one_more_value old mid new values k d within was now =
    let value = get_or values k d in
    let one = sha512_values (owner.File value.file) value.value in
    let rows : put_next one (put_each (value_rows (take k values)) old.sha512s) ≡ put_each (value_rows (take (k + 1) values)) old.sha512s =
    sym (put_each-append (value_rows (take k values)) (one ∷ []) old.sha512s)
    ∙ ap (λ rs. put_each rs old.sha512s) (sym (ap value_rows (take_more values k d within) ∙ map-append (λ (v : FileSha512). sha512_values (owner.File v.file) v.value) (take k values) (value ∷ []))) in
    now ∙ ap (λ (t : Tables). record t { sha512s = put_next one t.sha512s }) was ∙ ap (λ rs. record old { sha512s = rs }) rows

-- ---- why an upgrade fails

pub reported_fault : {A : Type 0} {fault other : StoreFault} → ◌≡◌ {A = Result A StoreFault} (Err fault) (Err other) → fault ≡ other
reported_fault is = cc

module _ {T : Type 0} (state : T → State) (values : List FileSha512) where
  abbrev Unput : FileSha512 → State → State → StoreFault → Type 0
  Unput v = FailsToRun insert_sha512_text (sha512_values (owner.File v.file) v.value)

  -- a value is not put in
  pub put_fails : (old mid new : T) → CommitsNothing (state old) (state mid) → (k : ℕ) (d : FileSha512) → k < length values
      → (fault : StoreFault) → ((get_or values k d).file < 2 ^ 63 → Unput (get_or values k d) (state mid) (state new) fault) → (¬ ((get_or values k d).file < 2 ^ 63) → fault ≡ Store)
      → FailsSince state (FailsToPut values) old new fault
  put_fails old mid new since k d within fault ran refused =
      let v = get_or values k d in
      let among = Contains-get_or values k d within in
      fails_then state old mid new since (FailsToPut values) fault (elim (dec_lt v.file (2 ^ 63)) [
        | yes below ↦ not_put v among (ran below)
        | no above ↦ no_number v among above (refused above)
      ])
