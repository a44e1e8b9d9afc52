-- How the texts that make the tables are understood where there are tables of others.
use Rattle.std.proofs.Common.{◌≡◌, ℕ, Bool, true, false, ◌+◌, ◌<◌, ◌≤◌, zero, suc, List, [], ◌∷◌, length, map, take, get_or, IsTrue, arith, if◌then◌else◌, Option, None, Some, Ok, Err, codes, refl, sym, ap, subst, ◌∙◌}
use Rattle.std.proofs.lemmas.List.{take_more, get_or-map, length-map}
use Rattle.std.specs.Option.{option_or}
use Rattle.std.specs.Prelude.{is_some}
use Rattle.sqlite_tied.specs.Compute.{everything}
use Rattle.sqlite.specs.Schema.{Schema}
use Rattle.sqlite.specs.Table.{Table}
use Rattle.sqlite.specs.Listing.{understood, listing_schema, misses_table, if_select}
use Rattle.sqlite.specs.Command.{Command}
use Rattle.sqlite.specs.Command.TheVariants.{CreateTable, Nothing}
use Rattle.sqlite.specs.State.{State, HasCleanDisk, ExecutesInside, text_of}
use Rattle.std.specs.Borrow.{Bor}
use Rattle.sqlite.proofs.Callers.{IsPlain, command_of, statement_of}
use Rattle.sqlite_schema.specs.Names.{table_named, index_named, view_named}
use Rattle.sqlite_resolve.specs.declared.error.CompileError.TheVariants.{Unsupported, Exists}
use Rattle.sqlite_resolve.specs.declared.compiled.Compiled.{Compiled}
use Rattle.sqlite_syntax.specs.declared.statement.Parsed.{Parsed}
use Rattle.sqlite_resolve.specs.Lowering.{Checked, and_then}
use Rattle.sqlite_resolve.specs.Compile.{compiled, first, is_attached, with_command, table_defined_by}
use Rattle.dep_tables.specs.Adding.{Adds, AddsAll}
use Rattle.dep_tables.proofs.Adding.{IsMaking, adds, adds_append}
use Rattle.dep_tables.proofs.Chains.{Stays, clean_before, stays_put, stays_then, stays_ok}
use Rattle.dep_tables.specs.Clauses.{StaysWithin, FailsToRun}
use Rattle.dep_types.specs.declared.store_fault.StoreFault.{StoreFault}
use Rattle.dep_migrations.specs.Faults.{FailsToCreate}
use Rattle.dep_tables.specs.Schema.{our_tables, format_table, state_table, objects_table, metadata_table, files_table, uploads_table, segments_table, timed_out_table, blocks_table, sha512s_table}
use Rattle.dep_migrations.specs.Texts.{create_texts, create_format_text, create_state_text, create_objects_text, create_metadata_text, create_files_text, create_uploads_text, create_segments_text, create_timed_out_text, create_blocks_text, create_sha512s_text}

-- what a schema has of a name: an object that is kept as it is, a table, a view, an index
pub record Taken : Type 0 where
  pub attached : Bool
  pub table : Option ℕ
  pub view : Option ℕ
  pub index : Option ℕ

abbrev having : Bool → Option ℕ → Option ℕ → Option ℕ → Taken
having attached table view index = record { attached = attached; table = table; view = view; index = index }

abbrev taken : Schema → List ℕ → Taken
taken schema name = having (is_attached schema name) (table_named schema name) (view_named schema name) (index_named schema name)

abbrev making : Taken → Checked Command
making has = if has.attached then Err Unsupported else and_then (if is_some has.index then Err Exists else (if is_some (option_or has.table has.view) then Err Exists else Ok true)) (λ is_new. if is_new then Ok CreateTable else Ok Nothing)

abbrev compiled_by : Taken → Checked Parsed → Checked Compiled
compiled_by has read = and_then read (λ p. and_then (and_then (and_then (making has) (λ c. Ok (c, None))) (λ found. Ok ([], found))) (λ plan. Ok (with_command p plan)))

abbrev understood_by : Taken → Checked Parsed → Checked Compiled → Checked Compiled
understood_by has read listed = if misses_table (compiled_by has read) then if_select listed else compiled_by has read

abbrev IsMakingText : List ℕ → Checked Compiled → Type 0
IsMakingText text r = (command_of r ≡ CreateTable) × IsPlain r × (statement_of text r ≡ text)

abbrev making_of : Parsed → Compiled
making_of p = with_command p ([], (CreateTable, None))

-- where nothing is in its way, the text makes a table: all of it is one statement
abbrev Makes : List ℕ → Checked Parsed → Type 0
Makes text read = and_then read (λ p. Ok (text_of text (making_of p))) ≡ Ok text

only_makes : (text : List ℕ) (read : Checked Parsed) (listed : Checked Compiled) → Makes text read → (a : Bool) (t v i : Option ℕ) (c : Compiled) → understood_by (having a t v i) read listed ≡ Ok c → IsMakingText text (understood_by (having a t v i) read listed)
only_makes text (Ok p) listed makes false None None None c h = (refl, (refl, refl), cc)
only_makes text _ listed makes _ _ _ (Some i) c h = absurd (cc)
only_makes text _ listed makes _ _ _ _ c h = absurd (cc)

-- the text makes this table, wherever nothing is in its way
record MakesTable (text : List ℕ) (table : Table) : Type 0 where
  -- it goes by what the schema has of the table's name
  by : (schema : Schema) → understood schema text ≡ understood_by (taken schema table.name) (first text) (compiled listing_schema text)
  makes : Makes text (first text)
  defined : table_defined_by text ≡ Ok (record table { tree = 0 })
  uncounted : table.is_counted ≡ false

adds_table : (text : List ℕ) (table : Table) → MakesTable text table → (old new : State) (count : ℕ) → ExecutesInside 0 text [] old new (Ok count) → Adds table old.now new.now
adds_table text table is old new count h =
    let added = adds text (record table { tree = 0 }) old new count is.defined is.uncounted h making in
    record {
      free = added.free;
      keeps = added.keeps;
      made = λ has. let made = added.made has in record { schema = made.schema; empty = made.empty; others = made.others; sound = made.sound };
    }
  where
    making : (c : Compiled) → understood old.now.schema text ≡ Ok c → IsMaking text old
    making c goes =
        let schema = old.now.schema in
        let name = table.name in
        subst (IsMakingText text) (sym (is.by schema))
        (only_makes text (first text) (compiled listing_schema text) is.makes (is_attached schema name) (table_named schema name) (view_named schema name) (index_named schema name) c (sym (is.by schema) ∙ goes))

-- ---- all of them, one after another

abbrev Making : Type 0
Making = List ℕ × Table

abbrev all_makings : List Making
all_makings =
    (create_format_text, format_table) ∷ (create_state_text, state_table) ∷ (create_objects_text, objects_table) ∷ (create_metadata_text, metadata_table) ∷ (create_files_text, files_table)
    ∷ (create_uploads_text, uploads_table) ∷ (create_segments_text, segments_table) ∷ (create_timed_out_text, timed_out_table) ∷ (create_blocks_text, blocks_table) ∷ (create_sha512s_text, sha512s_table) ∷ []

-- each text makes its table, said of all of them at once
record MakeEach (makings : List Making) : Type 0 where
  by : (schema : Schema)
      → map (λ (m : Making). understood schema m.0) makings ≡ map (λ (m : Making). understood_by (taken schema m.1.name) (first m.0) (compiled listing_schema m.0)) makings
  makes : map (λ (m : Making). and_then (first m.0) (λ p. Ok (text_of m.0 (making_of p)))) makings ≡ map (λ (m : Making). Ok m.0) makings
  defined : map (λ (m : Making). table_defined_by m.0) makings ≡ map (λ (m : Making). Ok (record m.1 { tree = 0 })) makings
  uncounted : map (λ (m : Making). m.1.is_counted) makings ≡ map (λ (m : Making). false) makings

each_makes : MakeEach all_makings
unfolding understood everything
each_makes = record { by = λ schema. refl; makes = refl; defined = refl; uncounted = refl }

same_head : {A : Type 0} {x y : A} {xs ys : List A} → x ∷ xs ≡ y ∷ ys → x ≡ y
same_head e = cc e

same_tail : {A : Type 0} {x y : A} {xs ys : List A} → x ∷ xs ≡ y ∷ ys → xs ≡ ys
same_tail e = cc e

makes_at : (makings : List Making) → MakeEach makings → (n : ℕ) (text : List ℕ) (table : Table) → n < length makings
    → MakesTable (get_or (map (λ (m : Making). m.0) makings) n text) (get_or (map (λ (m : Making). m.1) makings) n table)
makes_at [] each n text table below = absurd (omega arith)
makes_at (m ∷ makings) each zero _ _ below = record { by = λ schema. same_head (each.by schema); makes = same_head each.makes; defined = same_head each.defined; uncounted = same_head each.uncounted }
makes_at (m ∷ makings) each (suc n) text table below =
    makes_at makings (record { by = λ schema. same_tail (each.by schema); makes = same_tail each.makes; defined = same_tail each.defined; uncounted = same_tail each.uncounted }) n text table (omega arith)

-- the text of the tenth table makes it, wherever nothing is in its way
pub adds_sha512s : (old new : State) → (count : ℕ) × ExecutesInside 0 create_sha512s_text [] old new (Ok count) → Adds sha512s_table old.now new.now
adds_sha512s old new ran = adds_table create_sha512s_text sha512s_table (makes_at all_makings each_makes 9 [] format_table (omega arith)) old new ran.0 ran.1

-- the tables of the first of these texts are made, in a transaction that goes on
pub record AreMadeTo {T L : Type 0} (lenders : T → L) (state : T → State) (texts : List (Bor (List ℕ))) (n : ℕ) (old new : T) : Type 0 where
  pub texts_are : map (λ t. t.now) texts ≡ create_texts
  pub adds : HasCleanDisk (state new) → IsTrue (state old).in_transaction → AddsAll (take n our_tables) (state old).now (state new).now
  pub stays : Stays lenders state old new

module _ {T L : Type 0} (lenders : T → L) (state : T → State) (texts : List (Bor (List ℕ))) where
  pub none_made : (old : T) → map (λ t. t.now) texts ≡ create_texts → AreMadeTo lenders state texts 0 old old
  none_made old are = record {
    texts_are = are;
    adds = λ clean inside. refl;
    stays = stays_put lenders state old (Ok tt);
  }

  module _ (n : ℕ) (old new : T) where
    -- one more, by its text
    pub one_made : (mid : T) (text : Bor (List ℕ)) → n < 10 → AreMadeTo lenders state texts n old mid → {A E : Type 0} {x : A} → StaysWithin {A = A} {E = E} lenders state mid new (Ok x)
        → (HasCleanDisk (state new) → IsTrue (state mid).in_transaction → (count : ℕ) × ExecutesInside 0 (get_or texts n text).now [] (state mid) (state new) (Ok count))
        → AreMadeTo lenders state texts (n + 1) old new
    one_made mid text below made stays runs =
        let count = simp length-map at (ap length made.texts_are) in
        let is : (get_or texts n text).now ≡ get_or create_texts n [] = sym (get_or-map (λ t. t.now) texts n text [] (omega arith)) ∙ ap (λ ts. get_or ts n []) made.texts_are in
        record {
          texts_are = made.texts_are;
          adds = λ clean inside.
              let before = clean_before stays clean in
              let ran = runs clean (made.stays.inside before inside) in
              let added = adds_table _ _ (makes_at all_makings each_makes n [] format_table below) (state mid) (state new) ran.0
              (subst (λ t. ExecutesInside 0 t [] (state mid) (state new) (Ok ran.0)) is ran.1) in
              subst (λ tables. AddsAll tables (state old).now (state new).now) (sym (take_more our_tables n format_table below))
              (adds_append (take n our_tables) (get_or our_tables n format_table ∷ []) (state old).now (state mid).now (state new).now (made.adds before inside)
              ((state new).now, added, refl));
          stays = stays_ok (stays_then made.stays stays);
        }

    -- the next one is not, since its text failed
    pub one_failed : (mid : T) (text : Bor (List ℕ)) (fault : StoreFault) → n < 10 → AreMadeTo lenders state texts n old mid → HasCleanDisk (state mid) → IsTrue (state old).in_transaction
        → FailsToRun (get_or texts n text).now [] (state mid) (state new) fault → FailsToCreate state old new fault
    one_failed mid text fault below made clean inside failed =
        let count = simp length-map at (ap length made.texts_are) in
        let is : (get_or texts n text).now ≡ get_or create_texts n [] = sym (get_or-map (λ t. t.now) texts n text [] (omega arith)) ∙ ap (λ ts. get_or ts n []) made.texts_are in
        record {
          at = mid;
          since = made.stays.survives;
          by = (n, below, made.adds clean inside, subst (λ t. FailsToRun t [] (state mid) (state new) fault) is failed);
        }

    -- no text is behind the tenth
    pub all_made : n ≤ 10 → 10 ≤ n → AreMadeTo lenders state texts n old new → AreMadeTo lenders state texts 10 old new
    all_made within ended made = let is : n ≡ 10 = omega arith in subst (λ k. AreMadeTo lenders state texts k old new) is made
