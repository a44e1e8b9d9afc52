-- How the texts that make the indexes are understood, whatever tables there are.
use Rattle.std.proofs.Common.{◌≡◌, ℕ, Bool, true, false, if◌then◌else◌, ◌||◌, List, [], slice_get, Option, None, Some, is_some, Ok, Err, refl, sym, ap, subst, ◌∙◌}
use Rattle.std.specs.Option.{option_or}
use Rattle.sqlite_tied.specs.Compute.{everything}
use Rattle.sqlite.specs.Schema.{Schema}
use Rattle.sqlite.specs.Table.{Table}
use Rattle.sqlite.specs.Command.{Command}
use Rattle.sqlite.specs.Command.TheVariants.{CreateIndex, Nothing}
use Rattle.sqlite.specs.Listing.{understood, reads_listing, listing_schema, if_select, is_select}
use Rattle.sqlite.specs.State.{State, ExecutesInside}
use Rattle.sqlite.proofs.Callers.{IsPlain, command_of, statement_of}
use Rattle.sqlite_schema.specs.declared.schema.Index.{Index}
use Rattle.sqlite_schema.specs.Names.{table_named, index_named, view_named}
use Rattle.sqlite_ast.specs.declared.CreateIndex.{CreateIndex as Definition}
use Rattle.sqlite_ast.specs.declared.Statement.TheVariants as written
use Rattle.sqlite_syntax.specs.declared.statement.Parsed.{Parsed}
use Rattle.sqlite_resolve.specs.declared.compiled.Compiled.{Compiled}
use Rattle.sqlite_resolve.specs.declared.error.CompileError.{CompileError}
use Rattle.sqlite_resolve.specs.declared.error.CompileError.TheVariants.{NoSuchTable, Misuse, Exists}
use Rattle.sqlite_resolve.specs.Lowering.{Checked, and_then, or_else}
use Rattle.sqlite_resolve.specs.Body.{table_at}
use Rattle.sqlite_resolve.specs.Define as define
use Rattle.sqlite_resolve.specs.Compile.{compiled, first, with_command, planned, meaning, command, returning, timed, target, is_reserved, create_index, creates, index_in, index_defined_by}
use Rattle.sqlite_catalog.specs.Change.{is_used}
use Rattle.dep_tables.proofs.Adding.{understood_of}
use Rattle.dep_tables.proofs.Indexed.{indexes, indexed_keeps}
use Rattle.dep_tables.specs.Schema.{files_table, files_index, uploads_table, uploads_index}
use Rattle.dep_migrations.specs.Beside.{AddsIndex}
use Rattle.dep_migrations.specs.Texts.{index_files_text, index_uploads_text}

-- ---- a step that went on

went_on : {A B : Type 0} (r : Checked A) (f : A → Checked B) (b : B) → and_then r f ≡ Ok b → (a : A) × (r ≡ Ok a) × (f a ≡ Ok b)
went_on (Ok a) f b h = (a, refl, h)
went_on (Err e) f b h = absurd (cc)

unless : {A : Type 0} (test : Bool) (e : CompileError) (r : Checked A) (a : A) → (if test then Err e else r) ≡ Ok a → (test ≡ false) × (r ≡ Ok a)
unless true e r a h = absurd (cc)
unless false e r a h = (refl, h)

the_ok : {A : Type 0} {a b : A} → ◌≡◌ {A = Checked A} (Ok a) (Ok b) → b ≡ a
the_ok is = cc

was_there : {A : Type 0} (o : Option A) (e : CompileError) (a : A) → or_else o e ≡ Ok a → o ≡ Some a
was_there (Some x) e a h = cc
was_there None e a h = absurd (cc)

-- ---- what CREATE INDEX is compiled to

-- the index is one of a table that is there, and nothing has its name
record Creates (schema : Schema) (def : Definition) (made : Command) : Type 0 where
  at : ℕ
  table : Table
  index : Index
  named : table_named schema def.table ≡ Some at
  listed : slice_get schema.tables at ≡ Some table
  defined : define.index table def ≡ Ok index
  is : made ≡ CreateIndex at
  free : is_used schema def.name ≡ false

unused : (t i v : Option ℕ) → is_some (option_or t v) ≡ false → is_some i ≡ false → (is_some t || is_some i || is_some v) ≡ false
unused None None None other same = refl
unused _ _ _ other same = absurd (cc)

was_new : (name : List ℕ) (same other : Option ℕ) (is_new : Bool) → creates false name same other ≡ Ok is_new → (is_new ≡ true) × (is_some other ≡ false) × (is_some same ≡ false)
unfolding creates
was_new name same other is_new h =
    let one = unless (is_reserved name) Misuse (if is_some other then Err Exists else (if is_some same then Err Exists else Ok true)) is_new h in
    let two = unless (is_some other) Exists (if is_some same then Err Exists else Ok true) is_new one.1 in
    let three = unless (is_some same) Exists (Ok true) is_new two.1 in
    (the_ok three.1, two.0, three.0)

module _ (schema : Schema) (def : Definition) where
  abbrev if_new : ℕ → Table → Bool → Checked Command
  if_new at table is_new = if is_new then and_then (define.index table def) (λ _. Ok (CreateIndex at)) else Ok Nothing

  abbrev of_table : ℕ → Table → Checked Command
  of_table at table = and_then (creates def.if_missing def.name (index_named schema def.name) (option_or (table_named schema def.name) (view_named schema def.name))) (if_new at table)

  abbrev of_target : ℕ → Checked Command
  of_target at = and_then (table_at schema at) (of_table at)

  creates_only : (made : Command) → def.if_missing ≡ false → create_index schema def ≡ Ok made → Creates schema def made
  unfolding create_index
  creates_only made once h =
      let same = index_named schema def.name in
      let other = option_or (table_named schema def.name) (view_named schema def.name) in
      let one = unless (is_reserved def.table) Misuse (and_then (target schema def.table) of_target) made h in
      let (at, at_is, goes) = went_on (target schema def.table) of_target made one.1 in
      let (table, table_is, makes) = went_on (table_at schema at) (of_table at) made goes in
      let (is_new, new_is, last) = went_on (creates def.if_missing def.name same other) (if_new at table) made makes in
      let new = was_new def.name same other is_new (subst (λ b. creates b def.name same other ≡ Ok is_new) once new_is) in
      let (index, index_is, is) = went_on (define.index table def) (λ _. Ok (CreateIndex at)) made (subst (λ b. if_new at table b ≡ Ok made) new.0 last) in
      record {
        at = at;
        table = table;
        index = index;
        named = was_there (table_named schema def.table) NoSuchTable at at_is;
        listed = was_there (slice_get schema.tables at) NoSuchTable table table_is;
        defined = index_is;
        is = the_ok is;
        free = unused (table_named schema def.name) (index_named schema def.name) (view_named schema def.name) new.1 new.2;
      }

-- how a text that makes an index is read
pub record ReadsIndex (text : List ℕ) (table : Table) (index : Index) : Type 0 where
  pub parsed : Parsed
  pub def : Definition
  pub read : first text ≡ Ok parsed
  pub statement : parsed.statement ≡ written.CreateIndex def
  pub formats : parsed.formats ≡ []
  pub once : def.if_missing ≡ false
  pub named : def.name ≡ index.name
  pub of : def.table ≡ table.name
  pub whole : (made : Command) → statement_of text (Ok (with_command parsed ([], (made, None)))) ≡ text
  pub defined : (tree : ℕ) → index_defined_by (record table { tree = tree }) text ≡ Ok (record index { tree = 0; table = tree })

only_this : (x c : Compiled) (b : Bool) → is_select x.command ≡ b → ◌≡◌ {A = Checked Compiled} (if b then Ok x else Err NoSuchTable) (Ok c) → (x ≡ c) × (is_select c.command ≡ true)
only_this x c false is h = absurd (cc)
only_this x c true is h = let same : x ≡ c = sym (the_ok h) in (same, subst (λ (k : Compiled). is_select k.command ≡ true) same is)

only_select : (r : Checked Compiled) (c : Compiled) → if_select r ≡ Ok c → (r ≡ Ok c) × (is_select c.command ≡ true)
only_select (Err e) c h = absurd (cc)
only_select (Ok x) c h = let is = only_this x c (is_select x.command) refl h in (ap Ok is.0, is.1)

module _ (text : List ℕ) (table : Table) (index : Index) (it : ReadsIndex text table index) where
  abbrev reported : Command → Compiled
  reported made = with_command it.parsed ([], (made, None))

  compiled_in : (schema : Schema)
      → compiled schema text ≡ and_then (and_then (and_then (create_index schema it.def) (λ c. Ok (c, None))) (λ found. Ok ([], found))) (λ plan. Ok (with_command it.parsed plan))
  unfolding compiled planned meaning command returning timed
  compiled_in schema = rw (it.read, it.statement, it.formats) refl

  compiles : (schema : Schema) (c : Compiled) → compiled schema text ≡ Ok c → (made : Command) × (c ≡ reported made) × Creates schema it.def made
  compiles schema c h =
      let (plan, plan_is, last) = went_on (and_then (and_then (create_index schema it.def) (λ c. Ok (c, None))) (λ found. Ok ([], found))) (λ plan. Ok (with_command it.parsed plan)) c (sym (compiled_in schema) ∙ h) in
      let (found, found_is, next) = went_on (and_then (create_index schema it.def) (λ c. Ok (c, None))) (λ found. Ok ([], found)) plan plan_is in
      let (made, made_is, first) = went_on (create_index schema it.def) (λ c. Ok (c, None)) found found_is in
      (made, the_ok last ∙ ap (with_command it.parsed) (the_ok next ∙ ap (λ x. ([], x)) (the_ok first)), creates_only schema it.def made it.once made_is)

  listed_too : (c : Compiled) → if_select (compiled listing_schema text) ≡ Ok c → ⊥
  listed_too c h =
      let only = only_select (compiled listing_schema text) c h in
      let (made, is, does) = compiles listing_schema c only.0 in
      let no : is_select (CreateIndex does.at) ≡ true = subst (λ k. is_select k ≡ true) (ap (λ (x : Compiled). x.command) is ∙ does.is) only.1 in
      cc

  understands : (schema : Schema) (c : Compiled) → understood schema text ≡ Ok c → (made : Command) × (c ≡ reported made) × Creates schema it.def made
  unfolding understood
  understands schema c h = go (reads_listing schema text) h
    where
      go : (b : Bool) → (if b then if_select (compiled listing_schema text) else compiled schema text) ≡ Ok c → (made : Command) × (c ≡ reported made) × Creates schema it.def made
      go false is = compiles schema c is
      go true is = absurd (listed_too c is)

  defined_in : (any : Table) (given : Index) → define.index any it.def ≡ Ok given → index_defined_by any text ≡ Ok given
  unfolding index_defined_by index_in
  defined_in any given is = rw (it.read, it.statement) is

  pub adds_index : (old new : State) (count : ℕ) → ExecutesInside 0 text [] old new (Ok count) → AddsIndex table index old.now new.now
  adds_index old new count h =
      let schema = old.now.schema in
      let seen = understood_of text [] old new count h in
      let (made, is, does) = understands schema seen.0 seen.1 in
      let goes : understood schema text ≡ Ok (reported made) = seen.1 ∙ ap Ok is in
      let command_is : command_of (understood schema text) ≡ CreateIndex does.at = ap command_of goes ∙ does.is in
      let plain : IsPlain (understood schema text) = subst IsPlain (sym goes) (refl, refl) in
      let whole : statement_of text (understood schema text) ≡ text = ap (statement_of text) goes ∙ it.whole made in
      let any = indexes text does.at does.table does.index old new count does.listed (defined_in does.table does.index does.defined) command_is plain whole h in
      record {
        free = subst (λ name. is_used schema name ≡ false) it.named does.free;
        keeps = λ name free. indexed_keeps schema does.table does.index name (subst (λ s. is_used s name ≡ false) any.schema free);
        made = λ at tree named listed.
            let both : Some does.at ≡ Some at = sym (subst (λ name. table_named schema name ≡ Some does.at) it.of does.named) ∙ named in
            let same : does.at ≡ at = cc in
            let one = indexes text at (record table { tree = tree }) (record index { tree = 0; table = tree }) old new count listed (it.defined tree) (command_is ∙ ap CreateIndex same) plain whole h in
            record { free = one.free; schema = one.schema; others = one.others; sound = one.sound };
      }

-- ---- the two texts

files_read : ReadsIndex index_files_text files_table files_index
unfolding everything
files_read = record { parsed = _; def = _; read = refl; statement = refl; formats = refl; once = refl; named = refl; of = refl; whole = λ made. refl; defined = λ tree. refl }

uploads_read : ReadsIndex index_uploads_text uploads_table uploads_index
unfolding everything
uploads_read = record { parsed = _; def = _; read = refl; statement = refl; formats = refl; once = refl; named = refl; of = refl; whole = λ made. refl; defined = λ tree. refl }

pub adds_files_index : (old new : State) (count : ℕ) → ExecutesInside 0 index_files_text [] old new (Ok count) → AddsIndex files_table files_index old.now new.now
adds_files_index = adds_index index_files_text files_table files_index files_read

pub adds_uploads_index : (old new : State) (count : ℕ) → ExecutesInside 0 index_uploads_text [] old new (Ok count) → AddsIndex uploads_table uploads_index old.now new.now
adds_uploads_index = adds_index index_uploads_text uploads_table uploads_index uploads_read
