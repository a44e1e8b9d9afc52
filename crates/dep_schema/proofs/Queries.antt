-- A text that is a query shows, and changes nothing, whatever the schema is.
use Rattle.std.proofs.Common.{◌≡◌, ◌∙◌, Bool, true, false, ℕ, ◌+◌, List, [], Ok, Err, None, refl, sym, ap, subst, if◌then◌else◌}
use Rattle.sqlite.specs.Schema.{Schema}
use Rattle.sqlite.specs.Listing.{understood, if_select, is_select, listing_schema, reads_listing}
use Rattle.sqlite_ast.specs.declared.Select.{Select}
use Rattle.sqlite_ast.specs.declared.Statement.{Statement}
use Rattle.sqlite_ast.specs.declared.Statement.TheVariants as written
use Rattle.sqlite_syntax.specs.declared.statement.Parsed.{Parsed}
use Rattle.sqlite_resolve.specs.declared.compiled.Compiled.{Compiled}
use Rattle.sqlite_resolve.specs.declared.error.CompileError.TheVariants.{NoSuchTable}
use Rattle.sqlite_resolve.specs.Lowering.{Checked, and_then}
use Rattle.sqlite_resolve.specs.Compile.{first, command, returning, timed, meaning, planned, with_command, compiled, small}
use Rattle.sqlite_tied.specs.Compute.{everything}
use Rattle.dep_tables.specs.Texts.{blocks_of_text, find_sha512_text, sha256s_of_text}
use Rattle.dep_schema.specs.Sha512s.{next_file_text}
use Rattle.dep_schema.specs.Clauses.{OnlyReads, ShowsNoWrite}
use Rattle.dep_schema.specs.Sizes.{find_size_text}

-- it shows no rows of a write, and reads no clock
abbrev pub IsQuiet : Compiled → Type 0
IsQuiet c = (c.returning ≡ None) × (c.formats ≡ [])

-- the text begins with a query that reads no clock
pub record IsQuery (sql : List ℕ) : Type 0 where
  pub parsed : Parsed
  pub is : first sql ≡ Ok parsed
  pub select : Select
  pub selects : parsed.statement ≡ written.Select select
  pub untimed : parsed.formats ≡ []

then_ok : {A B : Type 0} (r : Checked A) (f : A → Checked B) (b : B) → and_then r f ≡ Ok b → (a : A) × (r ≡ Ok a) × (f a ≡ Ok b)
then_ok (Ok a) f b is = (a, refl, is)
then_ok (Err e) f b is = absurd (cc)

returns_none : (schema : Schema) (base : ℕ) (statement : Statement) (s : Select) → statement ≡ written.Select s → returning schema base statement ≡ Ok None
unfolding returning
returns_none schema base statement s is = rw is refl

-- what was planned for a query
planned_quiet : (schema : Schema) (p : Parsed) (s : Select) → p.statement ≡ written.Select s → p.formats ≡ [] → (c : Compiled)
    → and_then (planned schema p) (λ plan. Ok (with_command p plan)) ≡ Ok c → IsQuiet c
unfolding planned meaning timed returning
planned_quiet schema p s selects untimed c is =
    let formats = timed schema p.formats p.statement in
    let base = small p.names + small formats in
    let made = then_ok (planned schema p) (λ plan. Ok (with_command p plan)) c is in
    let meant = then_ok (meaning schema p base) (λ found. Ok (formats, found)) made.0 made.1 in
    let shown = then_ok (returning schema base p.statement) (λ shown. and_then (command schema p.formats base p.statement) (λ k. Ok (k, shown))) meant.0 meant.1 in
    let run = then_ok (command schema p.formats base p.statement) (λ k. Ok (k, shown.0)) meant.0 shown.2 in
    let compiled_is : with_command p made.0 ≡ c = cc in
    let plan_is : (formats, meant.0) ≡ made.0 = cc in
    let found_is : (run.0, shown.0) ≡ meant.0 = cc in
    let none : shown.0 ≡ None = let reported = sym shown.1 ∙ returns_none schema base p.statement s selects in cc in
    let no_formats : formats ≡ [] = rw selects untimed in (
      ap (λ x. x.returning) (sym compiled_is) ∙ ap (λ plan. plan.1.1) (sym plan_is) ∙ ap (λ found. found.1) (sym found_is) ∙ none,
      ap (λ x. x.formats) (sym compiled_is) ∙ ap (λ plan. plan.0) (sym plan_is) ∙ no_formats,
    )

pub compiled_quiet : (schema : Schema) (sql : List ℕ) → IsQuery sql → (c : Compiled) → compiled schema sql ≡ Ok c → IsQuiet c
unfolding compiled
compiled_quiet schema sql query c is =
    planned_quiet schema query.parsed query.select query.selects query.untimed c (rw query.is at is)

size_query : IsQuery find_size_text
unfolding first everything
size_query = record { parsed = _; is = refl; select = _; selects = refl; untimed = refl }

-- what is understood of it
pub understood_quiet : (schema : Schema) (sql : List ℕ) → IsQuery sql → (c : Compiled) → understood schema sql ≡ Ok c → IsQuiet c
unfolding understood
understood_quiet schema sql query c is = either (reads_listing schema sql) is
  where
    listed : (r : Checked Compiled) → ((k : Compiled) → r ≡ Ok k → IsQuiet k) → if_select r ≡ Ok c → IsQuiet c
    listed (Ok k) quiet reported = chosen (is_select k.command) reported
      where
        chosen : (b : Bool) → (if b then Ok k else Err NoSuchTable) ≡ Ok c → IsQuiet c
        chosen true reported = let same : k ≡ c = cc in subst IsQuiet same (quiet k refl)
        chosen false reported = absurd (cc)
    listed (Err e) quiet reported = absurd (cc)

    either : (lists : Bool) → (if lists then if_select (compiled listing_schema sql) else compiled schema sql) ≡ Ok c → IsQuiet c
    either true reported = listed (compiled listing_schema sql) (compiled_quiet listing_schema sql query) reported
    either false reported = compiled_quiet schema sql query c reported

blocks_query : IsQuery blocks_of_text
unfolding first everything
blocks_query = record { parsed = _; is = refl; select = _; selects = refl; untimed = refl }

-- so it shows no rows of a write
query_reads : (sql : List ℕ) → IsQuery sql → OnlyReads sql
query_reads sql query schema = either (understood schema sql) refl
  where
    either : (r : Checked Compiled) → understood schema sql ≡ r → ShowsNoWrite r
    either (Ok c) is = (understood_quiet schema sql query c is).0
    either (Err e) is = tt

pub size_reads : OnlyReads find_size_text
size_reads = query_reads find_size_text size_query

pub blocks_read : OnlyReads blocks_of_text
blocks_read = query_reads blocks_of_text blocks_query

sha512_query : IsQuery find_sha512_text
unfolding first everything
sha512_query = record { parsed = _; is = refl; select = _; selects = refl; untimed = refl }

pub sha512_reads : OnlyReads find_sha512_text
sha512_reads = query_reads find_sha512_text sha512_query

files_query : IsQuery next_file_text
unfolding first everything
files_query = record { parsed = _; is = refl; select = _; selects = refl; untimed = refl }

pub files_read : OnlyReads next_file_text
files_read = query_reads next_file_text files_query

sha256s_query : IsQuery sha256s_of_text
unfolding first everything
sha256s_query = record { parsed = _; is = refl; select = _; selects = refl; untimed = refl }

pub sha256s_read : OnlyReads sha256s_of_text
sha256s_read = query_reads sha256s_of_text sha256s_query
