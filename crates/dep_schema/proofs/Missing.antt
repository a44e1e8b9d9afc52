-- The query for the version over any schema: where `format` is not there, and that it only reads.
use Rattle.std.proofs.Common.{◌≡◌, ℕ, suc, Bool, true, false, if◌then◌else◌, List, [], ◌∷◌, None, Ok, Err, codes, refl, sym, ap, subst, ◌∙◌}
use Rattle.sqlite_tied.specs.Compute.{everything}
use Rattle.sqlite.specs.Schema.{Schema}
use Rattle.sqlite.specs.Term.{Term}
use Rattle.sqlite.specs.Command.{Command}
use Rattle.sqlite.specs.Listing.{understood, reads_listing, listing_schema, if_select}
use Rattle.sqlite.proofs.Callers.{IsPlain}
use Rattle.sqlite_schema.specs.declared.program.Table.{Table as Let}
use Rattle.sqlite_schema.specs.Names.{table_named, view_named}
use Rattle.sqlite_ast.specs.declared.Statement.TheVariants as written
use Rattle.sqlite_ast.specs.declared.Sort.{Sort}
use Rattle.sqlite_ast.specs.declared.Select.{Select, out-Select}
use Rattle.sqlite_ast.specs.declared.Core.{Core, out-Core}
use Rattle.sqlite_ast.specs.declared.Source.{Source, out-Source}
use Rattle.sqlite_ast.specs.declared.Origin.TheVariants as origin
use Rattle.sqlite_syntax.specs.declared.statement.Parsed.{Parsed}
use Rattle.sqlite_resolve.specs.declared.compiled.Compiled.{Compiled}
use Rattle.sqlite_resolve.specs.declared.error.CompileError.TheVariants.{NoSuchTable}
use Rattle.sqlite_resolve.specs.Lowering.{Checked, and_then, take_slot}
use Rattle.sqlite_resolve.specs.Body.{table_in, bound, bounds, body}
use Rattle.sqlite_resolve.specs.Select.{constant_or, parts, named, paging}
use Rattle.sqlite_resolve.specs.Program.{Building, Shown, source, sources, viewing, single, alone, whole, with, level, query_to, query}
use Rattle.sqlite_resolve.specs.Compile.{first, read, command, returning, timed, meaning, planned, compiled, with_command}
use Rattle.dep_schema.specs.Texts.{find_format_text}

-- the whole query is one table by its name
pub record IsSimple (s : Select) (name : List ℕ) : Type 0 where
  pub with_is : (out-Select s).with ≡ []
  pub limit_is : (out-Select s).limit ≡ None
  pub offset_is : (out-Select s).offset ≡ None
  pub others_is : (out-Select s).others ≡ []
  pub source_of : Source
  pub from_is : (out-Core (out-Select s).first).from ≡ source_of ∷ []
  pub origin_is : (out-Source source_of).origin ≡ origin.Table name

module _ (schema : Schema) (name : List ℕ) (no_table : table_named schema name ≡ None) (no_view : view_named schema name ≡ None) where
  module _ (core : Core) (order : List Sort) (page : Term × Term) (from : Source) (from_is : (out-Core core).from ≡ from ∷ []) (origin_is : (out-Source from).origin ≡ origin.Table name) where
    named_none : named schema core order page ≡ Err NoSuchTable
    unfolding named parts body bounds bound table_in take_slot
    named_none = rw (from_is, origin_is, no_table, no_view) refl

    module _ (within : Schema → Select → Building Shown) (lets : List Let) where
      viewing_none : (n : ℕ) → viewing within schema core order page (suc n) schema lets ≡ Err NoSuchTable
      unfolding viewing
      viewing_none n = rw named_none refl

      single_none : single within schema core order page lets ≡ Err NoSuchTable
      unfolding single sources source
      single_none = rw (from_is, origin_is) (viewing_none 63)

  module _ (s : Select) (simple : IsSimple s name) where
    level_none : (within : Schema → Select → Building Shown) (lets : List Let) → level within schema s lets ≡ Err NoSuchTable
    unfolding level with whole paging constant_or alone
    level_none within lets =
        rw (simple.with_is, simple.limit_is, simple.offset_is, simple.others_is, single_none (out-Select s).first (out-Select s).order _ simple.source_of simple.from_is simple.origin_is within lets) refl

    query_to_none : (depth : ℕ) (lets : List Let) → query_to (suc depth) schema s lets ≡ Err NoSuchTable
    unfolding query_to
    query_to_none depth lets = level_none (query_to depth) lets

    query_none : query schema s ≡ Err NoSuchTable
    unfolding query
    query_none = query_to_none 15 []

    read_none : read schema s ≡ Err NoSuchTable
    unfolding read
    read_none = rw query_none refl

    module _ (text : List ℕ) (p : Parsed) (parsed_is : first text ≡ Ok p) (statement_is : p.statement ≡ written.Select s) where
      compiled_none : compiled schema text ≡ Err NoSuchTable
      unfolding compiled planned meaning command returning timed
      compiled_none = rw (parsed_is, statement_is, read_none) refl

find_reads : (p : Parsed) × (s : Select) × (first find_format_text ≡ Ok p) × (p.statement ≡ written.Select s) × (p.formats ≡ []) × IsSimple s (codes "format")
unfolding everything
find_reads = (_, _, refl, refl, refl, record { with_is = refl; limit_is = refl; offset_is = refl; others_is = refl; source_of = _; from_is = refl; origin_is = refl })

finds_none : (schema : Schema) → table_named schema (codes "format") ≡ None → view_named schema (codes "format") ≡ None → compiled schema find_format_text ≡ Err NoSuchTable
finds_none schema no_table no_view = compiled_none schema (codes "format") no_table no_view find_reads.1 find_reads.5 find_format_text find_reads.0 find_reads.2 find_reads.3

unlisted : compiled listing_schema find_format_text ≡ Err NoSuchTable
unfolding listing_schema everything
unlisted = refl

pub find_missing : (schema : Schema) → table_named schema (codes "format") ≡ None → view_named schema (codes "format") ≡ None → understood schema find_format_text ≡ Err NoSuchTable
unfolding understood
find_missing schema no_table no_view = rw (finds_none schema no_table no_view, unlisted) refl

-- ---- it is a query, or is not understood

module _ (schema : Schema) (text : List ℕ) (p : Parsed) (s : Select) (parsed_is : first text ≡ Ok p) (statement_is : p.statement ≡ written.Select s) (formats_is : p.formats ≡ []) where
  compiled_plain : (c : Compiled) → compiled schema text ≡ Ok c → IsPlain (Ok c)
  unfolding compiled planned meaning command returning timed
  compiled_plain c is = by_command (read schema s) (sym (rw (parsed_is, statement_is) refl) ∙ is)
    where
      by_command : (r : Checked Command) → and_then (and_then (and_then r (λ made. Ok (made, None))) (λ found. Ok (p.formats, found))) (λ plan. Ok (with_command p plan)) ≡ Ok c → IsPlain (Ok c)
      by_command (Ok made) is = let same : with_command p (p.formats, (made, None)) ≡ c = cc in subst (λ x. IsPlain (Ok x)) same (refl, formats_is)
      by_command (Err e) is = absurd (cc)

find_compiled_plain : (schema : Schema) (c : Compiled) → compiled schema find_format_text ≡ Ok c → IsPlain (Ok c)
find_compiled_plain schema = compiled_plain schema find_format_text find_reads.0 find_reads.1 find_reads.2 find_reads.3 find_reads.4

pub find_plain : (schema : Schema) (c : Compiled) → understood schema find_format_text ≡ Ok c → IsPlain (understood schema find_format_text)
unfolding understood
find_plain schema c is = subst IsPlain (sym is) (by_listing (reads_listing schema find_format_text) is)
  where
    by_listing : (b : Bool) → (if b then if_select (compiled listing_schema find_format_text) else compiled schema find_format_text) ≡ Ok c → IsPlain (Ok c)
    by_listing true h = absurd (let none = sym (ap if_select unlisted) ∙ h in cc)
    by_listing false h = find_compiled_plain schema c h
