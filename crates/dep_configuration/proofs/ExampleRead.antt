-- The text of the example, read step by step.
use Rattle.std.proofs.Common.{◌≡◌, ◌∙◌, ℕ, false, List, [], ◌∷◌, Option, Some, option_and_then, inr, refl, ap, codes, arith}
use Rattle.std.specs.Fmt.{digits}
use Rattle.std.specs.Net.Grammar.{IsDotted}
use Rattle.std.proofs.lemmas.Cmp.{nat_list_eq_equiv}
use Rattle.std.proofs.lemmas.List.Sums.{AllPass-from_list_all}
use Rattle.std.proofs.lemmas.Map.Made.{AllPairs-from_IsDistinct, IsDistinct-from_count}
use Rattle.std.proofs.lemmas.Slice.Eq.{bytes_eq-Decides}
use Rattle.json.specs.Token.{Token}
use Rattle.json.specs.Lex.{Lexeme, token, comma, colon, between, fresh, lex, punctuate}
use Rattle.json.specs.Json.{Json, Members, no_members, member, object, document, value, items, members, max_depth, if_last}
use Rattle.json.specs.Strict.{keys}
use Rattle.dep_configuration.specs.Configured.{HasConfig, HasConfiguration, GivesLimits}
use Rattle.dep_docs_out.specs.ExampleDocuments.{example_config}
use Rattle.dep_configuration.specs.Example.{example_configuration, example_limits}
use Rattle.dep_configuration.specs.Fields.{bounds_of, configuration_key}
use Rattle.dep_configuration.specs.Names.{is_field_name, AreFieldNames}
use Rattle.dep_configuration.specs.Readings.{number_within}

unfoldable pub example_lexemes : List Lexeme
example_lexemes =
    (token Token.begin_object)
    ∷ (token (Token.string (codes "address")))
    ∷ colon
    ∷ (token (Token.string (codes "127.0.0.1")))
    ∷ comma
    ∷ (token (Token.string (codes "port")))
    ∷ colon
    ∷ (token (Token.number (codes "8080")))
    ∷ comma
    ∷ (token (Token.string (codes "database")))
    ∷ colon
    ∷ (token (Token.string (codes "/var/lib/swordd/deposits.db")))
    ∷ comma
    ∷ (token (Token.string (codes "spool_folder")))
    ∷ colon
    ∷ (token (Token.string (codes "/var/lib/swordd/spools")))
    ∷ comma
    ∷ (token (Token.string (codes "stop_file")))
    ∷ colon
    ∷ (token (Token.string []))
    ∷ comma
    ∷ (token (Token.string (codes "base")))
    ∷ colon
    ∷ (token (Token.string (codes "http://127.0.0.1:8080")))
    ∷ comma
    ∷ (token (Token.string (codes "title")))
    ∷ colon
    ∷ (token (Token.string (codes "swordd")))
    ∷ comma
    ∷ (token (Token.string (codes "abstract")))
    ∷ colon
    ∷ (token (Token.string (codes "Deposit service")))
    ∷ comma
    ∷ (token (Token.string (codes "depositor")))
    ∷ colon
    ∷ (token (Token.string (codes "depositor")))
    ∷ comma
    ∷ (token (Token.string (codes "on_behalf_of")))
    ∷ colon
    ∷ (token (Token.boolean false))
    ∷ comma
    ∷ (token (Token.string (codes "require_if_match")))
    ∷ colon
    ∷ (token (Token.boolean false))
    ∷ comma
    ∷ (token (Token.string (codes "max_upload")))
    ∷ colon
    ∷ (token (Token.number (codes "16777216")))
    ∷ comma
    ∷ (token (Token.string (codes "max_assembled")))
    ∷ colon
    ∷ (token (Token.number (codes "17179869184")))
    ∷ comma
    ∷ (token (Token.string (codes "max_segments")))
    ∷ colon
    ∷ (token (Token.number (codes "10000")))
    ∷ comma
    ∷ (token (Token.string (codes "staging_max_idle")))
    ∷ colon
    ∷ (token (Token.number (codes "3600")))
    ∷ comma
    ∷ (token (Token.string (codes "idle_seconds")))
    ∷ colon
    ∷ (token (Token.number (codes "60")))
    ∷ comma
    ∷ (token (Token.string (codes "least_rate")))
    ∷ colon
    ∷ (token (Token.number (codes "4096")))
    ∷ comma
    ∷ (token (Token.string (codes "address_connections")))
    ∷ colon
    ∷ (token (Token.number (codes "1024")))
    ∷ comma
    ∷ (token (Token.string (codes "spool_bytes")))
    ∷ colon
    ∷ (token (Token.number (codes "68719476736")))
    ∷ comma
    ∷ (token (Token.string (codes "unfinished_bytes")))
    ∷ colon
    ∷ (token (Token.number (codes "1073741824")))
    ∷ comma
    ∷ (token (Token.string (codes "reserve_bytes")))
    ∷ colon
    ∷ (token (Token.number (codes "33554432")))
    ∷ (token Token.end_object) ∷ []

unfoldable pub example_tokens : List Token
example_tokens =
    Token.begin_object
    ∷ (Token.key (codes "address"))
    ∷ (Token.string (codes "127.0.0.1"))
    ∷ (Token.key (codes "port"))
    ∷ (Token.number (codes "8080"))
    ∷ (Token.key (codes "database"))
    ∷ (Token.string (codes "/var/lib/swordd/deposits.db"))
    ∷ (Token.key (codes "spool_folder"))
    ∷ (Token.string (codes "/var/lib/swordd/spools"))
    ∷ (Token.key (codes "stop_file"))
    ∷ (Token.string [])
    ∷ (Token.key (codes "base"))
    ∷ (Token.string (codes "http://127.0.0.1:8080"))
    ∷ (Token.key (codes "title"))
    ∷ (Token.string (codes "swordd"))
    ∷ (Token.key (codes "abstract"))
    ∷ (Token.string (codes "Deposit service"))
    ∷ (Token.key (codes "depositor"))
    ∷ (Token.string (codes "depositor"))
    ∷ (Token.key (codes "on_behalf_of"))
    ∷ (Token.boolean false)
    ∷ (Token.key (codes "require_if_match"))
    ∷ (Token.boolean false)
    ∷ (Token.key (codes "max_upload"))
    ∷ (Token.number (codes "16777216"))
    ∷ (Token.key (codes "max_assembled"))
    ∷ (Token.number (codes "17179869184"))
    ∷ (Token.key (codes "max_segments"))
    ∷ (Token.number (codes "10000"))
    ∷ (Token.key (codes "staging_max_idle"))
    ∷ (Token.number (codes "3600"))
    ∷ (Token.key (codes "idle_seconds"))
    ∷ (Token.number (codes "60"))
    ∷ (Token.key (codes "least_rate"))
    ∷ (Token.number (codes "4096"))
    ∷ (Token.key (codes "address_connections"))
    ∷ (Token.number (codes "1024"))
    ∷ (Token.key (codes "spool_bytes"))
    ∷ (Token.number (codes "68719476736"))
    ∷ (Token.key (codes "unfinished_bytes"))
    ∷ (Token.number (codes "1073741824"))
    ∷ (Token.key (codes "reserve_bytes"))
    ∷ (Token.number (codes "33554432"))
    ∷ Token.end_object ∷ []

unfoldable pub example_members : Members
example_members = member (codes "address") (Json.string (codes "127.0.0.1")) (
    member (codes "port") (Json.number (codes "8080")) (
    member (codes "database") (Json.string (codes "/var/lib/swordd/deposits.db")) (
    member (codes "spool_folder") (Json.string (codes "/var/lib/swordd/spools")) (
    member (codes "stop_file") (Json.string []) (
    member (codes "base") (Json.string (codes "http://127.0.0.1:8080")) (
    member (codes "title") (Json.string (codes "swordd")) (
    member (codes "abstract") (Json.string (codes "Deposit service")) (
    member (codes "depositor") (Json.string (codes "depositor")) (
    member (codes "on_behalf_of") (Json.boolean false) (
    member (codes "require_if_match") (Json.boolean false) (
    member (codes "max_upload") (Json.number (codes "16777216")) (
    member (codes "max_assembled") (Json.number (codes "17179869184")) (
    member (codes "max_segments") (Json.number (codes "10000")) (
    member (codes "staging_max_idle") (Json.number (codes "3600")) (
    member (codes "idle_seconds") (Json.number (codes "60")) (
    member (codes "least_rate") (Json.number (codes "4096")) (
    member (codes "address_connections") (Json.number (codes "1024")) (
    member (codes "spool_bytes") (Json.number (codes "68719476736")) (
    member (codes "unfinished_bytes") (Json.number (codes "1073741824")) (
    member (codes "reserve_bytes") (Json.number (codes "33554432")) (
    no_members)))))))))))))))))))))

punctuated : punctuate fresh example_lexemes ≡ example_tokens
unfolding punctuate example_lexemes example_tokens
punctuated = refl

valued : value max_depth example_tokens ≡ Some (object example_members, [])
unfolding value items members example_tokens example_members
valued = refl

-- a text of these lexemes is the example
pub example-document : (text : List ℕ) → lex between text ≡ example_lexemes → document text ≡ Some (object example_members)
example-document text lexed =
    ap (λ ls. option_and_then (λ p. if_last p.0 p.1) (value max_depth (punctuate fresh ls))) lexed
    ∙ ap (λ ts. option_and_then (λ p. if_last p.0 p.1) (value max_depth ts)) punctuated
    ∙ ap (λ (r : Option (Json × List Token)). option_and_then (λ p. if_last p.0 p.1) r) valued

pub example-names : AreFieldNames (keys example_members)
unfolding configuration_key example_members
example-names = record {
  known = AllPass-from_list_all is_field_name (keys example_members) refl;
  once = AllPairs-from_IsDistinct bytes_eq-Decides (keys example_members)
      (IsDistinct-from_count nat_list_eq_equiv (keys example_members) refl);
}

example-limits : GivesLimits example_limits (object example_members)
unfolding configuration_key bounds_of number_within example_members
example-limits = record { idle = refl; rate = refl; all = refl; address = refl; spool = refl; unfinished = refl }

pub example-config : HasConfig example_config (object example_members)
unfolding configuration_key bounds_of number_within example_members
example-config = record {
  base = refl;
  title = refl;
  abstract_text = refl;
  depositor = refl;
  on_behalf_of = refl;
  require_if_match = refl;
  upload = refl;
  assembled = refl;
  segments = refl;
  idle = refl;
}

localhost-dotted : IsDotted (codes "127.0.0.1") (127 ∷ 0 ∷ 0 ∷ 1 ∷ [])
unfolding digits
localhost-dotted = record {
  a = 127;
  b = 0;
  c = 0;
  d = 1;
  fit = (omega arith, omega arith, omega arith, omega arith);
  value = refl;
  spelled = refl;
}

pub example-given : HasConfiguration example_configuration (object example_members)
unfolding configuration_key bounds_of number_within example_members
example-given = record {
  address = inr localhost-dotted;
  port = refl;
  database = refl;
  spool_folder = refl;
  stop_file = refl;
  config = example-config;
  limits = example-limits;
  reserve = refl;
}
