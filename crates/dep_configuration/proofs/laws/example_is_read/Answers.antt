use Rattle.std.proofs.Common.{◌≡◌, refl}
use Rattle.json.specs.Json.{object}
use Rattle.json.specs.Lex.{between, lex}
use Rattle.json.specs.Text.{content, short_escape, code_unit}
use Rattle.json.specs.Word.{after_number, word}
use Rattle.dep_configuration.specs.declared.example.TheConstants.{EXAMPLE}
use Rattle.dep_configuration.proofs.ExampleRead.{example_lexemes, example_members, example-document, example-given, example-names}
use Rattle.dep_configuration.proofs.ExampleBase.{example-checked}
use Rattle.dep_configuration.proofs.laws.example_is_read.Goals as goal

lexed : lex between EXAMPLE.now ≡ example_lexemes
unfolding lex content short_escape code_unit word after_number example_lexemes
lexed = refl

pub returns : goal.returns
returns c = record {
  json = object example_members;
  reads = example-document EXAMPLE.now lexed;
  read = record { names = example-names; given = example-given; checked = example-checked };
}
