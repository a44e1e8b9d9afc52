use Rattle.std.proofs.Common.{◌≡◌, ◌∙◌, ap, option_map, sym}
use Rattle.json.specs.Value.{value_view}
use Rattle.dep_configuration.proofs.ValuesGiven.{copied-text, required, there-seen}
use Rattle.dep_configuration.proofs.values.required_text.Goals as goal

pub unwrap-requires : goal.unwrap-requires
unwrap-requires c = there-seen c.given_text.result _ c.given_text.ensures (required c.args.field (value_view c.args.value.now) c.requires.readable c.requires.required)

pub returns : goal.returns
returns c = copied-text _ c.unwrap.result.now c.copied.result (sym c.given_text.ensures ∙ ap (option_map (λ x. x.now)) c.unwrap.ensures) c.copied.ensures
