use Rattle.std.proofs.Common.{◌≡◌, Some}
use Rattle.json.specs.Value.{value_view}
use Rattle.dep_configuration.specs.Readings.{text_or_default}
use Rattle.dep_configuration.proofs.ValuesGiven.{copied-text, text-or, unwrapped}
use Rattle.dep_configuration.proofs.values.text.Goals as goal

pub returns : goal.returns
returns c =
    let h = text-or c.args.field c.args.default.now (value_view c.args.value.now) c.requires.readable c.requires.wanted in
    let g = unwrapped c.given_text.result c.args.default in
    let read : text_or_default c.args.field c.args.default.now (value_view c.args.value.now) ≡ Some c.unwrap_or.result.now = cc in
    copied-text _ c.unwrap_or.result.now c.copied.result read c.copied.ensures
