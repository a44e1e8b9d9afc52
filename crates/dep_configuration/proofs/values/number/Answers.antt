use Rattle.json.specs.Value.{value_view}
use Rattle.dep_configuration.proofs.ValuesGiven.{number-or}
use Rattle.dep_configuration.proofs.values.number.Goals as goal

pub returns : goal.returns
returns c = let h = number-or c.args.field c.args.default (value_view c.args.value.now) c.requires.readable c.requires.wanted in cc
