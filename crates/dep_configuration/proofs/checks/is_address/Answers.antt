use Rattle.json.specs.Value.{value_view}
use Rattle.dep_configuration.proofs.AddressesGiven.{no-address, parsed-address}
use Rattle.dep_configuration.proofs.checks.is_address.Goals as goal

pub returns-in-Some : goal.returns-in-Some
returns-in-Some c = parsed-address (value_view c.args.value.now) c.in-Some.text.now c.parse.result c.is_ok.result c.in-Some.ensures c.parse.ensures.value c.is_ok.ensures.value

pub returns-in-None : goal.returns-in-None
returns-in-None c = no-address (value_view c.args.value.now) c.in-None.ensures
