use Rattle.std.proofs.Common.{◌≡◌, ◌∙◌, arith, refl}
use Rattle.json.specs.Value.{value_view}
use Rattle.dep_configuration.specs.Fields.{wanted_of}
use Rattle.dep_configuration.specs.declared.field.ConfigurationField.TheVariants.{Database, SpoolFolder}
use Rattle.dep_configuration.proofs.ValuesGiven.{filled-text, port-fits}
use Rattle.dep_configuration.proofs.configuration.configuration_in.Goals as goal

pub overflow_cast-result : goal.overflow_cast-result
overflow_cast-result c = omega (arith, port-fits (value_view c.args.value.now) c.number.result c.number.ensures)

pub returns : goal.returns
unfolding wanted_of
returns c = record {
  address = c.address.ensures;
  port = c.number.ensures;
  database = filled-text Database (value_view c.args.value.now) c.requires refl ∙ c.in_ok-database.ensures;
  spool_folder = filled-text SpoolFolder (value_view c.args.value.now) c.requires refl ∙ c.in_ok-spool_folder.ensures;
  stop_file = c.in_ok-stop_file.ensures;
  config = c.in_ok-config.ensures;
  limits = c.limits_in.ensures;
  reserve = c.number-2.ensures;
}
