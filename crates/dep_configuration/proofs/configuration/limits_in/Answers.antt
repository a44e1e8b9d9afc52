use Rattle.std.proofs.Common.{◌≡◌, ◌∙◌, ap, refl, sym, Some}
use Rattle.json.specs.Value.{value_view}
use Rattle.dep_configuration.specs.Fields.{wanted_of}
use Rattle.dep_configuration.specs.declared.field.ConfigurationField.TheVariants.{Connections}
use Rattle.dep_configuration.proofs.ValuesGiven.{number-optional}
use Rattle.dep_configuration.proofs.configuration.limits_in.Goals as goal

pub returns : goal.returns
unfolding wanted_of
returns c = record {
  idle = c.number.ensures;
  rate = c.number-2.ensures;
  all = number-optional Connections (value_view c.args.value.now) c.requires refl ∙ ap (λ n. Some n) (sym c.given_number.ensures);
  address = c.number-3.ensures;
  spool = c.number-4.ensures;
  unfinished = c.number-5.ensures;
}
