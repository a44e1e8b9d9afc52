use Rattle.std.proofs.Common.{◌≡◌, ◌∙◌, None, inl, refl, sym, ap, option_map}
use Rattle.json.specs.Value.{value_view}
use Rattle.dep_configuration.specs.Readings.{given_text}
use Rattle.dep_configuration.specs.declared.field.ConfigurationField.TheVariants.{Address}
use Rattle.dep_configuration.proofs.AddressesGiven.{address-absent, address-written}
use Rattle.dep_configuration.proofs.values.address.Goals as goal

pub returns-in_default : goal.returns-in_default
returns-in_default c =
    let e : given_text Address (value_view c.args.value.now) ≡ None = sym c.given_text.ensures ∙ ap (option_map (λ x. x.now)) c.in_default.is in
    inl (address-absent (value_view c.args.value.now) c.requires.readable e, refl)

pub unreachable-requires : goal.unreachable-requires
unreachable-requires c =
    let a = address-written (value_view c.args.value.now) c.in-Some.text.now c.requires.readable c.in-Some.ensures in
    c.in-Err.ensures.value a.0 a.1
