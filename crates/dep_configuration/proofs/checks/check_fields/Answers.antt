use Rattle.std.proofs.lemmas.List.Elements.{All-more}
use Rattle.std.proofs.lemmas.Result.{err_from_is_err_and}
use Rattle.json.specs.Value.{value_view}
use Rattle.dep_configuration.specs.Faults.{IsReadable}
use Rattle.dep_configuration.specs.declared.field.TheConstants.{FIELDS}
use Rattle.dep_configuration.proofs.FieldsInOrder.{all-readable, first-of-fields}
use Rattle.dep_configuration.proofs.checks.check_fields.Goals as goal

pub returns-in_err-check_field-clause-refused : goal.returns-in_err-check_field-clause-refused
returns-in_err-check_field-clause-refused c =
    let p = err_from_is_err_and c.from_residual.result c.from_residual.ensures.1 in
    rw (p.1, p.2) (first-of-fields (value_view c.args.value.now) c.loop-field.field-index _ _ c.loop-field-test.true c.loop-field.invariant c.in_err-check_field.ensures.refused)

pub loop-field-preserved : goal.loop-field-preserved
loop-field-preserved c = All-more (λ f. IsReadable f (value_view c.args.value.now)) FIELDS c.loop-field.field-index _ c.loop-field-test.true c.loop-field.invariant c.in_ok-check_field.ensures.readable

pub returns : goal.returns
returns c = record {
  readable = all-readable (value_view c.args.value.now) c.loop-field.field-index c.loop-field-test.false c.loop-field.invariant;
  refused = tt;
}
