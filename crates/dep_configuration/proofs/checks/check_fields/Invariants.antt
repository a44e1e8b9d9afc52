use Rattle.std.proofs.Common.{take, All}
use Rattle.json.specs.Value.{value_view}
use Rattle.dep_configuration.specs.Faults.{IsReadable}
use Rattle.dep_configuration.specs.declared.field.TheConstants.{FIELDS}
use Rattle.dep_configuration.proofs.checks.check_fields.Given as goal

-- the fields so far can be read
abbrev pub invariant-loop-field : goal.invariant-loop-field
invariant-loop-field l = All (λ field. IsReadable field (value_view l.value)) (take l.field-index FIELDS)
