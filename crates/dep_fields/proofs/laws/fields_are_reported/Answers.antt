use Rattle.dep_fields.proofs.ReportedFields.{fields_are_reported}
use Rattle.dep_fields.proofs.laws.fields_are_reported.Goals as goal

pub returns : goal.returns
returns c = fields_are_reported
