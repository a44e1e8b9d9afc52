use Rattle.dep_fields.proofs.OneReporting.{one_reporting}
use Rattle.dep_fields.proofs.laws.one_reporting.Goals as goal

pub returns : goal.returns
returns c = one_reporting
