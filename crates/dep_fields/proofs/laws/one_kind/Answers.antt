use Rattle.dep_fields.proofs.OneReporting.{one_kind}
use Rattle.dep_fields.proofs.laws.one_kind.Goals as goal

pub returns : goal.returns
returns c = one_kind
