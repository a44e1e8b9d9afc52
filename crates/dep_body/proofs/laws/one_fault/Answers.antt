use Rattle.dep_body.proofs.OneBody.{one_fault}
use Rattle.dep_body.proofs.laws.one_fault.Goals as goal

pub returns : goal.returns
returns c = one_fault
