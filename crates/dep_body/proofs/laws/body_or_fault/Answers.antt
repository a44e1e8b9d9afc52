use Rattle.dep_body.proofs.OneBody.{body_no_fault}
use Rattle.dep_body.proofs.laws.body_or_fault.Goals as goal

pub returns : goal.returns
returns c = body_no_fault
