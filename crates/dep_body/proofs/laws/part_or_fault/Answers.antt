use Rattle.dep_body.proofs.OneBody.{fault_no_part}
use Rattle.dep_body.proofs.laws.part_or_fault.Goals as goal

pub returns : goal.returns
returns c = fault_no_part
