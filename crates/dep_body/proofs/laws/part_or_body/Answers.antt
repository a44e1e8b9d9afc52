use Rattle.dep_body.proofs.OneBody.{body_no_part}
use Rattle.dep_body.proofs.laws.part_or_body.Goals as goal

pub returns : goal.returns
returns c = body_no_part
