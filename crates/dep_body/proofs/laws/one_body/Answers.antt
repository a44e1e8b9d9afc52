use Rattle.dep_body.proofs.OneBody.{one_body}
use Rattle.dep_body.proofs.laws.one_body.Goals as goal

pub returns : goal.returns
returns c = one_body
