use Rattle.dep_head.proofs.OneHead.{one_head}
use Rattle.dep_head.proofs.laws.one_head.Goals as goal

pub returns : goal.returns
returns c = one_head
