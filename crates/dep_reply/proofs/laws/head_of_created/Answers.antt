use Rattle.std.proofs.Common.{refl}
use Rattle.dep_reply.proofs.OnLiterals.{reply_on_literals}
use Rattle.dep_reply.proofs.laws.head_of_created.Goals as goal

pub returns : goal.returns
unfolding reply_on_literals
returns c = refl
