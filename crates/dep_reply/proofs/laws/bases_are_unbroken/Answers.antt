use Rattle.dep_reply.proofs.BaseLemmas.{unbroken_base}
use Rattle.dep_reply.proofs.laws.bases_are_unbroken.Goals as goal

pub returns : goal.returns
returns c = unbroken_base
