use Rattle.dep_decisions.proofs.ReadAlone.{reads_keep}
use Rattle.dep_decisions.proofs.laws.reads_change_nothing.Goals as goal

pub returns : goal.returns
returns c = reads_keep
