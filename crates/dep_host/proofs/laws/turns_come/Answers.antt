use Rattle.dep_host.proofs.ShareLemmas.{turn_comes}
use Rattle.dep_host.proofs.laws.turns_come.Goals as goal

pub returns : goal.returns
returns c = λ places first place nexts there within all many. turn_comes places place there nexts first within all many
