use Rattle.dep_hub.proofs.HoldingLemmas.{holds_nothing, represents_at}
use Rattle.dep_hub.proofs.laws.nothing_held.Goals as goal

pub returns-clause-holds : goal.returns-clause-holds
returns-clause-holds g c hub w at = holds_nothing g.A.Archive.condition hub w at

pub returns-clause-represents : goal.returns-clause-represents
returns-clause-represents g c hub w held e at = represents_at g.A.Archive.condition hub w held e at
