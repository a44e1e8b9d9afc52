use Rattle.std.proofs.Common.{rules}
use Rattle.dep_transactions.proofs.committing.give_back.Goals as goal

-- (a wrong body is refused at each of these by one search)
pub returns-clause-undone : goal.returns-clause-undone
returns-clause-undone g c = search rules

pub returns-clause-survives : goal.returns-clause-survives
returns-clause-survives g c = search rules

pub returns-clause-ended : goal.returns-clause-ended
returns-clause-ended g c = search rules
