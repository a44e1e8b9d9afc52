use Rattle.std.proofs.Common.{rules}
use Rattle.dep_exchange.proofs.serving.next_after.Goals as goal

-- another item may follow
pub returns-in-Sent : goal.returns-in-Sent
returns-in-Sent c = search rules

pub returns : goal.returns
returns c = search rules
