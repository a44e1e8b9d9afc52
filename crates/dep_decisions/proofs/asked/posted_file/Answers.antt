use Rattle.std.proofs.Common.{rules}
use Rattle.dep_decisions.proofs.asked.posted_file.Goals as goal

pub returns : goal.returns
returns c = search rules
