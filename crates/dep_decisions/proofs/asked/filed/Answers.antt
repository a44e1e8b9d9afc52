use Rattle.std.proofs.Common.{rules}
use Rattle.dep_decisions.proofs.asked.filed.Goals as goal

pub returns-in-File : goal.returns-in-File
returns-in-File c = search rules
