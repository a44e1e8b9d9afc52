use Rattle.std.proofs.Common.{rules}
use Rattle.dep_operations.proofs.rules.repeat_rule.Goals as goal

-- (a wrong body is refused here by one search)
pub returns-in-Some-false : goal.returns-in-Some-false
returns-in-Some-false c = search rules
