use Rattle.std.proofs.Common.{rules}
use Rattle.dep_fields.proofs.if_match.is_met.Goals as goal

-- (a wrong body is refused here by one search each)
pub returns-then-eq-2 : goal.returns-then-eq-2
returns-then-eq-2 c = search rules

pub returns-else-eq-2 : goal.returns-else-eq-2
returns-else-eq-2 c = search rules
