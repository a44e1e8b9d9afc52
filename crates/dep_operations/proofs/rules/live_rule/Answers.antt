use Rattle.std.proofs.Common.{rules, tests}
use Rattle.dep_operations.proofs.rules.live_rule.Goals as goal

pub returns : goal.returns
returns c = search (tests, rules)
