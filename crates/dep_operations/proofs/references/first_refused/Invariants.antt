use Rattle.std.proofs.Common.{◌≡◌, length}
use Rattle.dep_decisions.specs.Rules.{each}
use Rattle.dep_operations.specs.Rules.{rule_of}
use Rattle.dep_operations.specs.Seen.{entries_seen}
use Rattle.dep_operations.proofs.references.first_refused.Given as goal

abbrev pub invariant-loop-reference : goal.invariant-loop-reference
invariant-loop-reference l = each (rule_of l.fn.rule) (entries_seen l.fn.references l.fn.views) ≡ each (rule_of l.fn.rule) (entries_seen l.rest l.left)

abbrev pub decreases-loop-reference : goal.decreases-loop-reference
decreases-loop-reference l = length l.rest
