use Rattle.std.proofs.Common.{◌≡◌, length}
use Rattle.dep_decisions.specs.Rules.{each}
use Rattle.dep_operations.specs.Rules.{entry_refusal}
use Rattle.dep_operations.proofs.references.first_entry_refused.Given as goal

abbrev pub invariant-loop-reference : goal.invariant-loop-reference
invariant-loop-reference l = each (entry_refusal l.fn.rule) l.fn.references ≡ each (entry_refusal l.fn.rule) l.rest

abbrev pub decreases-loop-reference : goal.decreases-loop-reference
decreases-loop-reference l = length l.rest
