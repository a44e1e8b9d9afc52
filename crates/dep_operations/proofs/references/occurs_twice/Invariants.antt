use Rattle.std.proofs.Common.{◌≡◌, length}
use Rattle.std.specs.BTreeSet.{contains}
use Rattle.std.specs.Ordering.{nat_cmp}
use Rattle.dep_decisions.specs.Rules.{occurs_twice}
use Rattle.dep_operations.specs.Views.{uploads_named}
use Rattle.dep_operations.specs.Walks.{stands_again}
use Rattle.dep_operations.proofs.references.occurs_twice.Given as goal

abbrev pub invariant-loop-reference : goal.invariant-loop-reference
invariant-loop-reference l =
    occurs_twice (uploads_named l.fn.references) ≡ stands_again (contains nat_cmp l.named) (uploads_named l.rest)

abbrev pub decreases-loop-reference : goal.decreases-loop-reference
decreases-loop-reference l = length l.rest
