use Rattle.std.proofs.Common.{◌≡◌, take}
use Rattle.dep_operations.specs.Views.{uploads_named}
use Rattle.dep_views.proofs.touching.uploads_named.Given as goal

abbrev pub invariant-loop-reference : goal.invariant-loop-reference
invariant-loop-reference l = l.uploads.items ≡ uploads_named (take l.reference-index l.references)
