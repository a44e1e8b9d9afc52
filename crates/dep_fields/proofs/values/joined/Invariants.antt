use Rattle.std.proofs.Common.{◌≡◌, ◌∷◌}
use Rattle.std.specs.List.{join_with_byte}
use Rattle.dep_fields.proofs.values.joined.Given as goal

abbrev pub invariant-loop-value : goal.invariant-loop-value
invariant-loop-value l = join_with_byte 44 l.fn.values ≡ join_with_byte 44 (l.text.items ∷ l.value-iterator)
