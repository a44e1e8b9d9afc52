use Rattle.std.proofs.Common.{◌≡◌, ℕ, None}
use Rattle.dep_host.specs.Actions.{slot_at}
use Rattle.dep_host.proofs.host.empty_slots.Given as goal

abbrev pub invariant-loop : goal.invariant-loop
invariant-loop g l = (at : ℕ) → slot_at at l.slots.items ≡ None
