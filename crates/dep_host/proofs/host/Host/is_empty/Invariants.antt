use Rattle.std.proofs.Common.{ℕ, ◌<◌, ◌≡◌, None}
use Rattle.dep_host.specs.Actions.{slot_at}
use Rattle.dep_host.proofs.host.Host.is_empty.Given as goal

abbrev pub invariant-loop-at : goal.invariant-loop-at
invariant-loop-at g l = record {
  empty : (place : ℕ) → place < l.at → slot_at place l.self.slots.items ≡ None;
}
