use Rattle.std.proofs.Common.{◌≤◌, ◌<◌, ℕ}
use Rattle.dep_host.specs.Actions.{slot_at, unfinished_of}
use Rattle.dep_host.proofs.host.Host.largest.Given as goal

abbrev pub invariant-loop-at : goal.invariant-loop-at
invariant-loop-at g l = record {
  within : l.largest ≤ l.at;
  most : (place : ℕ) → place < l.at → unfinished_of (slot_at place l.self.slots.items) ≤ unfinished_of (slot_at l.largest l.self.slots.items);
}
