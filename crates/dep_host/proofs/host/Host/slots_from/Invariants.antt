use Rattle.std.proofs.Common.{◌≡◌, ◌≤◌, take}
use Rattle.dep_host.specs.Coming.{slots_from}
use Rattle.dep_host.proofs.host.Host.slots_from.Given as goal

abbrev pub invariant-loop-at : goal.invariant-loop-at
invariant-loop-at g l = record {
  within : l.count ≤ l.at;
  counted : l.count ≡ slots_from l.from (take l.at l.self.slots.items);
}
