use Rattle.std.proofs.Common.{◌≡◌, ◌≤◌, ◌*◌, ◌^◌, take}
use Rattle.dep_host.specs.Actions.{unfinished_in}
use Rattle.dep_host.proofs.host.Host.is_full.Given as goal

abbrev pub invariant-loop-at : goal.invariant-loop-at
invariant-loop-at g l = record {
  sum : l.kept ≡ unfinished_in (take l.at l.self.slots.items);
  small : l.kept ≤ l.at * 2 ^ 64;
}
