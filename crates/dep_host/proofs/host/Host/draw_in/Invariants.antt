use Rattle.std.proofs.Common.{◌≡◌, ◌+◌}
use Rattle.dep_host.specs.Actions.{position}
use Rattle.dep_host.specs.Hosting.{HostStays}
use Rattle.dep_host.proofs.host.Host.draw_in.Given as goal

abbrev pub invariant-loop : goal.invariant-loop
invariant-loop g l = record {
  counted : l.self.end + l.counter ≡ l.end;
  same : position l.self ≡ position l.fn.self;
  stays : HostStays l.fn.self l.self;
}
