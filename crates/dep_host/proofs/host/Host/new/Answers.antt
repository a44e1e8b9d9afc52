use Rattle.std.proofs.Common.{refl, arith}
use Rattle.dep_host.proofs.host.Host.new.Goals as goal

pub returns : goal.returns
returns g c = record { hub = refl; limits = refl; unreported = refl; empty = c.in-Ok.ensures; kept = tt }

pub returns-in_default : goal.returns-in_default
returns-in_default g c = record { hub = tt; limits = tt; unreported = tt; empty = tt; kept = refl }

pub invariant_of-result : goal.invariant_of-result
invariant_of-result g c = record { within = omega arith; free = λ at h. c.in-Ok.ensures at }
