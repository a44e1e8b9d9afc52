use Rattle.std.proofs.Common.{arith}
use Rattle.dep_host.proofs.host.Host.largest.Goals as goal

pub loop-at-init : goal.loop-at-init
loop-at-init g c = record { within = omega arith; most = λ place h. omega (arith, h) }
