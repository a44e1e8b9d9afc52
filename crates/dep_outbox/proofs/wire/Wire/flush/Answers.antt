use Rattle.std.proofs.Common.{refl, arith}
use Rattle.std.proofs.KnownBytes.{Keeps-refl}
use Rattle.dep_outbox.proofs.wire.Wire.flush.Goals as goal

pub loop-sends-init : goal.loop-sends-init
loop-sends-init g c = record { keeps = Keeps-refl _; failures = refl; delivers = omega arith; no_less = omega arith; halts = refl; spool = refl; no_more = omega arith }
