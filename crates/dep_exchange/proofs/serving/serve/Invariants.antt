use Rattle.dep_message.specs.Places.{left_to_read}
use Rattle.dep_exchange.specs.Sending.{outside}
use Rattle.dep_exchange.specs.Serving.{ServedSoFar, KeepsIntake, arrival_of}
use Rattle.dep_exchange.proofs.serving.serve.Given as goal

-- what was read so far was answered
abbrev pub invariant-loop : goal.invariant-loop
invariant-loop g l = record {
  served : ServedSoFar l.site (arrival_of l.fn.intake l.piece.bytes.now l.piece.moment)
      (outside (g.O.Outlet.taken l.fn.out) (g.O.Outlet.failures l.fn.out) (g.A.Archive.condition l.fn.store))
      (outside (g.O.Outlet.taken l.out) (g.O.Outlet.failures l.out) (g.A.Archive.condition l.store)) l.intake.place;
  keeps : KeepsIntake l.fn.intake l.intake;
}

abbrev pub decreases-loop : goal.decreases-loop
decreases-loop g l = left_to_read l.intake.place
