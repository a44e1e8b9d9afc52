use Rattle.std.proofs.Common.{drop}
use Rattle.dep_bag.specs.Giving.{state_of}
use Rattle.dep_bag.proofs.Payload.{SoFar}
use Rattle.dep_bag.proofs.giving.give_payload.Given as goal

-- each file so far was given
abbrev pub invariant-loop-row : goal.invariant-loop-row
invariant-loop-row g l =
    SoFar (g.S.BagSource.condition l.initial.source) (g.S.BagSource.condition l.source)
    (state_of g.K.Outlet.taken g.K.Outlet.failures l.initial.sink) (state_of g.K.Outlet.taken g.K.Outlet.failures l.sink) l.rows (drop l.row-index l.rows)
