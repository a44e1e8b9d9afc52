use Rattle.std.proofs.Common.{◌≡◌, None, take}
use Rattle.dep_hub.specs.Numbers.{place_of_number}
use Rattle.dep_hub.proofs.connections.index_among.Given as goal

-- it stands nowhere before
abbrev pub invariant-loop-i : goal.invariant-loop-i
invariant-loop-i l = place_of_number l.fn.id (take l.i l.connections) ≡ None
