use Rattle.std.proofs.Common.{◌≡◌, ◌-◌, ◌≤◌, ◌++◌, length, take, drop}
use Rattle.percent_encoding.specs.Percent.{percent_decode}
use Rattle.dep_router.proofs.bag_paths.decoded_from.Given as goal

-- what was written and what is still to be decoded are together what is asked for
abbrev pub invariant-loop-read : goal.invariant-loop-read
invariant-loop-read l =
    (l.written ≤ l.read)
    × (take l.written l.path.items ++ percent_decode (drop l.read l.path.items) ≡ percent_decode (drop l.fn.start l.fn.path.items))

abbrev pub decreases-loop-read : goal.decreases-loop-read
decreases-loop-read l = length l.path.items - l.read
