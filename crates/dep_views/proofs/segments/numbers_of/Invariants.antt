use Rattle.std.proofs.Common.{◌≡◌, map, take}
use Rattle.dep_views.proofs.segments.numbers_of.Given as goal

-- each segment so far has its number
abbrev pub invariant-loop-segment : goal.invariant-loop-segment
invariant-loop-segment l = l.numbers.items ≡ map (λ segment. segment.number) (take l.segment-index l.segments)
