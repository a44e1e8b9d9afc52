use Rattle.std.proofs.Common.{◌≡◌}
use Rattle.std.specs.Option.{option_copied}
use Rattle.dep_octets.specs.Octets.{members_of, parts_left, octets_left}
use Rattle.dep_octets.proofs.lists.SplitListIterator.next.Given as goal

-- the members passed over are none
abbrev pub invariant-loop-self : goal.invariant-loop-self
invariant-loop-self l =
    members_of (parts_left (option_copied l.initial.self-inside.rest)) ≡ members_of (parts_left (option_copied l.self-inside.rest))

abbrev pub decreases-loop-self : goal.decreases-loop-self
decreases-loop-self l = octets_left (option_copied l.self-inside.rest)
