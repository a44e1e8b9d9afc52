use Rattle.std.proofs.Common.{◌≡◌, false, length}
use Rattle.dep_params.specs.Reading.{quoted, with_octets}
use Rattle.dep_params.proofs.quoted.read_quoted.Given as goal

abbrev pub invariant-loop-value : goal.invariant-loop-value
invariant-loop-value l = with_octets l.value.items (quoted false l.rest) ≡ quoted false l.text

abbrev pub decreases-loop-value : goal.decreases-loop-value
decreases-loop-value l = length l.rest
