use Rattle.std.proofs.Common.{◌≡◌, take}
use Rattle.dep_manifest.specs.Lengths.{in_64_bits}
use Rattle.dep_manifest.proofs.ByPaths.{rows_length}
use Rattle.dep_manifest.proofs.lengths.payload_manifest_length.Given as goal

-- the length of the lines of the files so far
abbrev pub invariant-loop-row : goal.invariant-loop-row
invariant-loop-row l = l.length ≡ in_64_bits (rows_length l.algorithm (take l.row-index l.rows))
