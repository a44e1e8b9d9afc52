use Rattle.std.proofs.Common.{◌≡◌, length, take}
use Rattle.dep_manifest.specs.Lengths.{in_64_bits}
use Rattle.dep_manifest.specs.Manifest.{encoded_path}
use Rattle.dep_manifest.proofs.lines.encoded_length.Given as goal

-- the length of what is written for the bytes so far
abbrev pub invariant-loop-byte : goal.invariant-loop-byte
invariant-loop-byte l = l.length ≡ in_64_bits (length (encoded_path (take l.byte-index l.path)))
