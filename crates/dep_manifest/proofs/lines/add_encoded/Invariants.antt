use Rattle.std.proofs.Common.{◌≡◌, ◌++◌, take}
use Rattle.dep_manifest.specs.Manifest.{encoded_path}
use Rattle.dep_manifest.proofs.lines.add_encoded.Given as goal

-- the bytes so far are written
abbrev pub invariant-loop-byte : goal.invariant-loop-byte
invariant-loop-byte l = l.text.items ≡ l.initial.text.items ++ encoded_path (take l.byte-index l.path)
