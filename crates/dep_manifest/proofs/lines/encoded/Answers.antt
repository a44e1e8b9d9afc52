use Rattle.std.proofs.Common.{ap, sym}
use Rattle.dep_manifest.specs.Manifest.{encoded_byte}
use Rattle.dep_manifest.proofs.lines.encoded.Goals as goal

pub returns-in-37 : goal.returns-in-37
returns-in-37 c = sym (ap encoded_byte c.in-37.is)

pub returns-in-10 : goal.returns-in-10
returns-in-10 c = sym (ap encoded_byte c.in-10.is)

pub returns-in-13 : goal.returns-in-13
returns-in-13 c = sym (ap encoded_byte c.in-13.is)
