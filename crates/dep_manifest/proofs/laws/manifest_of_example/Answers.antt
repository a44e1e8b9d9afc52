use Rattle.std.proofs.Common.{refl}
use Rattle.dep_fixity.proofs.OnLiterals.{sha256_on_literals, sha512_on_literals}
use Rattle.dep_manifest.proofs.laws.manifest_of_example.Goals as goal

pub returns : goal.returns
unfolding sha256_on_literals sha512_on_literals
returns c = record { sha256 = refl; sha512 = refl }
