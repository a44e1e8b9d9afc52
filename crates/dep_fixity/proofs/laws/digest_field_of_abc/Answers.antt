use Rattle.std.proofs.Common.{refl}
use Rattle.dep_fixity.proofs.OnLiterals.{sha256_on_literals}
use Rattle.dep_fixity.proofs.laws.digest_field_of_abc.Goals as goal

pub returns : goal.returns
unfolding sha256_on_literals
returns c = record { base64 = refl; hex = refl; other = refl; unpadded = refl; different = refl }
