use Rattle.std.proofs.Common.{refl}
use Rattle.dep_fixity.proofs.OnLiterals.{spelling_on_literals}
use Rattle.dep_fixity.proofs.laws.octets_of_rfc4648.Goals as goal

pub returns : goal.returns
unfolding spelling_on_literals
returns c = record { base64 = refl; padded = refl; upper = refl; lower = refl; unpadded = refl }
