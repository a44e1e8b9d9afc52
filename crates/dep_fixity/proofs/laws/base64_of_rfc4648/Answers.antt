use Rattle.std.proofs.Common.{refl}
use Rattle.dep_fixity.proofs.OnLiterals.{spelling_on_literals}
use Rattle.dep_fixity.proofs.laws.base64_of_rfc4648.Goals as goal

pub returns : goal.returns
unfolding spelling_on_literals
returns c = record { none = refl; f = refl; fo = refl; foo = refl; foobar = refl }
