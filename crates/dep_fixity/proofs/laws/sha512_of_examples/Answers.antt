use Rattle.std.proofs.Common.{refl}
use Rattle.dep_fixity.proofs.OnLiterals.{sha512_on_literals}
use Rattle.dep_fixity.proofs.laws.sha512_of_examples.Goals as goal

pub returns : goal.returns
unfolding sha512_on_literals
returns c = record { none = refl; abc = refl; long = refl }
