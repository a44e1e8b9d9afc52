use Rattle.std.proofs.Common.{refl}
use Rattle.dep_moment.proofs.OnLiterals.{moment_on_literals}
use Rattle.dep_moment.proofs.laws.rfc3339_of_rfc3339.Goals as goal

pub returns : goal.returns
unfolding moment_on_literals
returns c = refl
