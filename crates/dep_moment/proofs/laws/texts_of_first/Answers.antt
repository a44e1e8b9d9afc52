use Rattle.std.proofs.Common.{refl}
use Rattle.dep_moment.proofs.OnLiterals.{moment_on_literals}
use Rattle.dep_moment.proofs.laws.texts_of_first.Goals as goal

pub returns : goal.returns
unfolding moment_on_literals
returns c = record { http = refl; rfc3339 = refl }
