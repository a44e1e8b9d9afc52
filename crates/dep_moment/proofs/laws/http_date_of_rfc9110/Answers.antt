use Rattle.std.proofs.Common.{refl}
use Rattle.dep_moment.proofs.OnLiterals.{moment_on_literals}
use Rattle.dep_moment.proofs.laws.http_date_of_rfc9110.Goals as goal

pub returns : goal.returns
unfolding moment_on_literals
returns c = refl
