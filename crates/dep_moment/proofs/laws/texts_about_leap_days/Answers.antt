use Rattle.std.proofs.Common.{refl}
use Rattle.dep_moment.proofs.OnLiterals.{moment_on_literals}
use Rattle.dep_moment.proofs.laws.texts_about_leap_days.Goals as goal

pub returns : goal.returns
unfolding moment_on_literals
returns c = record { leap = refl; common = refl }
