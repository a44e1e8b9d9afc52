use Rattle.std.proofs.Common.{refl}
use Rattle.dep_moment.specs.Civil.{day_text, rfc3339_text}
use Rattle.dep_moment.proofs.laws.moment_begins_with_day.Goals as goal

pub returns : goal.returns
unfolding day_text rfc3339_text
returns c = λ secs. refl
