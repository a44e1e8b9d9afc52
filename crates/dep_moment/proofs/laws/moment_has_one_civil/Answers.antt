use Rattle.dep_moment.proofs.OneCivil.{one_civil}
use Rattle.dep_moment.proofs.laws.moment_has_one_civil.Goals as goal

pub returns : goal.returns
returns c = one_civil
