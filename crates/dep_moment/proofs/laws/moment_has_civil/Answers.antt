use Rattle.dep_moment.proofs.Walk.{civil_of-civil}
use Rattle.dep_moment.proofs.laws.moment_has_civil.Goals as goal

pub returns : goal.returns
returns c = civil_of-civil
