use Rattle.dep_params.proofs.ReportedReadings.{same_reading}
use Rattle.dep_params.proofs.laws.one_reading.Goals as goal

pub returns : goal.returns
returns c = same_reading
