use Rattle.dep_params.proofs.ReportedReadings.{reading-sound, reading-complete}
use Rattle.dep_params.proofs.laws.reading_is_reported.Goals as goal

pub returns : goal.returns
returns c text reading = (reading-complete text reading, reading-sound text reading)
