use Rattle.dep_params.proofs.ReportedNames.{file_name-sound, file_name-complete}
use Rattle.dep_params.proofs.laws.file_name_is_reported.Goals as goal

pub returns : goal.returns
returns c reading name = (file_name-complete reading name, file_name-sound reading name)
