use Rattle.dep_decisions.proofs.FilesStay.{file_stays}
use Rattle.dep_decisions.proofs.laws.files_stay.Goals as goal

pub returns : goal.returns
returns c = file_stays
