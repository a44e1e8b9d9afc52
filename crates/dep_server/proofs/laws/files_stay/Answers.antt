use Rattle.dep_server.proofs.FilesStay.{stays}
use Rattle.dep_server.proofs.laws.files_stay.Goals as goal

pub returns : goal.returns
returns c = stays
