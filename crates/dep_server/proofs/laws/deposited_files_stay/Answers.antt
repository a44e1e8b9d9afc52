use Rattle.dep_server.proofs.FilesStay.{stays_deposited}
use Rattle.dep_server.proofs.laws.deposited_files_stay.Goals as goal

pub returns : goal.returns
returns c = stays_deposited
