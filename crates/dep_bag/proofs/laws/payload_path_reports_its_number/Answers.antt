use Rattle.dep_bag.proofs.Numbered.{payload_numbered}
use Rattle.dep_bag.proofs.laws.payload_path_reports_its_number.Goals as goal

pub returns : goal.returns
returns c = payload_numbered
