use Rattle.dep_bag.proofs.Reports.{reports}
use Rattle.dep_bag.proofs.laws.valid_bag_reports_each_file.Goals as goal

pub returns : goal.returns
returns c = reports
