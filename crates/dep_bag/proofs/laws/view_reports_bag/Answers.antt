use Rattle.dep_bag.proofs.ReportedBag.{reported_bag}
use Rattle.dep_bag.proofs.laws.view_reports_bag.Goals as goal

pub returns : goal.returns
returns c = reported_bag
