use Rattle.dep_hub.proofs.HoldingLemmas.{rests_holding}
use Rattle.dep_hub.proofs.laws.stops_leave_what_was_answered.Goals as goal

pub returns : goal.returns
returns g c hub first records held h = rests_holding g.A.Archive.condition hub (g.met.A.Archive.settled hub.store) first records held h
