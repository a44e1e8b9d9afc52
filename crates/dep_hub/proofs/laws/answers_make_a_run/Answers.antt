use Rattle.dep_hub.proofs.HoldingLemmas.{answer_adds, answer_stops}
use Rattle.dep_hub.proofs.laws.answers_make_a_run.Goals as goal

pub returns-clause-adds : goal.returns-clause-adds
returns-clause-adds g c old new n offered moment sent failures failures_after answer first records held h a config clean =
    answer_adds g.A.Archive.condition old new n offered moment sent failures failures_after answer first records held h a config clean

pub returns-clause-stops : goal.returns-clause-stops
returns-clause-stops g c old new n offered moment sent failures failures_after answer first records held h a =
    answer_stops g.A.Archive.condition old new n offered moment sent failures failures_after answer first records held h a
