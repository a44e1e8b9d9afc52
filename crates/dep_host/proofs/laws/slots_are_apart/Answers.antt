use Rattle.dep_host.proofs.ReportLemmas.{slots_stay, slots_apart}
use Rattle.dep_host.proofs.laws.slots_are_apart.Goals as goal

pub returns-clause-apart : goal.returns-clause-apart
returns-clause-apart g c = λ p q actions empty steps a b s t h k same. slots_apart g.A.Archive.condition g.R.Source.unread g.K.Sink.taken g.S.Spool.held p q actions empty steps a b s t h k same

pub returns-clause-open : goal.returns-clause-open
returns-clause-open g c = λ p q actions empty steps at slot h. slots_stay g.A.Archive.condition g.R.Source.unread g.K.Sink.taken g.S.Spool.held p q actions empty steps at slot h
