use Rattle.dep_host.proofs.ReportLemmas.{wires_take}
use Rattle.dep_host.proofs.laws.wires_take_what_is_sent.Goals as goal

pub returns : goal.returns
returns g c = λ p q actions reports holds empty s at slot h. wires_take g.A.Archive.condition g.R.Source.unread g.K.Sink.taken g.S.Spool.held p q actions reports holds empty s at slot h
