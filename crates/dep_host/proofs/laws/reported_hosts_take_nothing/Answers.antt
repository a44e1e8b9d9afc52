use Rattle.dep_host.proofs.ShutLemmas.{steps_outgoing}
use Rattle.dep_host.proofs.laws.reported_hosts_take_nothing.Goals as goal

pub returns : goal.returns
returns g c = λ p q actions since reported steps. steps_outgoing g.A.Archive.condition g.R.Source.unread g.K.Sink.taken g.S.Spool.held since steps reported
