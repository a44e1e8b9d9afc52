use Rattle.dep_host.proofs.RunLemmas.{steps_run}
use Rattle.dep_host.proofs.laws.hosts_make_a_run.Goals as goal

pub returns : goal.returns
returns g c = λ p q actions first records held s h clean.
    steps_run g.A.Archive.condition g.R.Source.unread g.K.Sink.taken g.S.Spool.held (λ store. g.met.A.Archive.honest_if_open store)
    c.answers_make_a_run.ensures.adds c.connections_make_a_run.ensures.connects c.connections_make_a_run.ensures.closes first records held s h clean
