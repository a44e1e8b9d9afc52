use Rattle.dep_host.proofs.AwaitLemmas.{steps_begin_none}
use Rattle.dep_host.proofs.HostLemmas.{steps_join}
use Rattle.dep_host.proofs.OweLemmas.{keeps_promise}
use Rattle.dep_host.proofs.laws.no_awaited_content_begins.Goals as goal

pub returns : goal.returns
returns g c = λ p m q early late first before empty unowed h came waiting files waits clean number sends.
    steps_begin_none g.A.Archive.condition g.R.Source.unread g.K.Sink.taken g.S.Spool.held (λ store. g.met.A.Archive.honest_if_open store) waiting files
    (λ r actions steps is_clean.
    let kept = keeps_promise g.A.Archive.condition g.R.Source.unread g.K.Sink.taken g.S.Spool.held (λ store. g.met.A.Archive.honest_if_open store) c.replies_make_a_run.ensures
    p r _ first before empty unowed h (steps_join g.A.Archive.condition g.R.Source.unread g.K.Sink.taken g.S.Spool.held came steps) is_clean in
    (kept.behind.represents.world, kept.behind.holds, kept.behind.represents.at))
    waits clean number sends
