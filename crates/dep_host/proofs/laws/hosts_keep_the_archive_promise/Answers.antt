use Rattle.dep_host.proofs.OweLemmas.{keeps_promise}
use Rattle.dep_host.proofs.laws.hosts_keep_the_archive_promise.Goals as goal

pub returns : goal.returns
returns g c = λ p q actions first before empty unowed h steps clean.
    keeps_promise g.A.Archive.condition g.R.Source.unread g.K.Sink.taken g.S.Spool.held (λ store. g.met.A.Archive.honest_if_open store) c.replies_make_a_run.ensures p q actions first before empty unowed h steps clean
