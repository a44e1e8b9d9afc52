use Rattle.dep_host.proofs.OweLemmas.{pays_off}
use Rattle.dep_host.proofs.laws.sending_ends.Goals as goal

pub returns : goal.returns
returns g c = λ p m q early late first before empty unowed h came goes clean.
    pays_off g.A.Archive.condition g.R.Source.unread g.K.Sink.taken g.S.Spool.held (λ store. g.met.A.Archive.honest_if_open store) c.replies_make_a_run.ensures p m q early late first before empty unowed h came goes clean
