use Rattle.dep_slot.specs.Causes.{causes_of}
use Rattle.dep_host.proofs.HostLemmas.{steps_join}
use Rattle.dep_host.proofs.OweLemmas.{keeps_promise, pays_off}
use Rattle.dep_host.proofs.WaitRounds.{becomes_free, rounds_steps}
use Rattle.dep_host.proofs.laws.waiting_requests_become_free.Goals as goal

pub returns : goal.returns
returns g c = λ p m q early late state before empty unowed h came waiting files first rounds within goes clean.
    let causes = causes_of g.R.Source.halts g.K.Sink.halts g.S.Spool.failures in
    let paid = pays_off g.A.Archive.condition g.R.Source.unread g.K.Sink.taken g.S.Spool.held (λ store. g.met.A.Archive.honest_if_open store) c.replies_make_a_run.ensures
    p m q early late state before empty unowed h came
    (rounds_steps g.A.Archive.condition g.R.Source.unread g.K.Sink.taken g.S.Spool.held g.S.Spool.size causes (λ store. g.met.A.Archive.honest_if_open store) waiting files goes) clean in (
      paid.0,
      λ k enough.
          becomes_free g.A.Archive.condition g.R.Source.unread g.K.Sink.taken g.S.Spool.held g.S.Spool.size causes (λ store. g.met.A.Archive.honest_if_open store) waiting files
          paid.0.owed paid.1.owed empty unowed came
          (λ r actions steps is_clean.
          let kept = keeps_promise g.A.Archive.condition g.R.Source.unread g.K.Sink.taken g.S.Spool.held (λ store. g.met.A.Archive.honest_if_open store) c.replies_make_a_run.ensures
          p r _ state before empty unowed h (steps_join g.A.Archive.condition g.R.Source.unread g.K.Sink.taken g.S.Spool.held came steps) is_clean in
          (kept.behind.represents.world, kept.behind.holds, kept.behind.represents.at))
          within goes clean paid.2 k enough,
    )
