use Rattle.std.proofs.Common.{refl}
use Rattle.dep_host.proofs.HostLemmas.{ahead_alone}
use Rattle.dep_host.proofs.host.Host.work_ahead.Goals as goal

pub returns-clause-goes : goal.returns-clause-goes
returns-clause-goes g c =
    let rests = c.work_ahead-self.ensures.rests in
    ahead_alone g.A.Archive.condition g.R.Source.unread g.K.Sink.taken g.S.Spool.held _ _ rests refl refl refl
