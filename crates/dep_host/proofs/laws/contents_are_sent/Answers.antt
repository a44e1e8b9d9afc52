use Rattle.dep_host.proofs.SendLemmas.{steps_agree}
use Rattle.dep_host.proofs.laws.contents_are_sent.Goals as goal

pub returns : goal.returns
returns g c = λ p q actions empty steps at slot h. (steps_agree g.A.Archive.condition g.R.Source.unread g.K.Sink.taken g.S.Spool.held empty steps at slot h).content
