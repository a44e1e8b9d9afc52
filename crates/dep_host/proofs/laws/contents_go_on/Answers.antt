use Rattle.dep_slot.specs.Causes.{causes_of}
use Rattle.dep_host.proofs.WholeRounds.{goes_on_in_turn}
use Rattle.dep_host.proofs.laws.contents_go_on.Goals as goal

pub returns : goal.returns
returns g c = λ p q first next time reported reports round place slot sat sending turn.
    goes_on_in_turn g.A.Archive.condition g.R.Source.unread g.K.Sink.taken g.S.Spool.held g.S.Spool.size (causes_of g.R.Source.halts g.K.Sink.halts g.S.Spool.failures) p q first next time reported reports round place slot sat sending turn
