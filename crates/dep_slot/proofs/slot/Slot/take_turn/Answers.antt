use Rattle.dep_slot.specs.Causes.{causes_of}
use Rattle.dep_slot.proofs.CountedLemmas.{counted}
use Rattle.dep_slot.proofs.slot.Slot.take_turn.Goals as goal

pub returns-clause-turn : goal.returns-clause-turn
returns-clause-turn g c =
    counted g.A.Archive.condition g.R.Source.unread g.K.Sink.taken g.S.Spool.held g.S.Spool.size (causes_of g.R.Source.halts g.K.Sink.halts g.S.Spool.failures) c.args.hub.now c.act.new.hub c.args.self.now c.act.new.self _ c.saturating_sub-sent.result c.args.turn.now.time.moment c.args.turn.now.is_full c.args.turn.now.is_shut c.args.turn.now.may_send
    c.act.ensures.turn c.count.ensures
