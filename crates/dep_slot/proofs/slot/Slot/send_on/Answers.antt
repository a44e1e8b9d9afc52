use Rattle.std.proofs.Common.{refl}
use Rattle.dep_slot.specs.Causes.{causes_of}
use Rattle.dep_slot.proofs.SlotLemmas.{sent_on}
use Rattle.dep_slot.proofs.slot.Slot.send_on.Goals as goal

pub returns-clause-turn : goal.returns-clause-turn
returns-clause-turn g c =
    let goes = c.send_on-sent_on.ensures.goes in
    sent_on g.A.Archive.condition g.R.Source.unread g.K.Sink.taken g.S.Spool.held g.S.Spool.size (causes_of g.R.Source.halts g.K.Sink.halts g.S.Spool.failures) c.args.hub.now c.send_on-sent_on.new.self c.args.self.now _ _ _ c.send_on-sent_on.result
    (record { connection = refl; address = refl }) (record { next = goes.next; same_config = goes.config; clean = goes.clean; honest = goes.honest })
    c.requires.due c.requires.unowed refl c.send_on-sent_on.ensures.sends c.flush-left.ensures.keeps c.flush-left.ensures.failures
    c.note_sent.ensures
