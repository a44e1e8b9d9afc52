use Rattle.std.proofs.Common.{refl}
use Rattle.dep_slot.specs.Causes.{causes_of}
use Rattle.dep_slot.proofs.SlotLemmas.{answered, delayed}
use Rattle.dep_slot.proofs.slot.Slot.answer.Goals as goal

pub returns-in-Some-clause-turn : goal.returns-in-Some-clause-turn
returns-in-Some-clause-turn g c =
    let goes = c.reply.ensures.goes in
    answered g.A.Archive.condition g.R.Source.unread g.K.Sink.taken g.S.Spool.held g.S.Spool.size (causes_of g.R.Source.halts g.K.Sink.halts g.S.Spool.failures) c.args.hub.now c.reply.new.self c.args.self.now _ c.reply.new.out c.args.moment
    c.in-Some.next c.is_sending.result (record { connection = refl; address = refl }) refl (record { next = goes.next; same_config = goes.config; clean = goes.clean; honest = goes.honest }) c.requires
    c.in-Some.ensures.replies c.in-Some.ensures.free c.in-Some.ensures.prepared c.in-Some.ensures.unbroken c.is_sending.ensures c.flush-flushed.ensures.keeps c.flush-flushed.ensures.failures c.note_answer.ensures

pub returns-in-None-clause-turn : goal.returns-in-None-clause-turn
returns-in-None-clause-turn g c =
    let goes = c.reply.ensures.goes in
    delayed g.A.Archive.condition g.R.Source.unread g.K.Sink.taken g.S.Spool.held g.S.Spool.size (causes_of g.R.Source.halts g.K.Sink.halts g.S.Spool.failures) c.args.hub.now c.reply.new.self c.args.self.now _ c.args.moment
    (record { connection = refl; address = refl }) refl (record { next = goes.next; same_config = goes.config; clean = goes.clean; honest = goes.honest }) c.requires
    (c.reply.ensures.later c.in-None.is) c.keep_back.ensures
