use Rattle.std.proofs.Common.{inl, refl, sym, ap, subst, Bool, ◌∙◌}
use Rattle.std.proofs.lemmas.Bool.{ltb-true}
use Rattle.dep_slot.specs.declared.connection_state.ConnectionState.{ConnectionState}
use Rattle.dep_slot.specs.declared.connection_state.NextAction.TheVariants.{Read, Wait}
use Rattle.dep_slot.specs.Causes.{causes_of}
use Rattle.dep_slot.specs.Slots.{TakesTurn}
use Rattle.dep_slot.proofs.SlotLemmas.{put_off, flushed, finished, drained, rested_so}
use Rattle.dep_slot.proofs.PhaseLemmas.{sends_owed, sends_unowed, drains_ended}
use Rattle.dep_slot.proofs.slot.Slot.act.Goals as goal

pub returns-in-Flush-clause-turn : goal.returns-in-Flush-clause-turn
returns-in-Flush-clause-turn g c = flushed g.A.Archive.condition g.R.Source.unread g.K.Sink.taken g.S.Spool.held g.S.Spool.size (causes_of g.R.Source.halts g.K.Sink.halts g.S.Spool.failures) c.args.hub.now c.args.self.now c.flush.new.self c.args.turn.now.time.moment c.args.turn.now.is_full c.args.turn.now.is_shut c.args.turn.now.may_send _ _
    c.flush.ensures.same c.flush.ensures.keeps c.flush.ensures.state (sym c.next_action.ensures.next ∙ c.in-Flush.is)
    (c.flush.ensures.sends (ltb-true 0 _ (sends_owed _ _ _ _ _ (sym c.next_action.ensures.next ∙ c.in-Flush.is)))) c.flush.ensures.caused

pub returns-in-Answer-clause-turn : goal.returns-in-Answer-clause-turn
returns-in-Answer-clause-turn g c = c.answer.ensures.turn c.args.turn.now.is_full c.args.turn.now.is_shut c.args.turn.now.may_send

pub returns-then-may_read-clause-turn : goal.returns-then-may_read-clause-turn
returns-then-may_read-clause-turn g c = c.read.ensures.turn c.args.turn.now.time.moment c.args.turn.now.is_full c.args.turn.now.is_shut c.args.turn.now.may_send (c.may_read.ensures.first c.if-may_read.true) (c.may_read.ensures.shut c.if-may_read.true)

pub returns-else-may_read-clause-turn : goal.returns-else-may_read-clause-turn
returns-else-may_read-clause-turn g c = rested_so g.A.Archive.condition g.R.Source.unread g.K.Sink.taken g.S.Spool.held g.S.Spool.size (causes_of g.R.Source.halts g.K.Sink.halts g.S.Spool.failures) c.args.hub.now c.args.self.now c.args.turn.now.time.moment c.args.turn.now.is_full c.args.turn.now.is_shut c.args.turn.now.may_send Read
    (sym c.next_action.ensures.next ∙ c.in-Read.is) (inl (c.may_read.ensures.held_back c.if-may_read.false, refl))

pub returns-in-Finish-clause-turn : goal.returns-in-Finish-clause-turn
returns-in-Finish-clause-turn g c = finished g.A.Archive.condition g.R.Source.unread g.K.Sink.taken g.S.Spool.held g.S.Spool.size (causes_of g.R.Source.halts g.K.Sink.halts g.S.Spool.failures) c.args.hub.now c.args.self.now c.finish.new.self c.args.turn.now.time.moment c.args.turn.now.is_full c.args.turn.now.is_shut c.args.turn.now.may_send _ _
    c.finish.ensures.same c.finish.ensures.keeps (ap (λ (d : ConnectionState). d.phase) c.finish.ensures.state) (ap (λ (d : ConnectionState). d.is_readable) c.finish.ensures.state) (ap (λ (d : ConnectionState). d.is_writable) c.finish.ensures.state) (sym c.next_action.ensures.next ∙ c.in-Finish.is)

pub returns-in-Drain-clause-turn : goal.returns-in-Drain-clause-turn
returns-in-Drain-clause-turn g c = drained g.A.Archive.condition g.R.Source.unread g.K.Sink.taken g.S.Spool.held g.S.Spool.size (causes_of g.R.Source.halts g.K.Sink.halts g.S.Spool.failures) c.args.hub.now c.args.self.now c.drain.new.self c.args.turn.now.time.moment c.args.turn.now.is_full c.args.turn.now.is_shut c.args.turn.now.may_send _ _
    c.drain.ensures.same c.drain.ensures.state (sym c.next_action.ensures.next ∙ c.in-Drain.is)
    (drains_ended _ _ _ _ _ (sym c.next_action.ensures.next ∙ c.in-Drain.is)) c.drain.ensures.caused

pub returns-in-Wait-clause-turn : goal.returns-in-Wait-clause-turn
returns-in-Wait-clause-turn g c = rested_so g.A.Archive.condition g.R.Source.unread g.K.Sink.taken g.S.Spool.held g.S.Spool.size (causes_of g.R.Source.halts g.K.Sink.halts g.S.Spool.failures) c.args.hub.now c.args.self.now c.args.turn.now.time.moment c.args.turn.now.is_full c.args.turn.now.is_shut c.args.turn.now.may_send Wait
    (sym c.next_action.ensures.next ∙ c.in-Wait.is) refl

pub returns-then-turn-clause-turn : goal.returns-then-turn-clause-turn
returns-then-turn-clause-turn g c =
    subst (λ (b : Bool). TakesTurn g.A.Archive.condition g.R.Source.unread g.K.Sink.taken g.S.Spool.held g.S.Spool.size (causes_of g.R.Source.halts g.K.Sink.halts g.S.Spool.failures) c.args.hub.now c.send_on.new.hub c.args.self.now c.send_on.new.self c.args.turn.now.time.moment c.args.turn.now.is_full c.args.turn.now.is_shut b)
    (sym c.if-turn.true) (c.send_on.ensures.turn c.args.turn.now.time.moment c.args.turn.now.is_full c.args.turn.now.is_shut)

pub returns-else-turn-clause-turn : goal.returns-else-turn-clause-turn
returns-else-turn-clause-turn g c = put_off g.A.Archive.condition g.R.Source.unread g.K.Sink.taken g.S.Spool.held g.S.Spool.size (causes_of g.R.Source.halts g.K.Sink.halts g.S.Spool.failures) c.args.hub.now c.args.self.now c.put_off.new.self c.args.turn.now.time.moment c.args.turn.now.is_full c.args.turn.now.is_shut c.args.turn.now.may_send c.if-turn.false
    (sym c.next_action.ensures.next ∙ c.in-Send.is) c.put_off.ensures

pub send_on-requires-clause-due : goal.send_on-requires-clause-due
send_on-requires-clause-due g c = sym c.next_action.ensures.next ∙ c.in-Send.is

pub send_on-requires-clause-unowed : goal.send_on-requires-clause-unowed
send_on-requires-clause-unowed g c = λ none. c.next_action.ensures.unowed (sends_unowed _ _ _ _ _ (sym c.next_action.ensures.next ∙ c.in-Send.is) none)
