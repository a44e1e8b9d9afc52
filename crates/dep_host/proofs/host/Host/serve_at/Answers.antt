use Rattle.std.proofs.Common.{Option, None, Some, refl, sym, subst, ◌∙◌, arith}
use Rattle.std.proofs.Math.ListN.{length-set}
use Rattle.dep_slot.specs.Causes.{causes_of}
use Rattle.dep_slot.specs.declared.slot.Slot.{Slot}
use Rattle.dep_host.specs.Hosting.{HasTime, HasNothingToDo}
use Rattle.std.proofs.lemmas.List.{get_or-set_same, get_or-set_other}
use Rattle.dep_host.proofs.HostLemmas.{within_still, free_once_left, free_where_sat, slot_read, closes_there, stays_on, stays_set}
use Rattle.dep_host.proofs.ServeLemmas.{served, served_none, closes_served}
use Rattle.dep_host.proofs.host.Host.serve_at.Goals as goal

pub returns-in_default-clause-goes : goal.returns-in_default-clause-goes
returns-in_default-clause-goes g c =
    served_none g.A.Archive.condition g.R.Source.unread g.K.Sink.taken g.S.Spool.held g.S.Spool.size (causes_of g.R.Source.halts g.K.Sink.halts g.S.Spool.failures) _ _ c.args.at c.args.turn.now.time c.args.turn.now.is_full c.args.turn.now.may_send _ _ c.index_mut.result.now refl refl refl refl refl c.requires.there c.index_mut.ensures.value c.in_default.is

pub returns-clause-goes : goal.returns-clause-goes
returns-clause-goes g c =
    let begins = c.begin_turn.ensures in
    served g.A.Archive.condition g.R.Source.unread g.K.Sink.taken g.S.Spool.held g.S.Spool.size (causes_of g.R.Source.halts g.K.Sink.halts g.S.Spool.failures) _ _ c.args.at c.args.turn.now.time c.args.turn.now.is_full c.args.turn.now.is_shut c.args.turn.now.may_send c.take_turn-outcome.result.has_sent _ _ _ _ c.in-Some.slot c.begin_turn.new.self c.take_turn-outcome.new.self
    c.take_turn-outcome.ensures.noted c.requires.there (slot_read _ _ _ c.requires.there c.index_mut.ensures.value ∙ c.in-Some.is) refl refl refl begins.same begins.opens begins.ended begins.unfinished begins.phase begins.readable begins.writable c.requires.shut begins.awaited c.is_awaited-is_awaited.ensures refl c.take_turn-outcome.ensures.sent c.take_turn-outcome.ensures.unsent c.take_turn-outcome.ensures.turn

pub returns-clause-here : goal.returns-clause-here
returns-clause-here g c =
    subst (λ (o : Option (Slot _ _ _)). HasTime c.args.turn.now.time.second c.args.self.now.limits o) (sym (get_or-set_same _ c.args.at _ None c.requires.there)) (sym c.closing-closing.ensures ∙ c.in_default-closing.is)

pub returns-clause-others : goal.returns-clause-others
returns-clause-others g c = λ place ne. get_or-set_other _ c.args.at place _ None ne

pub returns-clause-stays : goal.returns-clause-stays
returns-clause-stays g c = stays_set _ _ c.args.at _ refl refl refl refl refl

pub close-requires-clause-there : goal.close-requires-clause-there
close-requires-clause-there g c = let there = c.requires.there in omega (arith, there, length-set c.args.self.now.slots.items c.args.at (Some c.take_turn-outcome.new.self))

pub close-requires-clause-done : goal.close-requires-clause-done
close-requires-clause-done g c =
    closes_there _ c.args.at c.args.turn.now.time.second c.take_turn-outcome.new.self c.closing-closing.result c.in-Some-closing.closing (get_or-set_same _ c.args.at _ None c.requires.there) c.closing-closing.ensures c.in-Some-closing.is

pub returns-in-Some-closing-clause-goes : goal.returns-in-Some-closing-clause-goes
returns-in-Some-closing-clause-goes g c =
    let begins = c.begin_turn.ensures in
    closes_served g.A.Archive.condition g.R.Source.unread g.K.Sink.taken g.S.Spool.held g.S.Spool.size (causes_of g.R.Source.halts g.K.Sink.halts g.S.Spool.failures) _ _ _ c.args.at c.args.turn.now.time c.args.turn.now.is_full c.args.turn.now.may_send c.take_turn-outcome.result.has_sent _ _ _ c.in-Some-closing.closing _ c.close.ensures.goes.goes
    (closes_there _ c.args.at c.args.turn.now.time.second c.take_turn-outcome.new.self c.closing-closing.result c.in-Some-closing.closing (get_or-set_same _ c.args.at _ None c.requires.there) c.closing-closing.ensures c.in-Some-closing.is)
    (served g.A.Archive.condition g.R.Source.unread g.K.Sink.taken g.S.Spool.held g.S.Spool.size (causes_of g.R.Source.halts g.K.Sink.halts g.S.Spool.failures) _ _ c.args.at c.args.turn.now.time c.args.turn.now.is_full c.args.turn.now.is_shut c.args.turn.now.may_send c.take_turn-outcome.result.has_sent _ _ _ _ c.in-Some.slot c.begin_turn.new.self c.take_turn-outcome.new.self
    c.take_turn-outcome.ensures.noted c.requires.there (slot_read _ _ _ c.requires.there c.index_mut.ensures.value ∙ c.in-Some.is) refl refl refl begins.same begins.opens begins.ended begins.unfinished begins.phase begins.readable begins.writable c.requires.shut begins.awaited c.is_awaited-is_awaited.ensures refl c.take_turn-outcome.ensures.sent c.take_turn-outcome.ensures.unsent c.take_turn-outcome.ensures.turn)
    c.close.ensures.noted

pub returns-in-Some-closing-clause-others : goal.returns-in-Some-closing-clause-others
returns-in-Some-closing-clause-others g c = λ place ne. c.close.ensures.goes.others place ne ∙ get_or-set_other _ c.args.at place _ None ne

pub returns-in-Some-closing-clause-stays : goal.returns-in-Some-closing-clause-stays
returns-in-Some-closing-clause-stays g c = stays_on _ _ _ (stays_set _ _ c.args.at _ refl refl refl refl refl) c.close.ensures.goes.stays

pub returns-in_default-clause-here : goal.returns-in_default-clause-here
returns-in_default-clause-here g c = subst (λ (o : Option (Slot _ _ _)). HasTime c.args.turn.now.time.second c.args.self.now.limits o) (sym (get_or-set_same _ c.args.at _ None c.requires.there ∙ c.in_default.is)) tt

pub returns-in_default-clause-waits : goal.returns-in_default-clause-waits
returns-in_default-clause-waits g c = λ idle. subst (λ (o : Option (Slot _ _ _)). HasNothingToDo g.S.Spool.size o) (sym (get_or-set_same _ c.args.at _ None c.requires.there ∙ c.in_default.is)) tt

pub returns-in_default-clause-others : goal.returns-in_default-clause-others
returns-in_default-clause-others g c = λ place ne. get_or-set_other _ c.args.at place _ None ne

pub returns-in_default-clause-stays : goal.returns-in_default-clause-stays
returns-in_default-clause-stays g c = stays_set _ _ c.args.at _ refl refl refl refl refl

pub returns-in-Some-closing-clause-here : goal.returns-in-Some-closing-clause-here
returns-in-Some-closing-clause-here g c = subst (λ (o : Option (Slot _ _ _)). HasTime c.args.turn.now.time.second c.close.new.self.limits o) (sym c.close.ensures.goes.gone) tt

pub returns-in-Some-closing-clause-waits : goal.returns-in-Some-closing-clause-waits
returns-in-Some-closing-clause-waits g c = λ idle. subst (λ (o : Option (Slot _ _ _)). HasNothingToDo g.S.Spool.size o) (sym c.close.ensures.goes.gone) tt

pub returns-clause-waits : goal.returns-clause-waits
returns-clause-waits g c = λ idle. subst (λ (o : Option (Slot _ _ _)). HasNothingToDo g.S.Spool.size o) (sym (get_or-set_same _ c.args.at _ None c.requires.there)) (c.take_turn-outcome.ensures.waits idle)

pub invariant_of-self : goal.invariant_of-self
invariant_of-self g c = record {
  within = within_still _ c.args.at _ _ c.args.self.now.within;
  free = free_once_left _ c.args.at _ _ c.requires.there c.in_default.is c.args.self.now.free;
}

pub invariant_of-self-2 : goal.invariant_of-self-2
invariant_of-self-2 g c = record {
  within = within_still _ c.args.at _ _ c.args.self.now.within;
  free = free_where_sat _ c.args.at _ _ c.in-Some.slot (slot_read _ _ _ c.requires.there c.index_mut.ensures.value ∙ c.in-Some.is) c.args.self.now.free;
}
