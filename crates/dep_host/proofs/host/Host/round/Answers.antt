use Rattle.std.proofs.Common.{ℕ, Bool, Option, is_some, refl, sym, ap, subst, ◌∙◌, arith}
use Rattle.dep_slot.specs.Causes.{causes_of}
use Rattle.dep_host.specs.declared.ending.Shut.{Shut}
use Rattle.dep_slot.specs.declared.limits.Limits.{Limits}
use Rattle.dep_host.specs.declared.share.Share.{Share}
use Rattle.dep_host.specs.Actions.{Position, position, slot_at}
use Rattle.dep_host.specs.Hosting.{GoesRound, HasTime, HasNothingToDo, ServesSlot}
use Rattle.dep_host.proofs.HostLemmas.{each_goes_on, each_evicts, neither, stays_same, stays_on}
use Rattle.dep_host.proofs.ShareLemmas.{counted_first}
use Rattle.dep_host.proofs.WholeRounds.{room_for, round_begins, round_goes_on, round_ends}
use Rattle.dep_host.proofs.host.Host.round.Goals as goal

pub loop-at-init : goal.loop-at-init
loop-at-init g c = record {
  goes = round_begins g.A.Archive.condition g.R.Source.unread g.K.Sink.taken g.S.Spool.held g.S.Spool.size (causes_of g.R.Source.halts g.K.Sink.halts g.S.Spool.failures) _ _ _ _ _ c.new-share.ensures.next c.new-share.ensures.left;
  left = λ place h. absurd (let none : ⊥ = omega (arith, h) in none);
  waits = λ idle place h. absurd (let none : ⊥ = omega (arith, h) in none);
  stays = stays_same _;
  first = c.new-share.ensures.first;
}

pub loop-at-preserved : goal.loop-at-preserved
loop-at-preserved g c = record {
  goes = round_goes_on g.A.Archive.condition g.R.Source.unread g.K.Sink.taken g.S.Spool.held g.S.Spool.size (causes_of g.R.Source.halts g.K.Sink.halts g.S.Spool.failures) _ _ _ _ _ _ _ _ _ _ _ _ _ c.loop-at.invariant.goes
      (subst (λ (b : Bool). ServesSlot g.A.Archive.condition g.R.Source.unread g.K.Sink.taken g.S.Spool.held g.S.Spool.size (causes_of g.R.Source.halts g.K.Sink.halts g.S.Spool.failures) (position c.loop-at.self) (position c.serve_at-served.new.self) c.loop-at.at c.args.time.now c.is_full-is_full.result b c.serve_at-served.result.has_sent (g.L.HostLog.notes c.loop-at.log) (g.L.HostLog.notes c.serve_at-served.new.log)) c.is_turn.ensures c.serve_at-served.ensures.goes)
      c.count.ensures c.serve_at-served.ensures.others refl c.loop-at.invariant.stays.shut;
  left = each_goes_on (HasTime c.args.time.now.second c.args.self.now.limits) _ _ _ _ c.loop-at.invariant.left
      (subst (λ (n : Limits). HasTime c.args.time.now.second n (slot_at c.loop-at.at c.serve_at-served.new.self.slots.items)) (c.serve_at-served.ensures.stays.limits ∙ c.loop-at.invariant.stays.limits) c.serve_at-served.ensures.here)
      c.serve_at-served.ensures.others refl;
  waits = λ idle.
      let both = neither c.loop-at.is_busy c.serve_at-served.result.is_busy idle in
      each_goes_on (HasNothingToDo g.S.Spool.size) _ _ _ _ (c.loop-at.invariant.waits both.0) (c.serve_at-served.ensures.waits both.1)
      c.serve_at-served.ensures.others refl;
  stays = stays_on _ _ _ c.loop-at.invariant.stays c.serve_at-served.ensures.stays;
  first = ap (λ (s : Share). s.first) c.count.ensures ∙ (counted_first c.loop-at.share c.loop-at.at c.serve_at-served.result.has_sent ∙ c.loop-at.invariant.first);
}

pub serve_at-served-requires-clause-shut : goal.serve_at-served-requires-clause-shut
serve_at-served-requires-clause-shut g c = c.is_some-is_shut.ensures ∙ ap (λ (o : Option Shut). is_some o) (sym c.loop-at.invariant.stays.shut)

pub count-requires-clause-room : goal.count-requires-clause-room
count-requires-clause-room g c = λ sent. room_for g.A.Archive.condition g.R.Source.unread g.K.Sink.taken g.S.Spool.held g.S.Spool.size (causes_of g.R.Source.halts g.K.Sink.halts g.S.Spool.failures) _ _ _ _ _ _ _ _ c.loop-at.invariant.goes
    (sym c.is_turn.ensures ∙ c.serve_at-served.ensures.goes.allowed sent)

pub returns-clause-goes : goal.returns-clause-goes
returns-clause-goes g c = subst (λ (q : Position _ _ _ _). GoesRound g.A.Archive.condition g.R.Source.unread g.K.Sink.taken g.S.Spool.held g.S.Spool.size (causes_of g.R.Source.halts g.K.Sink.halts g.S.Spool.failures) (position c.args.self.now) q c.args.self.now.first c.draw_in.new.self.first c.args.time.now (g.L.HostLog.notes c.args.log.now) (g.L.HostLog.notes c.evict_largest.new.log)) (sym c.draw_in.ensures.0)
    (subst (λ (n : ℕ). GoesRound g.A.Archive.condition g.R.Source.unread g.K.Sink.taken g.S.Spool.held g.S.Spool.size (causes_of g.R.Source.halts g.K.Sink.halts g.S.Spool.failures) (position c.args.self.now) (position c.evict_largest.new.self) c.args.self.now.first n c.args.time.now (g.L.HostLog.notes c.args.log.now) (g.L.HostLog.notes c.evict_largest.new.log)) (sym (c.draw_in.ensures.1.first ∙ c.evict_largest.ensures.stays.first))
    (subst (λ (n : ℕ). GoesRound g.A.Archive.condition g.R.Source.unread g.K.Sink.taken g.S.Spool.held g.S.Spool.size (causes_of g.R.Source.halts g.K.Sink.halts g.S.Spool.failures) (position c.args.self.now) (position c.evict_largest.new.self) n c.loop-at.share.next c.args.time.now (g.L.HostLog.notes c.args.log.now) (g.L.HostLog.notes c.evict_largest.new.log)) c.loop-at.invariant.first
    (round_ends g.A.Archive.condition g.R.Source.unread g.K.Sink.taken g.S.Spool.held g.S.Spool.size (causes_of g.R.Source.halts g.K.Sink.halts g.S.Spool.failures) _ _ _ _ _ _ _ c.evict_largest.ensures.goes.0 _ _ _ c.loop-at.invariant.goes (omega (arith, c.args.self.now.within)) c.is_full-is_full.ensures (λ place h. c.args.self.now.free place (omega (arith, h))) c.evict_largest.ensures.goes.1)))

pub returns-clause-left : goal.returns-clause-left
returns-clause-left g c = subst (λ (q : Position _ _ _ _). (at : ℕ) → HasTime c.args.time.now.second q.limits (slot_at at q.slots)) (sym c.draw_in.ensures.0)
    (subst (λ (n : Limits). (at : ℕ) → HasTime c.args.time.now.second n (slot_at at c.evict_largest.new.self.slots.items)) (sym (c.evict_largest.ensures.stays.limits ∙ c.loop-at.invariant.stays.limits))
    (each_evicts (HasTime c.args.time.now.second c.args.self.now.limits) _ _ c.loop-at.at tt (λ place h. c.loop-at.invariant.goes.stays place h ∙ c.args.self.now.free place (omega (arith, h))) c.loop-at.invariant.left c.evict_largest.ensures.left))

pub returns-clause-stays : goal.returns-clause-stays
returns-clause-stays g c = record {
  places = c.draw_in.ensures.1.places ∙ (c.evict_largest.ensures.stays.places ∙ c.loop-at.invariant.stays.places);
  limits = c.draw_in.ensures.1.limits ∙ (c.evict_largest.ensures.stays.limits ∙ c.loop-at.invariant.stays.limits);
  shut = c.draw_in.ensures.1.shut ∙ (c.evict_largest.ensures.stays.shut ∙ c.loop-at.invariant.stays.shut);
  unanswered = c.draw_in.ensures.1.unanswered ∙ (c.evict_largest.ensures.stays.unanswered ∙ c.loop-at.invariant.stays.unanswered);
  first = refl;
}

pub returns-clause-waits : goal.returns-clause-waits
returns-clause-waits g c = λ idle. subst (λ (q : Position _ _ _ _). (at : ℕ) → HasNothingToDo g.S.Spool.size (slot_at at q.slots)) (sym c.draw_in.ensures.0)
    (each_evicts (HasNothingToDo g.S.Spool.size) _ _ c.loop-at.at tt (λ place h. c.loop-at.invariant.goes.stays place h ∙ c.args.self.now.free place (omega (arith, h))) (c.loop-at.invariant.waits idle) c.evict_largest.ensures.left)
