use Rattle.std.proofs.Common.{ℕ, Some, None, refl, sym, ap, subst, inl, inr, ◌∙◌, arith}
use denote.Param.Always.{mut_next}
use Rattle.dep_types.specs.Writing.{next_count}
use Rattle.std.specs.Prelude.{IsSome}
use Rattle.dep_hub.specs.Representing.{intake_of}
use Rattle.dep_connection.proofs.TalkLemmas.{talk_none, talk_open, talk_last, talk_bound, turn_at, reads_more}
use Rattle.dep_connection.proofs.connection.converse.Goals as goal

pub loop-count-init : goal.loop-count-init
loop-count-init g c = record { call = c.requires.call; same = refl; there = c.requires.there; reads = refl; last = inl refl; flushed = λ h. h; out = inl refl; talk = talk_none g.A.Archive.condition _ _ _ _ _ }

pub loop-count-preserved : goal.loop-count-preserved
loop-count-preserved g c = record {
  call = mut_next g.C.FnMut _ tt _ _ _ c.in_default.ensures.turn.turn.ticked refl c.loop-count.invariant.call;
  same = c.turn.ensures.same ∙ c.loop-count.invariant.same;
  there = subst (λ (n : ℕ). IsSome (intake_of c.turn.new.hub.connections.items n)) c.loop-count.invariant.same c.turn.ensures.there;
  reads = c.in_default.ensures.turn.turn.reads ∙ (ap next_count c.loop-count.invariant.reads ∙ sym (reads_more _ c.loop-count.count));
  last = inr c.in_default.ensures.turn.turn.last;
  flushed = λ h. c.turn.ensures.flushed (c.loop-count.invariant.flushed h);
  out = inr c.in_default.ensures.turn.gone_out;
  talk = talk_open g.A.Archive.condition _ _ _ _ _ _ _ _ c.loop-count.invariant.talk c.loop-count.invariant.out
      (turn_at g.A.Archive.condition _ _ _ _ _ _ _ None c.loop-count.invariant.same c.in_default.ensures.turn);
}

pub returns-in-Some : goal.returns-in-Some
returns-in-Some g c = record {
  talks = talk_last g.A.Archive.condition _ _ _ _ _ _ _ c.in-Some.end _ (omega (arith, c.loop-count-test.true))
      c.loop-count.invariant.reads c.loop-count.invariant.talk c.loop-count.invariant.out
      (turn_at g.A.Archive.condition _ _ _ _ _ _ _ (Some c.in-Some.end) c.loop-count.invariant.same c.in-Some.ensures.turn);
  flushed = λ h. c.turn.ensures.flushed (c.loop-count.invariant.flushed h);
}

pub returns : goal.returns
returns g c = record {
  talks = talk_bound g.A.Archive.condition _ _ _ _ _ _ _ (omega arith) c.loop-count.invariant.reads c.loop-count.invariant.last c.loop-count.invariant.talk c.loop-count.invariant.out;
  flushed = c.loop-count.invariant.flushed;
}
