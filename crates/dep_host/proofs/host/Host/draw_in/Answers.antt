use Rattle.std.proofs.Common.{◌≡◌, ◌-◌, ℕ, inl, inr, refl, sym, ap, ◌∙◌, arith}
use Rattle.std.proofs.lemmas.Bool.{cases_lt}
use Rattle.dep_host.specs.Actions.{slot_at}
use Rattle.dep_host.proofs.HostLemmas.{stays_same, nobody, slot_read}
use Rattle.dep_host.proofs.host.Host.draw_in.Goals as goal

pub loop-init : goal.loop-init
loop-init g c = record {
  counted = omega arith;
  same = refl;
  stays = stays_same _;
}

pub loop-preserved : goal.loop-preserved
loop-preserved g c = record {
  counted = omega (arith, c.loop.invariant.counted);
  same = c.loop.invariant.same;
  stays = record {
    places = c.loop.invariant.stays.places;
    limits = c.loop.invariant.stays.limits;
    shut = c.loop.invariant.stays.shut;
    unanswered = c.loop.invariant.stays.unanswered;
    first = c.loop.invariant.stays.first;
  };
}

pub returns : goal.returns
returns g c = (c.loop.invariant.same, c.loop.invariant.stays)

pub returns-then-is_some : goal.returns-then-is_some
returns-then-is_some g c = (
  c.loop.invariant.same,
  record {
    places = c.loop.invariant.stays.places;
    limits = c.loop.invariant.stays.limits;
    shut = c.loop.invariant.stays.shut;
    unanswered = c.loop.invariant.stays.unanswered;
    first = c.loop.invariant.stays.first;
  },
)

pub invariant_of-self : goal.invariant_of-self
invariant_of-self g c = record { within = c.loop.self.within; free = c.loop.self.free }

pub invariant_of-self-in-loop : goal.invariant_of-self-in-loop
invariant_of-self-in-loop g c = record {
  within = omega (arith, c.loop.self.within);
  free = λ at h. elim (cases_lt at c.loop.self.end) [
    | inl lt ↦
        let last : at ≡ c.loop.self.end - 1 = omega (arith, lt, h) in
        ap (λ (n : ℕ). slot_at n c.loop.self.slots.items) last
        ∙ (slot_read (c.loop.self.end - 1) c.loop.self.slots.items _ (omega (arith, c.loop.self.within, lt)) c.index.ensures ∙ nobody _ (sym c.is_some.ensures ∙ c.if-is_some.false))
    | inr ge ↦ c.loop.self.free at ge
  ];
}
