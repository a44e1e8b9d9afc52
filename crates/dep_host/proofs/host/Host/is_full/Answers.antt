use Rattle.std.proofs.Common.{ℕ, nat_lt, ap, sym, ◌∙◌, arith}
use Rattle.dep_host.specs.Actions.{unfinished_of}
use Rattle.dep_host.proofs.HostLemmas.{kept_front, kept_more, slot_read}
use Rattle.dep_host.proofs.host.Host.is_full.Goals as goal

pub loop-at-preserved : goal.loop-at-preserved
loop-at-preserved g c =
    let more = kept_more c.args.self.now.slots.items c.loop-at.at (omega arith) in
    let here = ap (λ s. unfinished_of s) (slot_read c.loop-at.at c.args.self.now.slots.items _ (omega arith) c.index.ensures) in
    record {
      sum = omega (arith, more, here, c.loop-at.invariant.sum, c.unfinished.ensures);
      small = omega (arith, c.loop-at.invariant.small);
    }

pub returns : goal.returns
returns g c = ap (λ (n : ℕ). nat_lt c.args.self.now.limits.unfinished_bytes n)
    (c.loop-at.invariant.sum ∙ sym (kept_front c.args.self.now.slots.items c.loop-at.at (λ place h. c.args.self.now.free place (omega (arith, h, c.loop-at-test.false)))))
