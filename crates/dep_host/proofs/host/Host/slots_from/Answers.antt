use Rattle.std.proofs.Common.{Option, sym, ap, ◌∙◌, refl, arith}
use Rattle.std.proofs.lemmas.List.Sums.{count_by_more_no, count_by_more_yes}
use Rattle.dep_host.specs.Coming.{comes_from, slots_from}
use Rattle.dep_host.proofs.HostLemmas.{from_front}
use Rattle.dep_host.proofs.host.Host.slots_from.Goals.{then-comes_from, else-comes_from}
use Rattle.dep_host.proofs.host.Host.slots_from.Goals as goal

pub loop-at-init : goal.loop-at-init
loop-at-init g c = record { within = omega arith; counted = refl }

pub loop-at-preserved : goal.loop-at-preserved
loop-at-preserved g c =
    let there = ap (λ (o : Option _). comes_from c.origin-from.result o) (sym c.index.ensures) ∙ sym c.comes_from.ensures in
    elim c.if-comes_from.branch [
      | then-comes_from w ↦
          let more = count_by_more_yes (λ (o : Option _). comes_from c.origin-from.result o) c.args.self.now.slots.items c.loop-at.at _ (omega arith) (there ∙ w.if-comes_from.true) in
          record { within = omega (arith, w.count-is, c.loop-at.invariant.within); counted = omega (arith, w.count-is, more, c.loop-at.invariant.counted) }
      | else-comes_from w ↦
          let more = count_by_more_no (λ (o : Option _). comes_from c.origin-from.result o) c.args.self.now.slots.items c.loop-at.at _ (omega arith) (there ∙ w.if-comes_from.false) in
          record { within = omega (arith, w.count-is, c.loop-at.invariant.within); counted = omega (arith, w.count-is, more, c.loop-at.invariant.counted) }
    ]

pub overflow_add-count : goal.overflow_add-count
overflow_add-count g c = omega (arith, c.loop-at.invariant.within)

pub returns : goal.returns
returns g c = c.loop-at.invariant.counted
    ∙ (sym (from_front c.origin-from.result c.args.self.now.slots.items c.loop-at.at (λ place h. c.args.self.now.free place (omega (arith, h, c.loop-at-test.false))))
    ∙ ap (λ from. slots_from from c.args.self.now.slots.items) c.origin-from.ensures)
