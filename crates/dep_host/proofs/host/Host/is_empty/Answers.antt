use Rattle.std.proofs.Common.{◌≡◌, None, inl, inr, sym, ◌∙◌, arith}
use Rattle.std.proofs.lemmas.Bool.{cases_lt}
use Rattle.dep_host.proofs.HostLemmas.{one_more, nobody}
use Rattle.dep_host.proofs.host.Host.is_empty.Goals as goal

pub loop-at-init : goal.loop-at-init
loop-at-init g c = record { empty = λ place h. omega (arith, h) }

pub loop-at-preserved : goal.loop-at-preserved
loop-at-preserved g c = record {
  empty = one_more (λ x. x ≡ None) c.args.self.now.slots.items c.loop-at.at _ (omega arith) c.index.ensures (nobody _ (sym c.is_some.ensures ∙ c.if-is_some.false)) c.loop-at.invariant.empty;
}

pub returns-then-is_some : goal.returns-then-is_some
returns-then-is_some g c = λ e. cc

pub returns : goal.returns
returns g c = λ e at. elim (cases_lt at c.loop-at.at) [
  | inl lt ↦ c.loop-at.invariant.empty at lt
  | inr ge ↦ c.args.self.now.free at (omega (arith, ge, c.loop-at-test.false))
]
