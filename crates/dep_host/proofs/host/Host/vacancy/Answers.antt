use Rattle.std.proofs.Common.{◌≡◌, None, inl, inr, ◌∙◌, arith, rules}
use Rattle.std.proofs.lemmas.Bool.{cases_lt}
use Rattle.dep_host.proofs.HostLemmas.{one_more, slot_read, somebody, nobody}
use Rattle.dep_host.proofs.host.Host.vacancy.Goals as goal

pub loop-at-init : goal.loop-at-init
loop-at-init g c = record { taken = λ place h e. omega (arith, h) }

pub loop-at-preserved : goal.loop-at-preserved
loop-at-preserved g c = record {
  taken = one_more (λ x. x ≡ None → ⊥) c.args.self.now.slots.items c.loop-at.at _ (omega arith) c.index.ensures (somebody _ (search rules)) c.loop-at.invariant.taken;
}

pub returns-then-is_none : goal.returns-then-is_none
returns-then-is_none g c = (
  omega arith,
  slot_read c.loop-at.at c.args.self.now.slots.items _ (omega arith) c.index.ensures ∙ nobody _ (search rules),
  search rules,
)

pub returns-then-self-len : goal.returns-then-self-len
returns-then-self-len g c = (omega (arith, c.if-self-len.true, c.len.ensures), c.args.self.now.free c.args.self.now.end (omega arith), search rules)

pub returns-else-self-len : goal.returns-else-self-len
returns-else-self-len g c = λ at vacant. elim (cases_lt at c.loop-at.at) [
  | inl lt ↦ c.loop-at.invariant.taken at lt vacant.1
  | inr ge ↦ omega (arith, vacant.0, ge, c.if-self-len.false, c.len.ensures)
]
