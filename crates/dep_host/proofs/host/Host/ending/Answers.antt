use Rattle.std.proofs.Common.{inl, inr, sym, ◌∙◌}
use Rattle.dep_host.proofs.MeetLemmas.{ends_for}
use Rattle.dep_host.proofs.host.Host.ending.Goals.{then-is_empty, else-is_empty}
use Rattle.dep_host.proofs.host.Host.ending.Goals as goal

pub returns-in-Some-clause-ends : goal.returns-in-Some-clause-ends
returns-in-Some-clause-ends g c = ends_for c.args.self.now c.in-Some.shut c.args.second c.in-Some.is (elim c.if-is_empty.branch [
  | then-is_empty w ↦ inl (c.is_empty.ensures w.if-is_empty.true)
  | else-is_empty w ↦ inr (sym w.is_past.ensures ∙ (sym w.value-is ∙ c.if-is_past.true))
])
