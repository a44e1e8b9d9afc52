use Rattle.std.proofs.Common.{ap, ◌∙◌}
use Rattle.dep_host.specs.Actions.{slot_at}
use Rattle.dep_host.proofs.HostLemmas.{none_more}
use Rattle.dep_host.proofs.host.empty_slots.Goals as goal

pub loop-preserved : goal.loop-preserved
loop-preserved g c = λ at. ap (λ l. slot_at at l) c.in_ok-push.ensures.items ∙ none_more _ c.loop.invariant at

pub loop-init : goal.loop-init
loop-init g c = λ at. ap (λ l. slot_at at l) c.in_ok-slots.ensures.items

pub returns : goal.returns
returns g c = c.loop.invariant
