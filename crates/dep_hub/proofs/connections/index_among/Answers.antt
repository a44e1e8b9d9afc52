use Rattle.std.proofs.Common.{refl, sym, ap, ◌∙◌, take_all}
use Rattle.dep_hub.specs.Numbers.{place_of_number}
use Rattle.dep_hub.proofs.ConnectionLemmas.{found_at, none_so_far}
use Rattle.dep_hub.proofs.connections.index_among.Goals as goal

pub loop-i-init : goal.loop-i-init
loop-i-init c = refl

pub returns-then-connection-id-clause-value : goal.returns-then-connection-id-clause-value
returns-then-connection-id-clause-value c =
    sym (found_at c.args.id c.loop-i.i c.args.connections.now c.index-connections-i.result c.loop-i-test.true (sym c.index-connections-i.is) c.loop-i.invariant
    (c.if-connection-id.true ∙ c.id.view_is))

pub loop-i-preserved : goal.loop-i-preserved
loop-i-preserved c =
    none_so_far c.args.id c.loop-i.i c.args.connections.now c.index-connections-i.result c.loop-i-test.true (sym c.index-connections-i.is) c.loop-i.invariant
    (λ e. c.if-connection-id.false (e ∙ sym c.id.view_is))

pub returns-clause-value : goal.returns-clause-value
returns-clause-value c = sym c.loop-i.invariant ∙ ap (place_of_number c.args.id) (take_all c.loop-i.i c.args.connections.now c.loop-i-test.false)
