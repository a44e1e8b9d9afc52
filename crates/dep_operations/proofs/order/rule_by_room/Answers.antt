use Rattle.std.proofs.Common.{◌∙◌, List, Option, ap}
use Rattle.dep_types.specs.declared.refusal.Refusal.TheVariants.{StoreFull}
use Rattle.dep_docs_in.specs.declared.reference.Reference.{Reference}
use Rattle.dep_decisions.specs.Decisions.{decision_with}
use Rattle.dep_decisions.specs.Rules.{unless}
use Rattle.dep_operations.proofs.SeenTruly.{room_reported}
use Rattle.dep_operations.proofs.order.rule_by_room.Goals as goal

pub returns-then-has_room : goal.returns-then-has_room
returns-then-has_room c config =
    let view = c.args.view.now in
    let op = c.args.operation.now in
    let asked = c.in_ok-decision.ensures ∙ ap (λ (refs : Option (List Reference)). decision_with refs op) c.as_ref.ensures.value in
    (room_reported config view op _ _ _ asked c.numbers_for.ensures c.has_room.ensures ∙ ap (λ b. unless b StoreFull) c.if-has_room.true, asked)

pub returns-else-has_room : goal.returns-else-has_room
returns-else-has_room c config =
    let view = c.args.view.now in
    let op = c.args.operation.now in
    let asked = c.in_ok-decision.ensures ∙ ap (λ (refs : Option (List Reference)). decision_with refs op) c.as_ref.ensures.value in
    room_reported config view op _ _ _ asked c.numbers_for.ensures c.has_room.ensures ∙ ap (λ b. unless b StoreFull) c.if-has_room.false
