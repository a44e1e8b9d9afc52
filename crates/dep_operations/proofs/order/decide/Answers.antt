use Rattle.std.proofs.Common.{subst}
use Rattle.dep_decisions.specs.Laws.{refusal_before_room}
use Rattle.dep_operations.specs.Checks.{IsCheckedBy, IsRoomRuling}
use Rattle.dep_operations.specs.Rulings.{HasRoomFor, RulesBy}
use Rattle.dep_operations.specs.Seen.{in_view}
use Rattle.dep_operations.specs.declared.order.Checked.{Checked}
use Rattle.dep_operations.specs.declared.ruling.Ruling.TheVariants.{Refuse}
use Rattle.dep_operations.proofs.Results.{if_ok}
use Rattle.dep_operations.proofs.SeenTruly.{has_room_by, refused_before_room, ruled_by_room, rules_by}
use Rattle.dep_operations.proofs.order.decide.Goals as goal

pub returns-in-Refused-clause-ruling : goal.returns-in-Refused-clause-ruling
returns-in-Refused-clause-ruling c =
    let config = c.args.config.now in
    let view = c.args.view.now in
    let op = c.args.operation.now in
    let checked = subst (λ (x : Checked). IsCheckedBy (refusal_before_room config (in_view view) op) op x) c.in-Refused.is c.in_ok-refusal.ensures in
    rules_by config view op (Refuse c.in-Refused.refusal) (refused_before_room config view op c.in-Refused.refusal checked)

pub returns-in-Passed-clause-ruling : goal.returns-in-Passed-clause-ruling
returns-in-Passed-clause-ruling c =
    let config = c.args.config.now in
    let view = c.args.view.now in
    let op = c.args.operation.now in
    let checked = subst (λ (x : Checked). IsCheckedBy (refusal_before_room config (in_view view) op) op x) c.in-Passed.is c.in_ok-refusal.ensures in
    if_ok c.rule_by_room.result (IsRoomRuling config view op) (RulesBy config view op)
    (λ ruling room. rules_by config view op ruling (ruled_by_room config view op ruling checked.0 room)) (c.rule_by_room.ensures config)

pub returns-in-Passed-clause-room : goal.returns-in-Passed-clause-room
returns-in-Passed-clause-room c =
    let config = c.args.config.now in
    let view = c.args.view.now in
    let op = c.args.operation.now in
    if_ok c.rule_by_room.result (IsRoomRuling config view op) (HasRoomFor view.next) (has_room_by config view op) (c.rule_by_room.ensures config)
