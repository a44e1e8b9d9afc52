use Rattle.std.proofs.Common.{Some, None, subst, sym}
use Rattle.dep_decisions.specs.Laws.{refusal_before_room}
use Rattle.dep_operations.specs.Checks.{IsCheckedBy}
use Rattle.dep_operations.specs.Seen.{in_view}
use Rattle.dep_operations.specs.declared.order.Checked.{Checked}
use Rattle.dep_operations.proofs.SeenTruly.{refuses_undigested, refuses_unnamed}
use Rattle.dep_operations.proofs.order.refusal_before_digests.Goals as goal

pub returns-in-Refused : goal.returns-in-Refused
returns-in-Refused c =
    let config = c.args.config.now in
    let view = c.args.view.now in
    let op = c.args.operation.now in
    let checked = subst (λ (x : Checked). IsCheckedBy (refusal_before_room config (in_view view) op) op x) c.in-Refused.is c.in_ok-refusal.ensures in
    record {
      undigested = refuses_undigested config view op (Some c.in-Refused.refusal) (sym checked);
      unnamed = refuses_unnamed config view op (Some c.in-Refused.refusal) (sym checked);
    }

pub returns-in-Passed : goal.returns-in-Passed
returns-in-Passed c =
    let config = c.args.config.now in
    let view = c.args.view.now in
    let op = c.args.operation.now in
    let checked = subst (λ (x : Checked). IsCheckedBy (refusal_before_room config (in_view view) op) op x) c.in-Passed.is c.in_ok-refusal.ensures in
    record {
      undigested = refuses_undigested config view op None (sym checked.0);
      unnamed = refuses_unnamed config view op None (sym checked.0);
    }
