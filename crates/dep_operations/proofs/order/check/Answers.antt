use Rattle.std.proofs.Common.{◌∙◌, IfOk, Option, [], ◌∷◌, ap, subst, sym}
use Rattle.dep_types.specs.Maps.{first_of}
use Rattle.dep_types.specs.declared.refusal.Refusal.{Refusal}
use Rattle.dep_decisions.specs.Rules.{content_refusal}
use Rattle.dep_operations.specs.Checks.{IsCheckedBy}
use Rattle.dep_operations.specs.Seen.{in_view}
use Rattle.dep_operations.proofs.Checked.{content_left, nothing_left}
use Rattle.dep_operations.proofs.order.check.Goals as goal

pub returns-in-Some : goal.returns-in-Some
returns-in-Some c =
    ap (λ (a : Option Refusal). first_of (a ∷ content_refusal c.args.config.now (in_view c.args.view.now) c.args.operation.now ∷ []))
    (sym c.access_rule.ensures ∙ c.in-Some.is)

pub returns-then-has_content : goal.returns-then-has_content
returns-then-has_content c =
    let op = c.args.operation.now in
    let left = content_left c.args.config.now c.args.view.now op (sym c.access_rule.ensures ∙ c.in_default.is) (sym c.has_content.ensures ∙ c.if-has_content.true) in
    subst (λ (m : Option Refusal). IfOk c.check_content.result (IsCheckedBy m op)) left c.check_content.ensures

pub returns-else-has_content : goal.returns-else-has_content
returns-else-has_content c =
    nothing_left c.args.config.now c.args.view.now c.args.operation.now (sym c.access_rule.ensures ∙ c.in_default.is) (sym c.has_content.ensures ∙ c.if-has_content.false)
