use Rattle.std.proofs.Common.{◌≡◌, ◌∙◌, IfOk, Option, subst, sym, refl}
use Rattle.std.specs.Prelude.{IfSome}
use Rattle.dep_types.specs.declared.refusal.Refusal.{Refusal}
use Rattle.dep_fixity.specs.Fixity.{digests_of}
use Rattle.dep_fixity.specs.declared.hasher.Digests.{Digests}
use Rattle.dep_operations.specs.Checks.{IsCheckedBy}
use Rattle.dep_operations.proofs.Checked.{content_reported, document_left, no_document, promised_are}
use Rattle.dep_operations.proofs.order.check_content.Goals as goal

pub returns-in-Some : goal.returns-in-Some
returns-in-Some c =
    content_reported c.args.config.now c.args.view.now c.args.operation.now _ _ _ _ (sym c.in-Some.is ∙ c.fields_rule.ensures) refl refl refl

pub returns-in-Some-mismatch : goal.returns-in-Some-mismatch
returns-in-Some-mismatch c =
    content_reported c.args.config.now c.args.view.now c.args.operation.now _ _ _ _ (sym c.in_default.is ∙ c.fields_rule.ensures)
    (sym c.in-Some-mismatch.is ∙ c.digest_rule-mismatch.ensures) refl refl

pub returns-in-Some-size_rule : goal.returns-in-Some-size_rule
returns-in-Some-size_rule c =
    let config = c.args.config.now in
    let view = c.args.view.now in
    let op = c.args.operation.now in
    let size = sym c.in-Some-size_rule.is ∙ c.size_rule.ensures in
    content_reported config view op _ _ _ _ (sym c.in_default.is ∙ c.fields_rule.ensures) (sym c.in_default-mismatch.is ∙ c.digest_rule-mismatch.ensures)
    (sym (no_document config view op c.in-Some-size_rule.refusal (sym size))) size

pub check_document-requires : goal.check_document-requires
check_document-requires c = record {
  purpose = c.requires;
  digests = subst (λ (o : Option Digests). IfSome o (λ d. d ≡ digests_of c.args.operation.now.content)) (sym c.digests_if_promised-digests.ensures)
      (promised_are c.args.operation.now c.args.operation.now.fields.digest);
}

pub returns : goal.returns
returns c =
    let config = c.args.config.now in
    let op = c.args.operation.now in
    let left = document_left config c.args.view.now op (sym c.in_default.is ∙ c.fields_rule.ensures) (sym c.in_default-mismatch.is ∙ c.digest_rule-mismatch.ensures)
    (sym c.in_default-size_rule.is ∙ c.size_rule.ensures) in
    subst (λ (m : Option Refusal). IfOk c.check_document.result (IsCheckedBy m op)) left (c.check_document.ensures config)
