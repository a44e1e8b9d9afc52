use Rattle.std.proofs.Common.{◌≡◌, ◌∙◌, IfOk, List, Option, Some, ap, subst, sym}
use Rattle.dep_docs_in.specs.declared.reference.Reference.{Reference}
use Rattle.dep_decisions.specs.Rules.{references_refusal}
use Rattle.dep_operations.specs.Seen.{in_view}
use Rattle.dep_operations.proofs.references.references_rule.Goals as goal

pub returns-in-Some : goal.returns-in-Some
returns-in-Some c =
    subst (λ (o : Option (List Reference)). IfOk c.entries_rule.result (λ refusal. refusal ≡ references_refusal (in_view c.args.view.now) o))
    (ap (λ (refs : List Reference). Some refs) c.as_slice.ensures ∙ sym c.in-Some.is) c.entries_rule.ensures
