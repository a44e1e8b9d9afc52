use Rattle.std.proofs.Common.{◌∙◌, ◌==◌, ap, sym}
use Rattle.dep_docs_in.specs.Documents.{reference_in}
use Rattle.dep_docs_in.proofs.Items.{none_read, unlisted}
use Rattle.dep_docs_in.proofs.references.entries_of.Goals.{in_default-via-in-Some+else-not-is_empty, in_default-via-in_default}
use Rattle.dep_docs_in.proofs.references.entries_of.Goals as goal

pub returns-in_default-clause-none : goal.returns-in_default-clause-none
returns-in_default-clause-none c e base = elim c.in_default.branch [
  | in_default-via-in-Some+else-not-is_empty w ↦
      let entries = w.in-Some.entries.now in
      let none = ap (λ n. n == 0) (sym entries.ok.0) ∙ sym w.if-not-is_empty.ensures in
      none_read (reference_in base) _ _ entries.items (sym w.in-Some.ensures) none
  | in_default-via-in_default w ↦ unlisted (reference_in base) _ _ (sym w.in_default.ensures)
]
