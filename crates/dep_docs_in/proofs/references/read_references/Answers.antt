use Rattle.std.proofs.Common.{◌∙◌, subst, sym, ap}
use Rattle.serde_json.specs.View.{items_view, view}
use Rattle.dep_docs_in.specs.Documents.{each_read, reference_in}
use Rattle.dep_docs_in.specs.Faults.{GivesRead}
use Rattle.dep_docs_in.proofs.Parts.{said}
use Rattle.dep_docs_in.proofs.references.read_references.Goals as goal

pub returns-in-Some : goal.returns-in-Some
returns-in-Some c =
    let base = c.args.config.now.base in
    let vs = c.in-Some.entries.now.items in
    let is = said base vs c.args.content.now (view c.in_ok-document.document) c.in_ok-document.ensures c.in-Some.ensures.some.1 c.in-Some.ensures.some.0 in
    subst (GivesRead c.entries_in.result) (ap (λ vs. each_read (reference_in base) (items_view vs)) c.deref.ensures.value ∙ sym is) c.entries_in.ensures
