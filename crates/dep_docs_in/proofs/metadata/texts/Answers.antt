use Rattle.std.proofs.Common.{◌∙◌, ap, subst, sym}
use Rattle.serde_json.specs.Find.{as_str}
use Rattle.serde_json.specs.View.{view, items_view}
use Rattle.dep_docs_in.specs.Documents.{each_read}
use Rattle.dep_docs_in.specs.Faults.{GivesRead}
use Rattle.dep_docs_in.proofs.Items.{one_read}
use Rattle.dep_docs_in.proofs.metadata.texts.Goals as goal

pub returns-in-None : goal.returns-in-None
returns-in-None c =
    let alone = ap (λ vs. each_read as_str (items_view vs)) c.from_ref.ensures.value ∙ one_read (view c.args.value.now) (sym c.in-None.ensures) in
    subst (GivesRead c.listed-in-None.result) alone c.listed-in-None.ensures
