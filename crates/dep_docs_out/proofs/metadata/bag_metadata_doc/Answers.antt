use Rattle.std.proofs.Common.{◌∙◌}
use Rattle.std.proofs.lemmas.Result.{IfOk-weaker}
use Rattle.dep_docs_out.specs.Documents.{bag_metadata_data, bag_metadata_document}
use Rattle.dep_docs_out.proofs.TokenLemmas.{◌⨾◌, whole_text}
use Rattle.dep_docs_out.proofs.metadata.bag_metadata_doc.Goals as goal

pub returns : goal.returns
unfolding bag_metadata_document bag_metadata_data
returns c =
    let written = c.text.ensures ⨾ c.text-2.ensures ⨾ c.add_metadata.ensures in
    IfOk-weaker c.ended.result _ _ (λ text e. e.1 ∙ whole_text c.in_ok-document.ensures written e.0) c.ended.ensures
