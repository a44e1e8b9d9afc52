use Rattle.std.proofs.Common.{◌∙◌}
use Rattle.std.proofs.lemmas.Result.{IfOk-weaker}
use Rattle.dep_docs_out.specs.Documents.{metadata_data, metadata_url}
use Rattle.dep_docs_out.proofs.TokenLemmas.{◌⨾◌, whole_text}
use Rattle.dep_docs_out.proofs.metadata.metadata_doc.Goals as goal

pub returns : goal.returns
unfolding metadata_data
returns c =
    let place = c.made_text.ensures (metadata_url c.args.config.now c.args.object) c.part_url.ensures in
    let written = c.text.ensures ⨾ place ⨾ c.text-2.ensures ⨾ c.add_metadata.ensures in
    IfOk-weaker c.ended.result _ _ (λ text e. e.1 ∙ whole_text c.in_ok-document.ensures written e.0) c.ended.ensures
