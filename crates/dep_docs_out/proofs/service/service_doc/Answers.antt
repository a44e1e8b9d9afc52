use Rattle.std.proofs.Common.{◌∙◌}
use Rattle.std.proofs.lemmas.Result.{IfOk-weaker}
use Rattle.dep_docs_out.specs.Documents.{service_data}
use Rattle.dep_docs_out.proofs.TokenLemmas.{◌⨾◌, whole_text}
use Rattle.dep_docs_out.proofs.service.service_doc.Goals as goal

pub returns : goal.returns
unfolding service_data
returns c =
    let reported = c.add_offers.ensures ⨾ c.add_limits.ensures ⨾ c.add_places.ensures in
    IfOk-weaker c.ended.result _ _ (λ text e. e.1 ∙ whole_text c.in_ok-document.ensures reported e.0) c.ended.ensures
