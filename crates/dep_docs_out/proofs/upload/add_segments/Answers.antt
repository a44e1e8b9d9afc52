use Rattle.dep_docs_out.specs.Documents.{segments_data}
use Rattle.dep_docs_out.proofs.TokenLemmas.{◌⨾◌, object_member}
use Rattle.dep_docs_out.proofs.upload.add_segments.Goals as goal

pub returns : goal.returns
unfolding segments_data
returns c =
    object_member c.token.ensures c.token-2.ensures
    (c.add_expecting.ensures ⨾ c.add_received.ensures ⨾ c.whole_number.ensures ⨾ c.whole_number-2.ensures)
    c.token-3.ensures
