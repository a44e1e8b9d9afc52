use Rattle.dep_docs_out.specs.Documents.{part_data}
use Rattle.dep_docs_out.proofs.TokenLemmas.{◌⨾◌, object_member}
use Rattle.dep_docs_out.proofs.status.add_part.Goals as goal

pub returns : goal.returns
unfolding part_data
returns c = λ bytes made.
    object_member c.token.ensures c.token-2.ensures (c.made_text.ensures bytes made ⨾ c.decimal.ensures) c.token-3.ensures
