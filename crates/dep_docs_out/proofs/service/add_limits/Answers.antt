use Rattle.dep_docs_out.specs.Documents.{service_limits}
use Rattle.dep_docs_out.proofs.TokenLemmas.{◌⨾◌, list_member, more_items}
use Rattle.dep_docs_out.proofs.service.add_limits.Goals as goal

pub returns : goal.returns
unfolding service_limits
returns c =
    c.flag.ensures
    ⨾ rw c.as_str.ensures at c.text.ensures
    ⨾ rw c.as_str-2.ensures at c.text-2.ensures
    ⨾ list_member c.token.ensures c.token-2.ensures (more_items c.text_item.ensures c.text_item-2.ensures) c.token-3.ensures
    ⨾ c.whole_number.ensures
    ⨾ c.whole_number-2.ensures
    ⨾ c.whole_number-3.ensures
