use Rattle.dep_docs_out.specs.Documents.{relations_data}
use Rattle.dep_docs_out.proofs.TokenLemmas.{list_member, more_items}
use Rattle.dep_docs_out.proofs.status.add_relations.Goals as goal

pub returns : goal.returns
unfolding relations_data
returns c =
    let relation = rw c.deposit_relation.ensures at c.text_item.ensures in
    list_member c.token.ensures c.token-2.ensures (more_items relation c.text_item-2.ensures) c.token-3.ensures
