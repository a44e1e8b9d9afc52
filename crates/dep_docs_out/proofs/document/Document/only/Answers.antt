use Rattle.dep_docs_out.proofs.TokenLemmas.{list_member}
use Rattle.dep_docs_out.proofs.document.Document.only.Goals as goal

pub returns : goal.returns
returns c = list_member c.token.ensures c.token-2.ensures c.text_item.ensures c.token-3.ensures
