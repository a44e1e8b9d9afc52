use Rattle.dep_docs_out.proofs.TokenLemmas.{named}
use Rattle.dep_docs_out.proofs.document.Document.whole_number.Goals as goal

pub returns : goal.returns
returns c = named c.token.ensures c.whole_number_item.ensures.is
