use Rattle.dep_docs_out.proofs.TokenLemmas.{named}
use Rattle.dep_docs_out.proofs.document.Document.flag.Goals as goal

pub returns : goal.returns
returns c = named c.token.ensures c.token-2.ensures
