use Rattle.dep_docs_in.proofs.ShownMetadata.{shown}
use Rattle.dep_docs_in.proofs.laws.shown_metadata_is_read.Goals as goal

pub returns : goal.returns
returns c = shown
