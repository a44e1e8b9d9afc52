use Rattle.dep_docs_in.proofs.ShownMetadata.{shown_in_bag}
use Rattle.dep_docs_in.proofs.laws.metadata_of_a_bag_is_read.Goals as goal

pub returns : goal.returns
returns c = shown_in_bag
