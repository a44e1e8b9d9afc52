use Rattle.dep_docs_out.proofs.MetadataReadBack.{bag_metadata_reads}
use Rattle.dep_docs_out.proofs.laws.bag_metadata_document_is_read_back.Goals as goal

pub returns : goal.returns
returns c = bag_metadata_reads
