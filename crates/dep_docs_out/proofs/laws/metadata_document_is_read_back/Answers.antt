use Rattle.dep_docs_out.proofs.MetadataReadBack.{metadata_reads}
use Rattle.dep_docs_out.proofs.laws.metadata_document_is_read_back.Goals as goal

pub returns : goal.returns
returns c = metadata_reads
