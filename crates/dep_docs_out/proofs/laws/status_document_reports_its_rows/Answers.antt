use Rattle.dep_docs_out.proofs.StatusRows.{reports}
use Rattle.dep_docs_out.proofs.laws.status_document_reports_its_rows.Goals as goal

pub returns : goal.returns
returns c = reports
