use Rattle.dep_tables.proofs.Results.{not_storable}
use Rattle.dep_tables.specs.Edits.{LacksUploadRow}
use Rattle.dep_tables.specs.Statements.{insertion_of_upload}
use Rattle.dep_tables.proofs.Done.{refuses, puts}
use Rattle.dep_tables.proofs.UploadsTable.{inserts_upload}
use Rattle.dep_tables.proofs.uploads.insert_upload.Goals as goal

pub returns-then-not-is_storable_upload : goal.returns-then-not-is_storable_upload
returns-then-not-is_storable_upload g c = record { does = refuses _ (not_storable c.is_storable_upload.result c.if-not-is_storable_upload.true c.is_storable_upload.ensures.1); free = λ clean inside ours. tt }

pub returns : goal.returns
returns g c =
    let both = puts (insertion_of_upload c.args.row.now) (LacksUploadRow c.args.row.now.upload) c.run.ensures.keeps (c.is_storable_upload.ensures.0 c.if-not-is_storable_upload.false) c.upload_params.ensures c.run.ensures.runs c.run.ensures.cause (inserts_upload _ _ c.args.row.now) in
    record { does = both.0; free = both.1 }
