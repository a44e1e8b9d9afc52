use Rattle.dep_tables.specs.Edits.{without_upload_row}
use Rattle.dep_tables.specs.Texts.{delete_upload_text}
use Rattle.dep_tables.proofs.OneTable.{deletes_one}
use Rattle.dep_tables.proofs.UploadsTable.{uploads_at, delete_is}
use Rattle.dep_tables.proofs.uploads.delete_upload.Goals as goal

pub returns : goal.returns
returns g c = record { does = c.run_by_key.ensures without_upload_row (deletes_one uploads_at delete_upload_text c.args.upload delete_is _ _) }
