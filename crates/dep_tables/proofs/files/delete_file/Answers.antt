use Rattle.dep_tables.specs.Edits.{without_file_row}
use Rattle.dep_tables.specs.Texts.{delete_file_text}
use Rattle.dep_tables.proofs.Leading.{files_at}
use Rattle.dep_tables.proofs.OneTable.{deletes_one}
use Rattle.dep_tables.proofs.FilesTable.{delete_is}
use Rattle.dep_tables.proofs.files.delete_file.Goals as goal

pub returns : goal.returns
returns g c = record { does = c.run_by_key.ensures without_file_row (deletes_one files_at delete_file_text c.args.file delete_is _ _) }
