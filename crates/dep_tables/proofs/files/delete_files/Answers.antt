use Rattle.dep_tables.specs.Edits.{without_file_rows}
use Rattle.dep_tables.specs.Texts.{delete_files_text}
use Rattle.dep_tables.proofs.Leading.{files_at}
use Rattle.dep_tables.proofs.OneTable.{deletes_of}
use Rattle.dep_tables.proofs.FilesTable.{delete_all_is}
use Rattle.dep_tables.proofs.files.delete_files.Goals as goal

pub returns : goal.returns
returns g c = record { does = c.run_by_key.ensures without_file_rows (deletes_of files_at delete_files_text 2 c.args.object delete_all_is _ _) }
