use Rattle.dep_tables.specs.Edits.{without_metadata_rows}
use Rattle.dep_tables.specs.Texts.{delete_metadata_text}
use Rattle.dep_tables.proofs.OneTable.{deletes_of}
use Rattle.dep_tables.proofs.MetadataTable.{metadata_at, delete_is}
use Rattle.dep_tables.proofs.metadata.delete_metadata.Goals as goal

pub returns : goal.returns
returns g c = record { does = c.run_by_key.ensures without_metadata_rows (deletes_of metadata_at delete_metadata_text 1 c.args.object delete_is _ _) }
