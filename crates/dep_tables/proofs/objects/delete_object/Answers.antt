use Rattle.dep_tables.specs.Edits.{without_object_row}
use Rattle.dep_tables.specs.Texts.{delete_object_text}
use Rattle.dep_tables.proofs.OneTable.{deletes_one}
use Rattle.dep_tables.proofs.ObjectsTable.{objects_at, delete_is}
use Rattle.dep_tables.proofs.objects.delete_object.Goals as goal

pub returns : goal.returns
returns g c = record { does = c.run_by_key.ensures without_object_row (deletes_one objects_at delete_object_text c.args.object delete_is _ _) }
