use Rattle.dep_tables.proofs.Done.{asked}
use Rattle.dep_tables.specs.Texts.{next_object_text}
use Rattle.dep_tables.proofs.OneTable.{nexts_one}
use Rattle.dep_tables.proofs.ObjectsTable.{objects_at, next_is}
use Rattle.dep_tables.proofs.objects.next_object.Goals as goal

pub returns : goal.returns
returns g c = record { does = asked _ 1 next_is.plain c.ask_one_by_key.ensures (nexts_one objects_at next_object_text c.args.after next_is _ _) }
