use Rattle.std.proofs.Common.{refl}
use Rattle.dep_tables.proofs.Done.{asked}
use Rattle.dep_tables.specs.Texts.{find_object_text}
use Rattle.dep_tables.specs.Rows.{object_values}
use Rattle.dep_tables.proofs.OneTable.{finds_one}
use Rattle.dep_tables.proofs.ObjectsTable.{objects_at, find_is, values}
use Rattle.dep_tables.proofs.objects.find_object.Goals as goal

pub returns : goal.returns
returns g c = record { does = asked _ 6 find_is.plain c.ask_one_by_key.ensures (finds_one objects_at object_values 6 find_object_text values c.args.object find_is (λ row. refl) _ _) }
