use Rattle.dep_tables.proofs.Results.{not_storable}
use Rattle.dep_tables.proofs.Done.{refuses, runs}
use Rattle.dep_tables.proofs.ObjectsTable.{writes_object}
use Rattle.dep_tables.proofs.objects.write_object.Goals as goal

pub returns-then-not-is_storable_object : goal.returns-then-not-is_storable_object
returns-then-not-is_storable_object g c = record { does = refuses _ (not_storable c.is_storable_object.result c.if-not-is_storable_object.true c.is_storable_object.ensures.1) }

pub returns : goal.returns
returns g c = record { does = runs _ (c.is_storable_object.ensures.0 c.if-not-is_storable_object.false) c.object_params.ensures c.run.ensures.runs c.run.ensures.cause c.run.ensures.keeps (writes_object _ _ c.args.row.now) }
