use Rattle.dep_tables.proofs.Results.{not_storable}
use Rattle.dep_tables.specs.Edits.{LacksObjectRow}
use Rattle.dep_tables.specs.Statements.{insertion_of_object}
use Rattle.dep_tables.proofs.Done.{refuses, puts}
use Rattle.dep_tables.proofs.ObjectsTable.{inserts_object}
use Rattle.dep_tables.proofs.objects.insert_object.Goals as goal

pub returns-then-not-is_storable_object : goal.returns-then-not-is_storable_object
returns-then-not-is_storable_object g c = record { does = refuses _ (not_storable c.is_storable_object.result c.if-not-is_storable_object.true c.is_storable_object.ensures.1); free = λ clean inside ours. tt }

pub returns : goal.returns
returns g c =
    let both = puts (insertion_of_object c.args.row.now) (LacksObjectRow c.args.row.now.object) c.run.ensures.keeps (c.is_storable_object.ensures.0 c.if-not-is_storable_object.false) c.object_params.ensures c.run.ensures.runs c.run.ensures.cause (inserts_object _ _ c.args.row.now) in
    record { does = both.0; free = both.1 }
