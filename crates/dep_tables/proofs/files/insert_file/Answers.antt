use Rattle.dep_tables.proofs.Results.{not_storable}
use Rattle.dep_tables.specs.Edits.{LacksFileRow}
use Rattle.dep_tables.specs.Statements.{insertion_of_file}
use Rattle.dep_tables.proofs.Done.{refuses, puts}
use Rattle.dep_tables.proofs.FilesTable.{inserts_file}
use Rattle.dep_tables.proofs.files.insert_file.Goals as goal

pub returns-then-not-is_storable_file : goal.returns-then-not-is_storable_file
returns-then-not-is_storable_file g c = record { does = refuses _ (not_storable c.is_storable_file.result c.if-not-is_storable_file.true c.is_storable_file.ensures.1); free = λ clean inside ours. tt }

pub returns : goal.returns
returns g c =
    let both = puts (insertion_of_file c.args.row.now) (LacksFileRow c.args.row.now.file) c.run.ensures.keeps (c.is_storable_file.ensures.0 c.if-not-is_storable_file.false) c.file_params.ensures c.run.ensures.runs c.run.ensures.cause (inserts_file _ _ c.args.row.now) in
    record { does = both.0; free = both.1 }
