use Rattle.dep_tables.proofs.Results.{not_storable}
use Rattle.dep_tables.specs.Edits.{LacksMetadataRow}
use Rattle.dep_tables.specs.Statements.{insertion_of_metadata}
use Rattle.dep_tables.proofs.Done.{refuses, puts}
use Rattle.dep_tables.proofs.MetadataTable.{inserts_metadata}
use Rattle.dep_tables.proofs.metadata.insert_metadata.Goals as goal

pub returns-then-not-is_storable_metadata : goal.returns-then-not-is_storable_metadata
returns-then-not-is_storable_metadata g c = record { does = refuses _ (not_storable c.is_storable_metadata.result c.if-not-is_storable_metadata.true c.is_storable_metadata.ensures.1); free = λ clean inside ours. tt }

pub returns : goal.returns
returns g c =
    let both = puts (insertion_of_metadata c.args.row.now) (LacksMetadataRow c.args.row.now) c.run.ensures.keeps (c.is_storable_metadata.ensures.0 c.if-not-is_storable_metadata.false) c.metadata_params.ensures c.run.ensures.runs c.run.ensures.cause (inserts_metadata _ _ c.args.row.now) in
    record { does = both.0; free = both.1 }
