use Rattle.dep_tables.proofs.Results.{not_storable}
use Rattle.dep_tables.specs.Edits.{LacksBlock}
use Rattle.dep_tables.specs.Statements.{insertion_of_block}
use Rattle.dep_tables.proofs.Done.{refuses, puts}
use Rattle.dep_tables.proofs.BlocksTable.{inserts_block}
use Rattle.dep_tables.proofs.blocks.insert_block.Goals as goal

pub returns-then-not-is_storable_key : goal.returns-then-not-is_storable_key
returns-then-not-is_storable_key g c = record { does = refuses _ (not_storable c.is_storable_key.result c.if-not-is_storable_key.true c.is_storable_key.ensures.1); free = λ clean inside ours. tt }

pub returns : goal.returns
returns g c =
    let both = puts (insertion_of_block c.args.key.now c.args.bytes.now) (LacksBlock c.args.key.now) c.run.ensures.keeps (c.is_storable_key.ensures.0 c.if-not-is_storable_key.false) c.block_params.ensures c.run.ensures.runs c.run.ensures.cause (inserts_block _ _ c.args.key.now c.args.bytes.now) in
    record { does = both.0; free = both.1 }
