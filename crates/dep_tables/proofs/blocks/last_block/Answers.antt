use Rattle.dep_tables.proofs.Results.{not_storable}
use Rattle.dep_tables.proofs.Done.{refuses_query, asks}
use Rattle.dep_tables.proofs.BlocksTable.{lasts_block, last_is}
use Rattle.dep_tables.proofs.blocks.last_block.Goals as goal

pub returns-then-not-is_storable_part : goal.returns-then-not-is_storable_part
returns-then-not-is_storable_part g c = record { does = refuses_query _ (not_storable c.is_storable_part.result c.if-not-is_storable_part.true c.is_storable_part.ensures.1) }

pub returns : goal.returns
returns g c = record { does = asks _ 1 (c.is_storable_part.ensures.0 c.if-not-is_storable_part.false) c.part_params.ensures last_is.plain c.ask_one.ensures.shown c.ask_one.ensures.cause c.ask_one.ensures.keeps (lasts_block _ _ c.args.owner c.args.part) }
