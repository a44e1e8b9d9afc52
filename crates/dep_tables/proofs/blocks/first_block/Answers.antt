use Rattle.dep_tables.proofs.Results.{not_storable}
use Rattle.dep_tables.proofs.Done.{refuses_query, asks}
use Rattle.dep_tables.proofs.BlocksTable.{firsts_block, first_is}
use Rattle.dep_tables.proofs.blocks.first_block.Goals as goal

pub returns-then-not-is_storable_owner : goal.returns-then-not-is_storable_owner
returns-then-not-is_storable_owner g c = record { does = refuses_query _ (not_storable c.is_storable_owner.result c.if-not-is_storable_owner.true c.is_storable_owner.ensures.1) }

pub returns : goal.returns
returns g c = record { does = asks _ 2 (c.is_storable_owner.ensures.0 c.if-not-is_storable_owner.false) c.owner_params.ensures first_is.plain c.ask_one.ensures.shown c.ask_one.ensures.cause c.ask_one.ensures.keeps (firsts_block _ _ c.args.owner) }
