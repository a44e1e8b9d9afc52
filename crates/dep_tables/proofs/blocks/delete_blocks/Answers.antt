use Rattle.dep_tables.proofs.Results.{not_storable}
use Rattle.dep_tables.proofs.Done.{refuses, runs}
use Rattle.dep_tables.specs.Texts.{delete_blocks_text}
use Rattle.dep_tables.specs.Rows.{is_block_of}
use Rattle.dep_tables.proofs.Leading.{blocks_at}
use Rattle.dep_tables.proofs.OneTable.{deletes_all}
use Rattle.dep_tables.proofs.BlocksTable.{of_owner, tests_owner, delete_is}
use Rattle.dep_tables.proofs.blocks.delete_blocks.Goals as goal

pub returns-then-not-is_storable_owner : goal.returns-then-not-is_storable_owner
returns-then-not-is_storable_owner g c = record { does = refuses _ (not_storable c.is_storable_owner.result c.if-not-is_storable_owner.true c.is_storable_owner.ensures.1) }

pub returns : goal.returns
returns g c = record { does = runs _ (c.is_storable_owner.ensures.0 c.if-not-is_storable_owner.false) c.owner_params.ensures c.run.ensures.runs c.run.ensures.cause c.run.ensures.keeps (deletes_all blocks_at delete_blocks_text of_owner _ delete_is (is_block_of c.args.owner) (tests_owner c.args.owner) _ _) }
