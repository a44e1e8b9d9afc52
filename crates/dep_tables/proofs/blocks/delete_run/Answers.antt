use Rattle.std.proofs.Common.{[]}
use Rattle.dep_tables.proofs.Results.{not_storable}
use Rattle.dep_tables.proofs.Done.{refuses, runs}
use Rattle.dep_tables.specs.Texts.{delete_run_text}
use Rattle.dep_tables.specs.Rows.{is_earlier_block}
use Rattle.dep_tables.proofs.Leading.{blocks_at}
use Rattle.dep_tables.proofs.OneTable.{deletes_all}
use Rattle.dep_tables.proofs.BlocksTable.{delete_run_is, earlier, tests_earlier}
use Rattle.dep_tables.proofs.blocks.delete_run.Goals as goal

pub returns-then-not-is_storable_key : goal.returns-then-not-is_storable_key
returns-then-not-is_storable_key g c = record { does = refuses _ (not_storable c.is_storable_key.result c.if-not-is_storable_key.true c.is_storable_key.ensures.1) }

pub returns : goal.returns
returns g c = record { does = runs _ (c.is_storable_key.ensures.0 c.if-not-is_storable_key.false) c.key_params.ensures c.run.ensures.runs c.run.ensures.cause c.run.ensures.keeps (deletes_all blocks_at delete_run_text earlier _ delete_run_is (is_earlier_block c.args.end.now) (tests_earlier c.args.end.now []) _ _) }
