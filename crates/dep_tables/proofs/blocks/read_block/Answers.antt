use Rattle.sqlite.specs.declared.types.Value.TheVariants.{Blob}
use Rattle.dep_tables.specs.Texts.{read_block_text}
use Rattle.dep_tables.specs.Rows.{is_block}
use Rattle.dep_tables.proofs.Leading.{blocks_at}
use Rattle.dep_tables.proofs.OneTable.{finds_value}
use Rattle.dep_tables.proofs.Results.{not_storable}
use Rattle.dep_tables.proofs.Done.{refuses_query, asks}
use Rattle.dep_tables.proofs.BlocksTable.{of_key, tests_key, read_is}
use Rattle.dep_tables.proofs.blocks.read_block.Goals as goal

pub returns-then-not-is_storable_key : goal.returns-then-not-is_storable_key
returns-then-not-is_storable_key g c = record { does = refuses_query _ (not_storable c.is_storable_key.result c.if-not-is_storable_key.true c.is_storable_key.ensures.1) }

pub returns : goal.returns
returns g c = record { does = asks _ 1 (c.is_storable_key.ensures.0 c.if-not-is_storable_key.false) c.key_params.ensures read_is.plain c.ask_one.ensures.shown c.ask_one.ensures.cause c.ask_one.ensures.keeps (finds_value blocks_at (λ b. Blob b.items) read_block_text of_key _ 5 read_is (is_block c.args.key.now) (tests_key c.args.key.now) _ _) }
