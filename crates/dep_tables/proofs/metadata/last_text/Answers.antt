use Rattle.std.proofs.Common.{arith}
use Rattle.dep_tables.proofs.Done.{refuses_query, asks}
use Rattle.dep_tables.proofs.MetadataTable.{lasts_text, last_is}
use Rattle.dep_tables.proofs.metadata.last_text.Goals as goal

pub returns-then-object-ge-LIMIT : goal.returns-then-object-ge-LIMIT
returns-then-object-ge-LIMIT g c = record { does = refuses_query _ (omega (arith, c.if-object-ge-LIMIT.true)) }

pub returns : goal.returns
returns g c = record { does = asks _ 1 (omega (arith, c.if-object-ge-LIMIT.false)) c.name_params.ensures last_is.plain c.ask_one.ensures.shown c.ask_one.ensures.cause c.ask_one.ensures.keeps (lasts_text _ _ c.args.object c.args.name.now) }
