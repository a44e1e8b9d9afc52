use Rattle.std.proofs.Common.{arith}
use Rattle.dep_tables.specs.Rows.{is_text_from_name}
use Rattle.dep_tables.specs.Texts.{texts_from_name_text}
use Rattle.dep_tables.proofs.Done.{refuses_query, asks}
use Rattle.dep_tables.proofs.MetadataTable.{pages_texts, from_name_is, tests_from_name}
use Rattle.dep_tables.proofs.metadata.texts_from_name.Goals as goal

pub returns-then-object-ge-LIMIT : goal.returns-then-object-ge-LIMIT
returns-then-object-ge-LIMIT g c = record { does = refuses_query _ (omega (arith, c.if-object-ge-LIMIT.true)) }

pub returns : goal.returns
returns g c =
    record { does = asks _ 4 (omega (arith, c.if-object-ge-LIMIT.false)) c.name_params.ensures from_name_is.plain c.ask_all.ensures.shown c.ask_all.ensures.cause c.ask_all.ensures.keeps (λ found. pages_texts _ _ texts_from_name_text _ _ from_name_is (is_text_from_name c.args.object c.args.name.now) (tests_from_name c.args.object c.args.name.now) found.items) }
