use Rattle.std.proofs.Common.{inl, inr, arith}
use Rattle.dep_tables.specs.Rows.{is_text_from}
use Rattle.dep_tables.specs.Texts.{texts_from_text}
use Rattle.dep_tables.proofs.Done.{refuses_query, asks}
use Rattle.dep_tables.proofs.MetadataTable.{pages_texts, from_is, tests_from}
use Rattle.dep_tables.proofs.metadata.texts_from.Goals as goal

pub returns-then-object-ge-LIMIT : goal.returns-then-object-ge-LIMIT
returns-then-object-ge-LIMIT g c = record {
  does = refuses_query _ (λ storable. elim c.then-object-ge-LIMIT.either [
    | inl above ↦ omega (arith, above, storable.0)
    | inr above ↦ omega (arith, above.1, storable.1)
  ]);
}

pub returns : goal.returns
returns g c =
    record { does = asks _ 4 (omega (arith, c.if-object-ge-LIMIT.false), omega (arith, c.if-place-ge-LIMIT.false)) c.text_key_params.ensures from_is.plain c.ask_all.ensures.shown c.ask_all.ensures.cause c.ask_all.ensures.keeps (λ found. pages_texts _ _ texts_from_text _ _ from_is (is_text_from c.args.object c.args.name.now c.args.place) (tests_from c.args.object c.args.name.now c.args.place) found.items) }
