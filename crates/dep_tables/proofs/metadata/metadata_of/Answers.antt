use Rattle.dep_tables.proofs.Done.{asked}
use Rattle.dep_tables.proofs.MetadataTable.{lists_metadata, list_is}
use Rattle.dep_tables.proofs.metadata.metadata_of.Goals as goal

pub returns : goal.returns
returns g c = record { does = asked _ 4 list_is.plain c.ask_all_by_key.ensures (λ found. lists_metadata _ _ c.args.object found.items) }
