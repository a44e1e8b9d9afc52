use Rattle.dep_tables.proofs.Done.{asked}
use Rattle.dep_tables.proofs.SegmentsTable.{lists_segments, list_is}
use Rattle.dep_tables.proofs.segments.segments_of.Goals as goal

pub returns : goal.returns
returns g c = record { does = asked _ 3 list_is.plain c.ask_all_by_key.ensures (λ found. lists_segments _ _ c.args.upload found.items) }
