use Rattle.dep_tables.specs.Edits.{without_segment_rows}
use Rattle.dep_tables.specs.Texts.{delete_segments_text}
use Rattle.dep_tables.proofs.OneTable.{deletes_of}
use Rattle.dep_tables.proofs.SegmentsTable.{segments_at, delete_is}
use Rattle.dep_tables.proofs.segments.delete_segments.Goals as goal

pub returns : goal.returns
returns g c = record { does = c.run_by_key.ensures without_segment_rows (deletes_of segments_at delete_segments_text 1 c.args.upload delete_is _ _) }
