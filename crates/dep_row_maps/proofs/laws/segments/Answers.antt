use Rattle.dep_row_maps.proofs.Posted.{segment_received}
use Rattle.dep_row_maps.proofs.Readings.{segments_read}
use Rattle.dep_row_maps.proofs.Whole.{segment_added}
use Rattle.dep_row_maps.proofs.laws.segments.Goals as goal

pub returns : goal.returns
returns c = record { added = segment_added; received = segment_received; read = segments_read }
