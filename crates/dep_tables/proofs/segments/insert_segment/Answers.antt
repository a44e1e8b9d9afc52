use Rattle.dep_tables.proofs.Results.{not_storable}
use Rattle.dep_tables.specs.Edits.{LacksSegmentRow}
use Rattle.dep_tables.specs.Statements.{insertion_of_segment}
use Rattle.dep_tables.proofs.Done.{refuses, puts}
use Rattle.dep_tables.proofs.SegmentsTable.{inserts_segment}
use Rattle.dep_tables.proofs.segments.insert_segment.Goals as goal

pub returns-then-not-is_storable_segment : goal.returns-then-not-is_storable_segment
returns-then-not-is_storable_segment g c = record { does = refuses _ (not_storable c.is_storable_segment.result c.if-not-is_storable_segment.true c.is_storable_segment.ensures.1); free = λ clean inside ours. tt }

pub returns : goal.returns
returns g c =
    let both = puts (insertion_of_segment c.args.row.now) (LacksSegmentRow c.args.row.now) c.run.ensures.keeps (c.is_storable_segment.ensures.0 c.if-not-is_storable_segment.false) c.segment_params.ensures c.run.ensures.runs c.run.ensures.cause (inserts_segment _ _ c.args.row.now) in
    record { does = both.0; free = both.1 }
