use Rattle.dep_manifest.proofs.Beside.{one_more_line}
use Rattle.dep_manifest.proofs.payload.add_lines.Goals as goal

pub loop-index-preserved : goal.loop-index-preserved
loop-index-preserved c =
    one_more_line c.args.algorithm _ _ c.loop-index.index _ c.get.result c.loop-index.text.items c.add_row.new.text.items _ c.loop-index-test.true c.index-rows-index.is
    c.get.ensures.lookup c.in_ok-add_row.ensures c.loop-index.invariant
