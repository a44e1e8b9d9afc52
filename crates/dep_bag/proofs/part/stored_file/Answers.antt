use Rattle.dep_bag.proofs.FoundFiles.{found_here}
use Rattle.dep_bag.proofs.part.stored_file.Goals as goal

pub returns-then-is_payload_path : goal.returns-then-is_payload_path
returns-then-is_payload_path c =
    found_here c.args.path.now c.args.rows.now c.loop-row.row-index c.row-item.result c.loop-row-test.true c.row-item.is c.loop-row.invariant c.if-is_payload_path.ensures
