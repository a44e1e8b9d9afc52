use Rattle.dep_tables.specs.Edits.{without_blocks_of}
use Rattle.dep_files.proofs.RunByRun.{IsOnTheWay}
use Rattle.dep_files.proofs.blocks.delete_blocks.Given as goal

abbrev pub invariant-runs : goal.invariant-runs
invariant-runs g l = IsOnTheWay g.T.Statements.lenders g.T.Statements.state (without_blocks_of l.owner) l.fn.tx l.tx
