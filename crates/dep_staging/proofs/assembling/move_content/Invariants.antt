use Rattle.dep_tables.specs.Edits.{with_blocks_moved}
use Rattle.dep_tables.specs.declared.owner.BlockOwner.TheVariants as owner
use Rattle.dep_files.proofs.RunByRun.{IsOnTheWay}
use Rattle.dep_staging.proofs.assembling.move_content.Given as goal

abbrev pub invariant-runs : goal.invariant-runs
invariant-runs g l = IsOnTheWay g.T.Statements.lenders g.T.Statements.state (with_blocks_moved (owner.Upload l.upload) (owner.File l.file)) l.fn.tx l.tx
