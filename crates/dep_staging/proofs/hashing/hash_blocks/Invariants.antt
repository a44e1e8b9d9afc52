use Rattle.std.proofs.Common.{IsTrue}
use Rattle.sqlite.specs.State.{HasCleanDisk}
use Rattle.dep_types.specs.Sound.{IsSound}
use Rattle.dep_types.specs.State.{State}
use Rattle.dep_tables.specs.Tables.{tables_of, IsOurs}
use Rattle.dep_tables.proofs.Chains.{MayReads}
use Rattle.dep_row_maps.specs.TablesAre.{TablesAre}
use Rattle.dep_staging.specs.HashedAhead.{HasGoneOn, IsRunning}
use Rattle.dep_staging.proofs.hashing.hash_blocks.Given as goal

abbrev pub invariant-loop-hashed : goal.invariant-loop-hashed
invariant-loop-hashed g l =
    let old = g.T.Statements.state l.fn.tx in
    let now = g.T.Statements.state l.tx in
    MayReads g.T.Statements.lenders g.T.Statements.state l.fn.tx l.tx
    × (IsTrue old.is_open → HasCleanDisk now → IsOurs old → (s : State) → TablesAre (tables_of old) s → IsSound s
    → IsRunning s l.fn.run → HasGoneOn s l.fn.run l.run)
