use Rattle.std.proofs.Common.{length, IsTrue}
use Rattle.sqlite.specs.State.{HasCleanDisk}
use Rattle.dep_types.specs.State.{State}
use Rattle.dep_types.specs.Sound.{IsSound}
use Rattle.dep_tables.specs.Tables.{tables_of, IsOurs}
use Rattle.dep_tables.proofs.Chains.{MayReads}
use Rattle.dep_row_maps.specs.TablesAre.{TablesAre}
use Rattle.dep_staging.specs.HashedAhead.{AreRunning}
use Rattle.dep_views.proofs.Lacking.{IsLeft}
use Rattle.dep_views.proofs.named.load_named.Given as goal

-- those so far are there, lack no segment, and are known
abbrev pub invariant-loop-upload : goal.invariant-loop-upload
invariant-loop-upload g l =
    let old = g.T.Statements.state l.fn.tx in
    let now = g.T.Statements.state l.tx in
    MayReads g.T.Statements.lenders g.T.Statements.state l.fn.tx l.tx
    × (IsTrue old.is_open → HasCleanDisk now → IsTrue old.in_transaction → IsOurs old → (s : State) → TablesAre (tables_of old) s → IsSound s → AreRunning s l.fn.running → IsLeft s l.fn.uploads l.views.items l.rest)

abbrev pub decreases-loop-upload : goal.decreases-loop-upload
decreases-loop-upload g l = length l.rest
