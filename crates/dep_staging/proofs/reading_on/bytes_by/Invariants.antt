use Rattle.std.proofs.Common.{◌≡◌, ◌*◌, ◌<◌, ◌≤◌, List, ℕ, take, drop, IsTrue, length}
use Rattle.sqlite.specs.State.{HasCleanDisk}
use Rattle.dep_types.specs.State.{State}
use Rattle.dep_tables.specs.Tables.{tables_of, IsOurs}
use Rattle.dep_tables.proofs.Chains.{MayReads}
use Rattle.dep_row_maps.specs.TablesAre.{TablesAre}
use Rattle.dep_staging.specs.NextBytes.{IsReadBy}
use Rattle.dep_staging.proofs.reading_on.bytes_by.Given as goal

abbrev pub invariant-loop-round : goal.invariant-loop-round
invariant-loop-round g l =
    let old = g.T.Statements.state l.fn.tx in
    let now = g.T.Statements.state l.tx in
    (l.round ≤ 4)
    × MayReads g.T.Statements.lenders g.T.Statements.state l.fn.tx l.tx
    × (IsTrue old.is_open → HasCleanDisk now → IsOurs old → (s : State) → (h : TablesAre (tables_of old) s) (all : List ℕ) → IsReadBy (tables_of old) s l.file h l.size all
    → (l.bytes.items ≡ take (length l.bytes.items) (drop l.start all))
    × (0 < l.round → 0 < length l.bytes.items)
    × (length l.bytes.items ≤ l.round * 65536))
