use Rattle.std.proofs.Common.{◌≡◌, ◌<◌, ◌^◌, take, IsTrue, length}
use Rattle.sqlite.specs.State.{HasCleanDisk}
use Rattle.dep_tables.specs.Tables.{tables_of, IsOurs}
use Rattle.dep_tables.proofs.Chains.{Stays}
use Rattle.dep_row_maps.specs.Stored.{blocks_of, put_blocks}
use Rattle.dep_row_maps.specs.Clauses.{Sees}
use Rattle.dep_files.proofs.blocks.put_blocks.Given as goal

abbrev pub invariant-loop-place : goal.invariant-loop-place
invariant-loop-place g l =
    let old = g.T.Statements.state l.fn.tx in
    let now = g.T.Statements.state l.tx in
    (l.place-end ≡ length (blocks_of (g.C.Content.bytes l.content)))
    × Stays g.T.Statements.lenders g.T.Statements.state l.fn.tx l.tx
    × (HasCleanDisk now → IsTrue old.in_transaction → IsOurs old → Sees now (record (tables_of old) { blocks = put_blocks l.owner l.part 0 (take l.place (blocks_of (g.C.Content.bytes l.content))) (tables_of old).blocks }))
    × (l.place-end < 2 ^ 63)
