use Rattle.std.proofs.Common.{◌≡◌}
use Rattle.sqlite.specs.State.{HasCleanDisk}
use Rattle.sqlite.specs.Held.{state}
use Rattle.dep_tables.specs.Rows.{owner_values}
use Rattle.dep_tables.specs.Texts.{blocks_of_text}
use Rattle.dep_schema.specs.Clauses.{StaysOver}
use Rattle.dep_schema.proofs.RowByRow.{Hashed}
use Rattle.dep_schema.proofs.hashing.hash_blocks.Given as goal

-- the hasher holds the rows so far
abbrev pub invariant-rows : goal.invariant-rows
invariant-rows g l =
    let old = l.fn.connection in
    let now = l.rows.conn.now in
    (l.rows.conn.ghost_name ≡ l.initial.rows.conn.ghost_name)
    × StaysOver g.S.Store old now
    × (HasCleanDisk (state g.S.Store now) → Hashed g.S.Store blocks_of_text (owner_values l.fn.owner) (state g.S.Store old) now l.counter l.hasher)
