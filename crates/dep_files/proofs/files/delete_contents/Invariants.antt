use Rattle.std.proofs.Common.{take, map, IsTrue}
use Rattle.sqlite.specs.State.{HasCleanDisk}
use Rattle.dep_types.specs.declared.rows.FileRow.{FileRow}
use Rattle.dep_tables.specs.Tables.{tables_of, IsOurs}
use Rattle.dep_tables.proofs.Chains.{Stays}
use Rattle.dep_row_maps.specs.Clauses.{Sees}
use Rattle.dep_row_maps.specs.Laws.{without_contents}
use Rattle.dep_files.proofs.files.delete_contents.Given as goal

abbrev pub invariant-rows : goal.invariant-rows
invariant-rows g l =
    let old = g.T.Statements.state l.fn.tx in
    let now = g.T.Statements.state l.tx in
    Stays g.T.Statements.lenders g.T.Statements.state l.fn.tx l.tx
    × (HasCleanDisk now → IsTrue old.in_transaction → IsOurs old → Sees now (without_contents (map (λ (r : FileRow). r.file) (take l.row-index l.rows)) (tables_of old)))
