use Rattle.std.proofs.Common.{take, IsTrue}
use Rattle.sqlite.specs.State.{HasCleanDisk}
use Rattle.dep_tables.proofs.Chains.{Stays}
use Rattle.dep_tables.specs.Tables.{tables_of, IsOurs}
use Rattle.dep_row_maps.specs.Owned.{put_each}
use Rattle.dep_row_maps.specs.Clauses.{Sees}
use Rattle.dep_objects.specs.Texts.{entry_rows}
use Rattle.dep_objects.proofs.metadata.put_entries.Given as goal

abbrev pub invariant-entries : goal.invariant-entries
invariant-entries g l =
    let old = g.T.Statements.state l.fn.tx in
    let now = g.T.Statements.state l.tx in
    Stays g.T.Statements.lenders g.T.Statements.state l.fn.tx l.tx
    × (HasCleanDisk now → IsTrue old.in_transaction → IsOurs old → Sees now (record (tables_of old) { metadata = put_each (entry_rows l.fn.object (take l.entry-index l.entries)) (tables_of old).metadata }))
