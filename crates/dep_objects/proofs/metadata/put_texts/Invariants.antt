use Rattle.std.proofs.Common.{◌≡◌, ◌+◌, take, IsTrue}
use Rattle.sqlite.specs.State.{HasCleanDisk}
use Rattle.dep_tables.proofs.Chains.{Stays}
use Rattle.dep_tables.specs.Tables.{tables_of, IsOurs}
use Rattle.dep_row_maps.specs.Owned.{placed, put_each}
use Rattle.dep_row_maps.specs.Stored.{text_values}
use Rattle.dep_row_maps.specs.Clauses.{Sees}
use Rattle.dep_objects.proofs.metadata.put_texts.Given as goal

abbrev pub invariant-texts : goal.invariant-texts
invariant-texts g l =
    let old = g.T.Statements.state l.fn.tx in
    let now = g.T.Statements.state l.tx in
    Stays g.T.Statements.lenders g.T.Statements.state l.fn.tx l.tx
    × (HasCleanDisk now → IsTrue old.in_transaction → IsOurs old → Sees now (record (tables_of old) { metadata = put_each (placed (text_values l.fn.object l.fn.entry.name) l.fn.start (take l.text-index l.fn.entry.texts)) (tables_of old).metadata }))
    × (l.place ≡ l.fn.start + l.text-index) × (l.text-items ≡ l.fn.entry.texts)
