use Rattle.std.proofs.Common.{take, IsTrue}
use Rattle.sqlite.specs.State.{HasCleanDisk}
use Rattle.dep_tables.specs.Tables.{tables_of, IsOurs}
use Rattle.dep_tables.proofs.Chains.{Stays}
use Rattle.dep_row_maps.specs.Clauses.{Sees}
use Rattle.dep_migrations.specs.Upgrading.{with_sha512s}
use Rattle.dep_migrations.proofs.upgrading.insert_values.Given as goal

-- the values before this one are in
abbrev pub invariant-values : goal.invariant-values
invariant-values g l =
    let old = g.T.Statements.state l.fn.tx in
    let now = g.T.Statements.state l.tx in
    Stays g.T.Statements.lenders g.T.Statements.state l.fn.tx l.tx
    × (HasCleanDisk now → IsTrue old.in_transaction → IsOurs old → Sees now (with_sha512s (take l.value-index l.values) (tables_of old)))
