use Rattle.std.proofs.Common.{◌≡◌, Some, IsTrue}
use Rattle.std.specs.FinMap as finmap
use Rattle.sqlite.specs.State.{HasCleanDisk}
use Rattle.dep_types.specs.State.{State, Object}
use Rattle.dep_tables.proofs.Chains.{Stays}
use Rattle.dep_tables.specs.Tables.{tables_of, IsOurs}
use Rattle.dep_row_maps.specs.TablesAre.{TablesAre, with_object}
use Rattle.dep_objects.proofs.Appending.{appended}
use Rattle.dep_objects.proofs.metadata.append_metadata.Given as goal

-- The tables are those of a state with the texts of the names that were gone through.
abbrev pub invariant-entries : goal.invariant-entries
invariant-entries g l =
    let old = g.T.Statements.state l.fn.tx in
    let now = g.T.Statements.state l.tx in
    Stays g.T.Statements.lenders g.T.Statements.state l.fn.tx l.tx
    × (HasCleanDisk now → IsTrue old.in_transaction → IsOurs old → IsOurs now
    × ((s : State) → TablesAre (tables_of old) s → (o : Object) → finmap.get s.objects l.fn.object ≡ Some o → TablesAre (tables_of now) (with_object s l.fn.object (appended l.entry-items l.entry-index o))))
