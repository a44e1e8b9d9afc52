use Rattle.std.proofs.Common.{◌≡◌, Some, take, IsTrue}
use Rattle.std.specs.FinMap as map
use Rattle.sqlite.specs.State.{HasCleanDisk}
use Rattle.dep_types.specs.State.{State, Object}
use Rattle.dep_tables.proofs.Chains.{Stays}
use Rattle.dep_tables.specs.Tables.{IsOurs}
use Rattle.dep_row_maps.specs.Clauses.{SeesState}
use Rattle.dep_requests.specs.Reported.{ReportsNumbers, AreSources}
use Rattle.dep_requests.proofs.Added.{with_new_files}
use Rattle.dep_requests.proofs.new_files.put_new_files.Given as goal

abbrev pub invariant-files : goal.invariant-files
invariant-files g l =
    let old = g.T.Statements.state l.fn.tx in
    let now = g.T.Statements.state l.tx in
    Stays g.T.Statements.lenders g.T.Statements.state l.fn.tx l.tx
    × (HasCleanDisk now → IsTrue old.in_transaction → IsOurs old → IsOurs now)
    × (HasCleanDisk now → IsTrue old.in_transaction → IsOurs old
    → (s : State) → SeesState old s → (o : Object) → ReportsNumbers l.numbered.change.now.view.now s → map.get s.objects l.object ≡ Some o
    → AreSources s l.numbered.change.now.content.now l.numbered.change.now.view.now.uploads l.numbered.files.now
    → SeesState now (with_new_files s l.numbered.change.now.content.now l.object o (take l.index l.numbered.files.now)))
