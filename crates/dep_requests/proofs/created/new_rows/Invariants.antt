use Rattle.std.proofs.Common.{◌≡◌, take}
use Rattle.dep_types.specs.State.{State}
use Rattle.dep_requests.specs.Reported.{ReportsNumbers, AreSources}
use Rattle.dep_requests.proofs.NewObject.{rows_added}
use Rattle.dep_requests.proofs.created.new_rows.Given as goal

-- the rows are those of the files so far
abbrev pub invariant-files : goal.invariant-files
invariant-files l =
    (s : State) → ReportsNumbers l.numbered.change.now.view.now s → AreSources s l.numbered.change.now.content.now l.numbered.change.now.view.now.uploads l.numbered.files.now
    → l.rows.items ≡ rows_added s l.numbered.change.now.content.now l.object s.next.file (take l.index l.numbered.files.now)
