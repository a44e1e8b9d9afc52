use Rattle.std.proofs.Common.{ap, subst, sym, ◌∙◌}
use Rattle.dep_decisions.specs.Effects.{ingested_by}
use Rattle.dep_operations.specs.Views.{touched_by}
use Rattle.dep_operations.specs.declared.view.View.{View}
use Rattle.dep_requests.specs.Known.{known_row}
use Rattle.dep_requests.specs.Reported.{ReportsFor}
use Rattle.dep_requests.proofs.Carried.{numbers_reported, reported}
use Rattle.dep_requests.proofs.Filled.{ingested_row}
use Rattle.dep_requests.proofs.KnownShown.{appended_left, completed_left, shown_left}
use Rattle.dep_requests.proofs.Steps.{completed_row, row_is}
use Rattle.dep_requests.proofs.known.row_after.Goals as goal

pub returns-in-Show : goal.returns-in-Show
returns-in-Show c s content it =
    let view = c.args.view.now in
    sym c.in_ok-row.was ∙ shown_left s content view (touched_by it.config it.op).object (ap (λ (v : View). v.object) it.seen)
    ∙ sym (ap (known_row s content view) c.in-Show.is)

pub returns-in-Append : goal.returns-in-Append
returns-in-Append c s content it =
    let view = c.args.view.now in
    let n = c.in-Append.object in
    let has = subst (ReportsFor view s content) c.in-Append.is (reported s view content c.args.decision.now it) in
    let o = has.0 in
    let was = ingested_row n o c.in-Append.ingests c.in_ok-row.row c.ingested_by.result (row_is s n o view.object has.1.0 c.in_ok-row.row c.in_ok-row.was) c.ingested_by.ensures in
    let is = c.added_to.ensures s content n (ingested_by c.in-Append.ingests o) (numbers_reported s view content c.args.decision.now it) was in
    appended_left s content view n o has.1 c.in-Append.deposit c.in-Append.ingests c.added_to.result is
    ∙ sym (ap (known_row s content view) c.in-Append.is)

pub returns-in-Complete : goal.returns-in-Complete
returns-in-Complete c s content it =
    let view = c.args.view.now in
    let n = c.in-Complete.object in
    let has = subst (ReportsFor view s content) c.in-Complete.is (reported s view content c.args.decision.now it) in
    let numbers = numbers_reported s view content c.args.decision.now it in
    let o = has.0 in
    let is = completed_row s n o view.object has.1.0 c.in_ok-row.row c.in_ok-row.was view.clock view.next numbers.0 numbers.1 c.completed.result c.completed.ensures in
    completed_left s content view n o has.1 c.completed.result is ∙ sym (ap (known_row s content view) c.in-Complete.is)
