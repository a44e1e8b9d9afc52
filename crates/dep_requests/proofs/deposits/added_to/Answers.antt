use Rattle.std.proofs.Common.{ap, sym, ◌∙◌}
use Rattle.std.specs.FinMap as finmap
use Rattle.dep_types.specs.MetadataEntries.{joined}
use Rattle.dep_types.specs.Rows.{object_row}
use Rattle.dep_decisions.specs.Effects.{files_added, appended}
use Rattle.dep_decisions.specs.declared.decision.Deposit.{Deposit}
use Rattle.dep_requests.proofs.Steps.{files_of_row, texts_of_row}
use Rattle.dep_requests.proofs.deposits.added_to.Goals as goal

pub returns-in-Files : goal.returns-in-Files
returns-in-Files c s content n o reported is =
    let view = c.args.view.now in
    files_of_row s n o c.args.row is view.clock view.next reported.0 reported.1 c.files_changed.result (files_added s content c.in-Files.field-0 o.files) c.files_changed.ensures
    ∙ sym (ap (λ (d : Deposit). object_row n (appended s content d o)) c.in-Files.is)

pub returns-in-Metadata : goal.returns-in-Metadata
returns-in-Metadata c s content n o reported is =
    let view = c.args.view.now in
    texts_of_row s n o c.args.row is view.clock view.next reported.0 reported.1 c.texts_changed.result (joined (finmap.entries c.in-Metadata.field-0) o.metadata) c.texts_changed.ensures
    ∙ sym (ap (λ (d : Deposit). object_row n (appended s content d o)) c.in-Metadata.is)
