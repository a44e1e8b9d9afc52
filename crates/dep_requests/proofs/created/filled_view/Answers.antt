use Rattle.std.proofs.Common.{◌≡◌, List, Some, ap, subst, sym, ◌∙◌}
use Rattle.dep_types.specs.declared.rows.ObjectView.{ObjectView}
use Rattle.dep_answers.specs.declared.read_set.Shown.TheVariants as shown
use Rattle.dep_decisions.specs.declared.decision.Deposit.TheVariants.{Files}
use Rattle.dep_decisions.specs.declared.decision.NewFile.{NewFile}
use Rattle.dep_requests.specs.Reported.{ReportsDeposit}
use Rattle.dep_requests.proofs.NewObject.{view_of_files, view_of_texts}
use Rattle.dep_requests.proofs.created.filled_view.Goals as goal

pub returns-in_ok-rows-in-Files : goal.returns-in_ok-rows-in-Files
returns-in_ok-rows-in-Files c = record {
  reported = λ s n ingested reported is.
      let content = c.args.numbered.now.change.now.content.now in
      let same : c.args.numbered.now.deposit.now ≡ Files c.as_slice-files.result.now = c.in-Files.is ∙ ap (λ (fs : List NewFile). Files fs) (sym c.as_slice-files.ensures) in
      ap (λ (v : ObjectView). Some (shown.Files v))
      (view_of_files s content n ingested c.args.row is c.args.numbered.now.deposit.now c.as_slice-files.result.now same c.new.result c.new.ensures c.in_ok-rows-in-Files.rows
      (c.in_ok-rows-in-Files.ensures.reported s (subst (ReportsDeposit c.args.numbered.now.change.now s) same reported)) c.empty.result c.empty.ensures);
}

pub returns-in-Metadata : goal.returns-in-Metadata
returns-in-Metadata c = record {
  reported = λ s n ingested reported is.
      ap (λ (v : ObjectView). Some (shown.Files v))
      (view_of_texts s c.args.numbered.now.change.now.content.now n ingested c.args.row is c.args.numbered.now.deposit.now c.in-Metadata.field-0 c.in-Metadata.is c.new-in-Metadata.result c.new-in-Metadata.ensures c.empty-in-Metadata.result c.empty-in-Metadata.ensures
      c.empty-in-Metadata-2.result c.empty-in-Metadata-2.ensures);
}
