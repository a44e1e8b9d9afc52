use Rattle.std.proofs.Common.{◌||◌, Ok, Some, ap, refl, subst, sym, ◌∙◌}
use Rattle.std.specs.Prelude.{slice_get}
use Rattle.std.specs.FinMap as finmap
use Rattle.dep_types.specs.Rows.{object_row}
use Rattle.dep_types.specs.declared.counters.Counters.{Counters}
use Rattle.dep_decisions.specs.Decisions.{numbers_for}
use Rattle.dep_decisions.specs.Effects.{files_added, blank, ingested_by}
use Rattle.dep_decisions.specs.declared.decision.Decision.{Decision}
use Rattle.dep_tables.proofs.Results.{if_then}
use Rattle.dep_answers.specs.declared.read_set.Shown.TheVariants as shown
use Rattle.dep_requests.specs.Reported.{IsSource}
use Rattle.dep_requests.proofs.Carried.{room_of_files}
use Rattle.dep_requests.proofs.KnownShown.{created_known, file_known, files_known, known_of, replaced_known, texts_known}
use Rattle.dep_requests.proofs.Filled.{blank_again, blank_row_is, ingested_row}
use Rattle.dep_requests.proofs.Steps.{files_row, row_is, texts_row}
use Rattle.dep_requests.proofs.known.known_after.Goals as goal

pub invariant_of-filled_view : goal.invariant_of-filled_view
invariant_of-filled_view c = record { room = room_of_files c.args.view.now.next c.args.decision.now _ (ap (λ (d : Decision). (numbers_for d).file) c.in-Create.is) c.requires }

pub invariant_of-filled_view-in-Replace : goal.invariant_of-filled_view-in-Replace
invariant_of-filled_view-in-Replace c = record { room = room_of_files c.args.view.now.next c.args.decision.now _ (ap (λ (d : Decision). (numbers_for d).file) c.in-Replace.is) c.requires }

pub returns-in-Create : goal.returns-in-Create
returns-in-Create c = record {
  reported = λ s it. known_of s c.args.view.now c.args.content.now c.args.decision.now _ c.in-Create.is c.filled_view.result it (λ numbers has.
      let view = c.args.view.now in
      let is = blank_row_is s view.clock view.next numbers.0 numbers.1 c.blank_row-row.result view.next.object c.in-Create.ingests c.blank_row-row.ensures in
      let number = ap (λ (next : Counters). object_row next.object (blank s c.in-Create.ingests)) numbers.1 in
      if_then c.filled_view.result
      (c.filled_view.ensures.reported s s.next.object c.in-Create.ingests (numbers, has.1) (is ∙ number))
      (created_known s c.args.content.now c.in-Create.deposit c.in-Create.ingests));
}

pub returns-in_ok-touched_object-in-Replace : goal.returns-in_ok-touched_object-in-Replace
returns-in_ok-touched_object-in-Replace c = record {
  reported = λ s it. known_of s c.args.view.now c.args.content.now c.args.decision.now _ c.in-Replace.is c.filled_view-in-Replace.result it (λ numbers has.
      let view = c.args.view.now in
      let n = c.in-Replace.object in
      let o = has.0 in
      let found = c.in_ok-touched_object-in-Replace in
      let was = ingested_row n o c.in-Replace.ingests found.field-0 c.ingested_by-was.result (row_is s n o view.object has.1.0 found.field-0 found.ensures.reported) c.ingested_by-was.ensures in
      let row = blank_again s view.clock view.next numbers.0 numbers.1 c.blank_row-row-in-Replace.result n (ingested_by c.in-Replace.ingests o) c.ingested_by-was.result was c.blank_row-row-in-Replace.ensures in
      if_then c.filled_view-in-Replace.result
      (c.filled_view-in-Replace.ensures.reported s n (o.ingested || c.in-Replace.ingests) (numbers, has.2) row)
      (replaced_known s c.args.content.now n o has.1.1 c.in-Replace.deposit c.in-Replace.ingests));
}

pub returns-in_ok-row-in-SetMetadata : goal.returns-in_ok-row-in-SetMetadata
returns-in_ok-row-in-SetMetadata c = record {
  reported = λ s it. known_of s c.args.view.now c.args.content.now c.args.decision.now _ c.in-SetMetadata.is (Ok (Some (shown.ObjectRow c.texts_changed.result))) it (λ numbers has.
      let view = c.args.view.now in
      let row = c.in_ok-row-in-SetMetadata in
      texts_known s c.args.content.now c.in-SetMetadata.object has.0 has.1.1 c.in-SetMetadata.metadata c.texts_changed.result
      (texts_row s c.in-SetMetadata.object has.0 view.object has.1.0 row.row row.ensures.reported view.clock view.next numbers.0 numbers.1 c.texts_changed.result c.in-SetMetadata.metadata c.texts_changed.ensures));
}

pub returns-in_ok-row-in-SetFiles : goal.returns-in_ok-row-in-SetFiles
returns-in_ok-row-in-SetFiles c = record {
  reported = λ s it. known_of s c.args.view.now c.args.content.now c.args.decision.now _ c.in-SetFiles.is (Ok (Some (shown.ObjectRow c.files_changed.result))) it (λ numbers has.
      let row = c.in_ok-row-in-SetFiles in
      let set = files_added s c.args.content.now c.in-SetFiles.files finmap.empty in
      files_known s c.args.content.now c.in-SetFiles.object has.0 has.1.1 c.in-SetFiles.files c.files_changed.result
      (files_row s c.in-SetFiles.object has.0 c.args.view.now.object has.1.0 row.row row.ensures.reported c.args.view.now.clock c.args.view.now.next numbers.0 numbers.1 c.files_changed.result set c.files_changed.ensures));
}

pub returns-in-SetFile : goal.returns-in-SetFile
returns-in-SetFile c = record {
  reported = λ s it. known_of s c.args.view.now c.args.content.now c.args.decision.now _ c.in-SetFile.is c.replaced_file.result it (λ numbers has.
      let object = has.2.0 in
      let source = subst (IsSource s c.args.content.now (slice_get c.args.view.now.uploads 0)) (sym has.3) refl in
      if_then c.replaced_file.result
      (c.replaced_file.ensures.reported s c.in-SetFile.object has.0 (numbers, source) object)
      (file_known s c.args.content.now c.in-SetFile.object has.0 object.1 c.in-SetFile.file c.in-SetFile.new));
}
