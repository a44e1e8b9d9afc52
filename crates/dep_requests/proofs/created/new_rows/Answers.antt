use Rattle.std.proofs.Common.{◌≡◌, ◌+◌, ◌++◌, ◌∷◌, [], List, length, slice_get, take, is_err, Some, refl, sym, ap, ◌∙◌, arith}
use Rattle.std.proofs.lemmas.Option.{slice_get_read}
use Rattle.std.proofs.lemmas.List.{take_all}
use Rattle.dep_types.specs.Rows.{file_row}
use Rattle.dep_types.specs.declared.counters.Counters.{Counters}
use Rattle.dep_types.specs.declared.rows.FileRow.{FileRow}
use Rattle.dep_decisions.specs.Effects.{file_from}
use Rattle.dep_files.proofs.Results.{pushed}
use Rattle.dep_requests.proofs.NewObject.{no_rows, rows_added, rows_more}
use Rattle.dep_requests.proofs.created.new_rows.Goals as goal

pub files-init : goal.files-init
files-init c s numbers sources = c.new-rows.ensures.items ∙ no_rows s c.args.numbered.now.change.now.content.now c.args.object s.next.file

pub files-preserved : goal.files-preserved
files-preserved c s numbers sources =
    let content = c.args.numbered.now.change.now.content.now in
    let files = c.args.numbered.now.files.now in
    let i = c.files.index in
    let x = c.index-files-index.result in
    let n = c.args.object in
    let at : slice_get files i ≡ Some x = slice_get_read files (length files) i x refl (omega arith) c.index-files-index.is in
    let row : c.in_ok-row.row ≡ file_row n (s.next.file + i) (file_from s content x) =
    c.in_ok-row.ensures.reported s (numbers, sources.0 i x at) ∙ ap (λ (k : Counters). file_row n (k.file + i) (file_from s content x)) numbers.1 in
    let before = c.files.rows.items in
    let grown = pushed c.push.result c.push.new.self.items (before ++ c.in_ok-row.row ∷ []) before (ap is_err c.in_ok-push.was) c.push.ensures.items in
    grown
    ∙ ap (λ (l : List FileRow). l ++ c.in_ok-row.row ∷ []) (c.files.invariant s numbers sources)
    ∙ ap (λ (r : FileRow). rows_added s content n s.next.file (take i files) ++ r ∷ []) row
    ∙ sym (rows_more s content n s.next.file files i x at)

pub returns : goal.returns
returns c = record {
  reported = λ s reported.
      c.from_vec.ensures
      ∙ c.files.invariant s reported.0 reported.1
      ∙ ap (rows_added s c.args.numbered.now.change.now.content.now c.args.object s.next.file) (take_all c.files.index c.args.numbered.now.files.now c.files-test.false);
}
