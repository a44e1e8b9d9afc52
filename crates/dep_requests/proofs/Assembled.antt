-- A file that is made of a whole upload, by its row and the upload's.
use Rattle.std.proofs.Common.{◌≡◌, ℕ, List, [], Option, Some, Result, OnOk, slice_get, sym, ap, subst, ◌∙◌}
use Rattle.std.specs.Option.{option_map_or}
use Rattle.std.specs.FinMap as finmap
use Rattle.sqlite.specs.State as db
use Rattle.dep_types.specs.State.{State, Object, File, Upload}
use Rattle.dep_types.specs.Uploads.{assembled}
use Rattle.dep_types.specs.Rows.{file_row, upload_row}
use Rattle.dep_types.specs.declared.rows.FileRow.{FileRow}
use Rattle.dep_types.specs.declared.rows.UploadRow.{UploadRow}
use Rattle.dep_types.specs.declared.store_fault.StoreFault.{StoreFault}
use Rattle.dep_fixity.specs.Fixity.{digests_of}
use Rattle.dep_fixity.specs.declared.hasher.Digests.{Digests}
use Rattle.dep_row_maps.specs.Clauses.{ChangesMaps, SeesState}
use Rattle.dep_files.specs.Edits as edits
use Rattle.dep_staging.specs.Assembling.{deposited}
use Rattle.dep_staging.specs.Changing.{Assembles}
use Rattle.dep_decisions.specs.Effects.{bytes_from, file_from, is_reference}
use Rattle.dep_decisions.specs.declared.decision.NewFile.{NewFile}
use Rattle.dep_decisions.specs.declared.decision.ContentSource.{ContentSource}
use Rattle.dep_decisions.specs.declared.decision.ContentSource.TheVariants.{Assembled, Posted}
use Rattle.dep_requests.specs.Clauses.{DepositsFile}
use Rattle.dep_requests.specs.Reported.{IsSource, ReportsNewFile, ReportsNumbers, whole_view}
use Rattle.dep_requests.specs.Changed.{IsExtent, made_file, new_row, with_deposited_file}
use Rattle.dep_requests.specs.declared.change.Change.{Change}
use Rattle.dep_requests.specs.declared.new_files.Extent.{Extent}
use Rattle.dep_requests.specs.declared.new_files.FileNumbers.{FileNumbers}
use Rattle.dep_requests.specs.declared.new_files.WholeUpload.{WholeUpload}

pub made_row : (change : Change) (s : State) (numbers : FileNumbers) (new : NewFile) (extent : Extent) (bytes : List ℕ) (row : FileRow) → row ≡ new_row change numbers new extent → ReportsNumbers change.view.now s → IsExtent extent bytes
    → row ≡ file_row numbers.object numbers.file (made_file s new bytes)
made_row change s numbers new extent bytes row is reported has =
    is ∙ (λ i. record { file = numbers.file; object = numbers.object; name = new.name; media = new.media; size = has.0 i; tag = (reported.1 i).change; deposited = reported.0 i; behalf = new.behalf; by_reference = is_reference new.source; sha256 = (has.1 i).sha256 })

-- what is said of the numbers that a file's row has is said of those of the file
pub put_as : (Done : (n f : ℕ) → Type 0) (s : State) (n f : ℕ) (o : Object) (file : File) (row : FileRow) → row ≡ file_row n f file → finmap.get s.objects n ≡ Some o
    → (finmap.get s.objects row.object ≡ Some o → row ≡ file_row row.object row.file file → Done row.object row.file) → Done n f
put_as Done s n f o file row row_is at_o call =
    let object : row.object ≡ n = ap (λ (r : FileRow). r.object) row_is in
    let number : row.file ≡ f = ap (λ (r : FileRow). r.file) row_is in
    subst (λ (m : ℕ). Done m f) object
    (subst (λ (m : ℕ). Done row.object m) number
    (call (ap (finmap.get s.objects) object ∙ at_o) (row_is ∙ ap (λ (m : ℕ). file_row m f file) (sym object) ∙ ap (λ (m : ℕ). file_row row.object m file) (sym number))))

-- and of the upload that it is made of
pub done_as : (Done : (n f u : ℕ) → Type 0) (s : State) (n f u : ℕ) (o : Object) (it : Upload) (file : File) (row : FileRow) (up : UploadRow) → row ≡ file_row n f file → up ≡ upload_row u it → finmap.get s.objects n ≡ Some o → finmap.get s.uploads u ≡ Some it
    → (finmap.get s.objects row.object ≡ Some o → finmap.get s.uploads up.upload ≡ Some it → up ≡ upload_row up.upload it → row ≡ file_row row.object row.file file → Done row.object row.file up.upload) → Done n f u
done_as Done s n f u o it file row up row_is up_is at_o at_u call =
    let upload : up.upload ≡ u = ap (λ (w : UploadRow). w.upload) up_is in
    put_as (λ (m k : ℕ). Done m k u) s n f o file row row_is at_o
    (λ at_object same. subst (λ (m : ℕ). Done row.object row.file m) upload
    (call at_object (ap (finmap.get s.uploads) upload ∙ at_u) (up_is ∙ ap (λ (m : ℕ). upload_row m it) (sym upload)) same))

-- ---- a new file is put in, by its source

-- what is said of a file by the source that it has is said by this one
by_source : (now : db.State) (r : Result (Unit {0}) StoreFault) (s : State) (n f : ℕ) (o : Object) (file : File) (own source : ContentSource) → own ≡ source
    → OnOk r (SeesState now (with_deposited_file s n o f file source)) → OnOk r (SeesState now (with_deposited_file s n o f file own))
by_source now r s n f o file own source is = subst (λ (from : ContentSource). OnOk r (SeesState now (with_deposited_file s n o f file from))) (sym is)

module _ {T L : Type 0} {lenders : T → L} {state : T → db.State} {old now : T} {r : Result (Unit {0}) StoreFault} (change : Change) (numbers : FileNumbers) (new : NewFile) (index : ℕ) (row : FileRow)
    (row_is : (s : State) → ReportsNewFile change s index new.source → row ≡ file_row numbers.object numbers.file (file_from s change.content.now new)) where
  -- the content of the request
  pub posted_put : (digests : Digests) → new.source ≡ Posted digests → ChangesMaps lenders state old now r (edits.PutsFile row digests.sha512 change.content.now) → DepositsFile lenders state old now r change numbers new index new.source
  posted_put digests is put = record {
    done = λ o clean inside ours s are reported.
        let file : File = file_from s change.content.now new in
        let posted = subst (IsSource s change.content.now (slice_get change.view.now.uploads index)) is reported.0.1 in
        let bytes : bytes_from s change.content.now new.source ≡ change.content.now = ap (bytes_from s change.content.now) is in
        by_source (state now) r s numbers.object numbers.file o file new.source (Posted digests) is
        (put_as (λ (n f : ℕ). OnOk r (SeesState (state now) (edits.with_file s n o f file))) s numbers.object numbers.file o file row (row_is s reported.0) reported.1
        (λ there same. put.map clean inside ours s are o file there same (ap (λ (d : Digests). d.sha512) posted ∙ ap (λ (bs : List ℕ). (digests_of bs).sha512) (sym bytes)) (sym bytes)));
    keeps = put.keeps;
  }

  -- a whole upload
  pub upload_put : (u : ℕ) → new.source ≡ Assembled u → (up : WholeUpload) → ((k : ℕ) (it : Upload) → slice_get change.view.now.uploads index ≡ Some (whole_view k it) → (up.row ≡ upload_row k it) × (up.digests ≡ digests_of (assembled it)))
      → ChangesMaps lenders state old now r (Assembles up.row row up.digests.sha512) → DepositsFile lenders state old now r change numbers new index new.source
  upload_put u is up tells put = record {
    done = λ o clean inside ours s are reported.
        let source = subst (IsSource s change.content.now (slice_get change.view.now.uploads index)) is reported.0.1 in
        let it = source.upload in
        let told = tells u it source.seen_so in
        let file : File = file_from s change.content.now new in
        let bytes : bytes_from s change.content.now new.source ≡ assembled it = ap (bytes_from s change.content.now) is ∙ ap (λ (found : Option Upload). option_map_or assembled found []) source.there in
        by_source (state now) r s numbers.object numbers.file o file new.source (Assembled u) is
        (done_as (λ (n f w : ℕ). OnOk r (SeesState (state now) (deposited s n o f file w))) s numbers.object numbers.file u o it file row up.row (row_is s reported.0) told.0 reported.1 source.there
        (λ at_object at_upload upload_is same. put.map clean inside ours s are o it file at_object at_upload source.whole.segments upload_is same
        (ap (λ (d : Digests). d.sha512) told.1 ∙ ap (λ (bs : List ℕ). (digests_of bs).sha512) (sym bytes)) bytes));
    keeps = put.keeps;
  }
