-- A file that is made of the blocks of an upload.
use Rattle.std.proofs.Common.{◌≡◌, ℕ, List, Some, sym, ap, subst, ◌∙◌}
use Rattle.std.specs.FinMap as finmap
use Rattle.sha2.specs.Sha512.{sha512}
use Rattle.dep_types.specs.State.{State, Object, File, Upload}
use Rattle.dep_types.specs.Rows.{file_row}
use Rattle.dep_types.specs.Uploads.{assembled}
use Rattle.dep_types.specs.declared.rows.UploadRow.{UploadRow}
use Rattle.dep_types.specs.declared.rows.FileRow.{FileRow}
use Rattle.dep_tables.specs.Rowids.{IsOrdered, row_at}
use Rattle.dep_tables.specs.Edits.{with_blocks_moved, LacksFileRow, with_new_file_row, with_new_sha512}
use Rattle.dep_tables.specs.Tables.{Tables}
use Rattle.dep_tables.specs.declared.owner.BlockOwner.TheVariants as owner
use Rattle.dep_row_maps.specs.Laws.{without_upload_rows}
use Rattle.dep_row_maps.specs.TablesAre.{TablesAre}
use Rattle.dep_row_maps.proofs.Whole.{file_assembled}
use Rattle.dep_staging.specs.Assembling.{HasItsSegments, deposited}

-- the tables with the upload's blocks as the file's, without the upload's rows and with the SHA-512, before the file's row
abbrev pub moved_whole : (u f : ℕ) (value : List ℕ) → Tables → Tables
moved_whole u f value t = with_new_sha512 (owner.File f) value (without_upload_rows u (with_blocks_moved (owner.Upload u) (owner.File f) t))

pub made : (a b c : Tables) (upload : UploadRow) (row : FileRow) (value : List ℕ) → b ≡ moved_whole upload.upload row.file value a → c ≡ with_new_file_row row (moved_whole upload.upload row.file value a)
    → (s : State) (o : Object) (it : Upload) (file : File) → TablesAre a s → IsOrdered a.files → IsOrdered a.sha512s → finmap.get s.objects row.object ≡ Some o → finmap.get s.uploads upload.upload ≡ Some it → HasItsSegments it
    → row ≡ file_row row.object row.file file → value ≡ sha512 file.content → file.content ≡ assembled it → LacksFileRow row.file b → TablesAre c (deposited s row.object o row.file file upload.upload)
made a b c upload row value so_far all s o it file h up values_up there held whole row_is its content free =
    let made_of = λ (r : FileRow) (v : List ℕ). with_new_file_row r (moved_whole upload.upload row.file v a) in
    subst (λ (t : Tables). TablesAre t (deposited s row.object o row.file file upload.upload)) (sym (all ∙ (λ i. made_of (row_is i) (its i))))
    (file_assembled a s h up values_up row.object o there row.file file (ap (λ (t : Tables). row_at t.files row.file) (sym so_far) ∙ free) upload.upload it held whole.within whole.sized content)
