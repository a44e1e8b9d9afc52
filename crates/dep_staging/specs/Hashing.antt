-- The digests of an upload.
use Rattle.std.specs.Prelude.{◌≡◌, Some}
use Rattle.std.specs.FinMap as map
use Rattle.dep_types.specs.State.{State, Upload}
use Rattle.dep_types.specs.Uploads.{assembled}
use Rattle.dep_types.specs.declared.rows.UploadRow.{UploadRow}
use Rattle.dep_fixity.specs.Fixity.{digests_of}
use Rattle.dep_fixity.specs.declared.hasher.Digests.{Digests}

-- the digests of all the bytes of the upload of this row, if it is there
abbrev pub AreDigestsOfUpload : State → UploadRow → Digests → Type 0
AreDigestsOfUpload s row digests = (it : Upload) → map.get s.uploads row.upload ≡ Some it
    → row.count ≡ it.count → digests ≡ digests_of (assembled it)
