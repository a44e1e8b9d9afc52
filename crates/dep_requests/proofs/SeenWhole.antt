-- What is read of an upload that is seen whole.
use Rattle.std.proofs.Common.{◌≡◌, ℕ, List, get_or, slice_get, Option, Some, None, Ok, Err, sym, ap, ◌∙◌}
use Rattle.std.specs.Prelude.{Result}
use Rattle.std.specs.Option.{ok_or}
use Rattle.std.proofs.lemmas.Option.{get_or_from_slice_get}
use Rattle.dep_types.specs.State.{Upload}
use Rattle.dep_types.specs.Rows.{upload_row}
use Rattle.dep_types.specs.Uploads.{assembled}
use Rattle.dep_types.specs.declared.rows.UploadRow.{UploadRow}
use Rattle.dep_types.specs.declared.store_fault.StoreFault.{StoreFault}
use Rattle.dep_fixity.specs.Fixity.{digests_of}
use Rattle.dep_fixity.specs.declared.hasher.Digests.{Digests}
use Rattle.dep_operations.specs.declared.view.LiveUpload.{LiveUpload}
use Rattle.dep_operations.specs.declared.view.UploadState.{UploadState}
use Rattle.dep_operations.specs.declared.view.UploadState.TheVariants.{Unknown, TimedOut, Live}
use Rattle.dep_operations.specs.declared.view.UploadView.{UploadView}
use Rattle.dep_requests.specs.Reported.{whole_view}

-- the row in this state, or another where there is none
abbrev row_in : UploadRow → UploadState → UploadRow
row_in other (Live live) = live.row
row_in other Unknown = other
row_in other TimedOut = other

abbrev digests_in : UploadState → Option Digests
digests_in (Live live) = live.digests
digests_in Unknown = None
digests_in TimedOut = None

pub seen_whole : (views uploads : List UploadView) (i u : ℕ) (it : Upload) (other : UploadView) (live : LiveUpload) → views ≡ uploads → (get_or views i other).state ≡ Live live → slice_get uploads i ≡ Some (whole_view u it)
    → (live.row ≡ upload_row u it) × (live.digests ≡ Some (digests_of (assembled it)))
seen_whole views uploads i u it other live same is seen =
    let at = get_or_from_slice_get views i (whole_view u it) other (ap (λ (x : List UploadView). slice_get x i) same ∙ seen) in
    let state = sym is ∙ ap (λ (v : UploadView). v.state) at in
    (ap (row_in live.row) state, ap digests_in state)

-- the digests of an Ok, or others
abbrev value_in : Digests → Result Digests StoreFault → Digests
value_in other (Ok digests) = digests
value_in other (Err fault) = other

pub same_digests : (have : Option Digests) (digests it : Digests) (fault : StoreFault) → ok_or have fault ≡ Ok digests → have ≡ Some it → digests ≡ it
same_digests have digests it fault is there = ap (value_in it) (sym is ∙ ap (λ (x : Option Digests). ok_or x fault) there)
