-- The numbers of the segments of an upload, and the document that lists them.
use Rattle.std.specs.Prelude.{ℕ, nat_lt, ◌&&◌, Bool, true, List, [], ◌∷◌, Option, Some, None, if◌then◌else◌}
use Rattle.dep_types.specs.declared.config.Config.{Config}
use Rattle.dep_types.specs.declared.rows.UploadRow.{UploadRow}
use Rattle.dep_docs_out.specs.Documents.{upload_document}

-- each number is above the one before it
unfoldable pub rises_above : (before : ℕ) → List ℕ → Bool
rises_above before [] = true
rises_above before (k ∷ ks) = nat_lt before k && rises_above k ks

-- the numbers may be those of an upload's segments: they rise from 1 on
abbrev pub are_segments : List ℕ → Bool
are_segments received = rises_above 0 received

-- the document of an upload, where these may be the numbers of its segments
abbrev pub ordered_upload_document : Config → UploadRow → (received : List ℕ) → Option (List ℕ)
ordered_upload_document config row received =
    if are_segments received then Some (upload_document config row received) else None
