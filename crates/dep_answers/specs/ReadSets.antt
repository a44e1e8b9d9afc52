-- What has to be read of the archive for a reply, and what is read.
use Rattle.std.specs.Prelude.{ℕ, ◌-◌, Bool, true, false, List, [], Option, Some}
use Rattle.std.specs.Option.{option_map_or}
use Rattle.std.specs.FinMap as finmap
use Rattle.dep_types.specs.State.{State, Object as Kept, file_at}
use Rattle.dep_types.specs.Rows.{object_row, object_view, file_row, upload_row}
use Rattle.dep_types.specs.declared.counters.Counters.{Counters}
use Rattle.dep_types.specs.declared.rows.ObjectView.{ObjectView}
use Rattle.dep_types.specs.declared.target.Resource.{Resource}
use Rattle.dep_types.specs.declared.target.Resource.TheVariants.{Service, Object, Metadata, FileSet, File, Staging, Upload, BagList, BagFile}
use Rattle.dep_types.specs.declared.target.Method.{Method}
use Rattle.dep_types.specs.declared.target.Method.TheVariants.{Get, Head, Post, Put}
use Rattle.dep_manifest.specs.declared.algorithm.Algorithm.TheVariants.{Sha512}
use Rattle.dep_bag.specs.Numbered.{file_number}
use Rattle.dep_bag.specs.Parts.{tag_file_at}
use Rattle.dep_bag.specs.declared.part.TagFile.{TagFile}
use Rattle.dep_bag.specs.declared.part.TagFile.TheVariants as tag
use Rattle.dep_answers.specs.declared.read_set.ReadSet.{ReadSet}
use Rattle.dep_answers.specs.declared.read_set.ReadSet.TheVariants as read_set
use Rattle.dep_answers.specs.declared.read_set.Shown.{Shown}
use Rattle.dep_answers.specs.declared.read_set.Shown.TheVariants as shown

-- What is read to show a tag file. A bare reply only says how long it is, and no digest has a part in how long a manifest is.
abbrev pub tag_read_set : ℕ → Option TagFile → (is_head_only : Bool) → ReadSet
tag_read_set n (Some tag.Declaration) is_head_only = read_set.ObjectRow n
tag_read_set n (Some tag.Metadata) is_head_only = read_set.Metadata n
tag_read_set n (Some (tag.Manifest Sha512)) false = read_set.Payload n
tag_read_set n (Some (tag.TagManifest a)) false = read_set.Object n
tag_read_set n (Some (tag.TagManifest a)) true = read_set.ObjectRow n
tag_read_set n file is_head_only = read_set.Files n

-- what is read to show what stands at a path of a bag: the one file that can, or else what its tag file is made of
abbrev pub read_set_in_bag : ℕ → (path : List ℕ) → (is_head_only : Bool) → ReadSet
read_set_in_bag n path is_head_only =
    option_map_or (λ f. read_set.File (record { object = n; file = f })) (file_number path)
    (tag_read_set n (tag_file_at path) is_head_only)

-- what is read to show a resource
abbrev pub read_set_at : Resource → (is_head_only : Bool) → ReadSet
read_set_at (Object n) is_head_only = read_set.Files n
read_set_at (Metadata n) is_head_only = read_set.Metadata n
read_set_at (File n f) is_head_only = read_set.File (record { object = n; file = f })
read_set_at (Upload u) is_head_only = read_set.Upload u
read_set_at (BagList n) is_head_only = read_set.Files n
read_set_at (BagFile n path) is_head_only = read_set_in_bag n path is_head_only
read_set_at resource is_head_only = read_set.Nothing

-- what is read for the reply to a request that was accepted, by the counters that it left
abbrev pub read_set_of : (next : Counters) → Resource → Method → ReadSet
read_set_of next resource Get = read_set_at resource false
read_set_of next resource Head = read_set_at resource true
read_set_of next Service Post = read_set.Files (next.object - 1)
read_set_of next (Object n) Post = read_set.Files n
read_set_of next (Object n) Put = read_set.Files n
read_set_of next (Metadata n) Put = read_set.ObjectRow n
read_set_of next (FileSet n) Put = read_set.ObjectRow n
read_set_of next (File n f) Put = read_set.File (record { object = n; file = f })
read_set_of next Staging Post = read_set.Upload (next.upload - 1)
read_set_of next resource method = read_set.Nothing

-- as many rows are read as an object has texts or files
abbrev pub reads_many_rows : ReadSet → Bool
reads_many_rows (read_set.Object n) = true
reads_many_rows (read_set.Payload n) = true
reads_many_rows (read_set.Files n) = true
reads_many_rows (read_set.Metadata n) = true
reads_many_rows reads = false

-- an object with its files, as it is shown where no metadata is read
abbrev pub payload_view : ℕ → Kept → ObjectView
payload_view n o = record (object_view n o) { metadata = finmap.empty }

-- the same where no SHA-512 values are read either
abbrev pub files_view : ℕ → Kept → ObjectView
files_view n o = record (payload_view n o) { sha512s = [] }

-- what a state shows there
abbrev pub shown_at : State → ReadSet → Shown
shown_at s read_set.Nothing = shown.Nothing
shown_at s (read_set.Object n) =
    option_map_or (λ o. shown.Object (object_view n o)) (finmap.get s.objects n) shown.Nothing
shown_at s (read_set.Payload n) =
    option_map_or (λ o. shown.Files (payload_view n o)) (finmap.get s.objects n) shown.Nothing
shown_at s (read_set.Files n) =
    option_map_or (λ o. shown.Files (files_view n o)) (finmap.get s.objects n) shown.Nothing
shown_at s (read_set.ObjectRow n) =
    option_map_or (λ o. shown.ObjectRow (object_row n o)) (finmap.get s.objects n) shown.Nothing
shown_at s (read_set.Metadata n) =
    option_map_or (λ o. shown.Metadata (object_row n o) o.metadata) (finmap.get s.objects n)
    shown.Nothing
shown_at s (read_set.File id) =
    option_map_or (λ file. shown.File (file_row id.object id.file file))
    (file_at s id.object id.file) shown.Nothing
shown_at s (read_set.Upload u) =
    option_map_or (λ upload. shown.Upload (upload_row u upload) (finmap.keys upload.segments))
    (finmap.get s.uploads u) shown.Nothing
