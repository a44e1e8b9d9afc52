-- The paths of an object's bag and what stands at each, by a view of the object.
use Rattle.std.specs.Prelude.{ℕ, List, [], ◌∷◌, ◌++◌, map, find, codes, bytes_eq, Option, Some, None, option_map, if◌then◌else◌}
use Rattle.std.specs.FinMap as finmap
use Rattle.dep_types.specs.State.{Object}
use Rattle.dep_types.specs.BagPaths.{tag_paths}
use Rattle.dep_types.specs.declared.rows.FileRow.{FileRow}
use Rattle.dep_types.specs.declared.rows.ObjectView.{ObjectView}
use Rattle.dep_types.specs.Sinks.{PathAndBytes}
use Rattle.dep_manifest.specs.declared.algorithm.Algorithm.TheVariants.{Sha256, Sha512}
use Rattle.dep_docs_out.specs.Documents.{bag_metadata_document}
use Rattle.dep_manifest.specs.TagFiles.{bagit_text, tag_manifest_path}
use Rattle.dep_manifest.specs.Reported.{row_path, reported_info, reported_listed, reported_manifest, reported_tag_manifest}
use Rattle.dep_bag.specs.declared.part.BagPart.{BagPart}
use Rattle.dep_bag.specs.declared.part.BagPart.TheVariants.{Bytes, Stored}
use Rattle.dep_bag.specs.declared.part.TagFile.{TagFile}
use Rattle.dep_bag.specs.declared.part.TagFile.TheVariants.{Declaration, Information, Manifest, Metadata, TagManifest}

-- a name in the folder of a number
abbrev pub in_folder : (digits name : List ℕ) → List ℕ
in_folder digits name = codes "data/" ++ digits ++ codes "/" ++ name

abbrev pub reported_tag_manifests : ObjectView → List PathAndBytes
reported_tag_manifests view =
    (tag_manifest_path Sha256, reported_tag_manifest Sha256 view)
    ∷ (tag_manifest_path Sha512, reported_tag_manifest Sha512 view)
    ∷ []

-- the files that are not payload
abbrev pub reported_tag_files : ObjectView → List PathAndBytes
reported_tag_files view = reported_listed view ++ reported_tag_manifests view

-- the paths of the bag, in order
abbrev pub reported_paths : ObjectView → List (List ℕ)
reported_paths view = tag_paths ++ map row_path view.files

abbrev pub text_part : PathAndBytes → List ℕ × BagPart
text_part file = (file.0, Bytes file.1)

abbrev pub stored_part : FileRow → List ℕ × BagPart
stored_part row = (row_path row, Stored row.file)

-- each path with what stands there, in order
abbrev pub reported_parts : ObjectView → List (List ℕ × BagPart)
reported_parts view =
    map text_part (reported_tag_files view) ++ map stored_part view.files

-- the first part among these that stands at a path
abbrev pub part_at : (path : List ℕ) → List (List ℕ × BagPart) → Option BagPart
part_at path parts = option_map (λ part. part.1) (find (λ part. bytes_eq path part.0) parts)

-- what stands at a path
abbrev pub reported_part : ObjectView → List ℕ → Option BagPart
reported_part view path = part_at path (reported_parts view)

-- the tag file that stands at a path
abbrev pub tag_file_at : List ℕ → Option TagFile
tag_file_at path =
    if bytes_eq path (codes "bagit.txt") then Some Declaration
    else if bytes_eq path (codes "bag-info.txt") then Some Information
    else if bytes_eq path (codes "manifest-sha256.txt") then Some (Manifest Sha256)
    else if bytes_eq path (codes "manifest-sha512.txt") then Some (Manifest Sha512)
    else if bytes_eq path (codes "metadata/sword.json") then Some Metadata
    else if bytes_eq path (codes "tagmanifest-sha256.txt") then Some (TagManifest Sha256)
    else if bytes_eq path (codes "tagmanifest-sha512.txt") then Some (TagManifest Sha512)
    else None

-- its text
abbrev pub tag_text : ObjectView → TagFile → List ℕ
tag_text view Declaration = bagit_text
tag_text view Information = reported_info view
tag_text view (Manifest a) = reported_manifest a view
tag_text view Metadata = bag_metadata_document view.metadata
tag_text view (TagManifest a) = reported_tag_manifest a view

-- the bytes of a part of the object's bag, if it has them
abbrev pub part_bytes : Object → BagPart → Option (List ℕ)
part_bytes o (Bytes bytes) = Some bytes
part_bytes o (Stored file) = option_map (λ f. f.content) (finmap.get o.files file)

-- a path, with the bytes of the part there
abbrev pub reported_bytes : Object → List ℕ × BagPart → List ℕ × Option (List ℕ)
reported_bytes o part = (part.0, part_bytes o part.1)

-- a file of the bag, in the same form
abbrev pub held_bytes : PathAndBytes → List ℕ × Option (List ℕ)
held_bytes file = (file.0, Some file.1)
