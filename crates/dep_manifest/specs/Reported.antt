-- The tag files of an object's bag, by a view of the object.
use Rattle.std.specs.Prelude.{◌≡◌, ℕ, List, [], ◌∷◌, ◌++◌, length, map, sum_by, codes, Option, option_to_list}
use Rattle.std.specs.List.{zip}
use Rattle.dep_types.specs.BagPaths.{payload_path}
use Rattle.dep_types.specs.declared.rows.FileRow.{FileRow}
use Rattle.dep_types.specs.declared.rows.ObjectView.{ObjectView}
use Rattle.dep_types.specs.Sinks.{PathAndBytes}
use Rattle.dep_docs_out.specs.Documents.{bag_metadata_document}
use Rattle.dep_manifest.specs.Manifest.{Checksum, checksum_of, digest_by, manifest, manifest_line, manifest_of}
use Rattle.dep_manifest.specs.TagFiles.{bagit_text, oxum_text, info_text, manifest_path}
use Rattle.dep_manifest.specs.declared.algorithm.Algorithm.{Algorithm}
use Rattle.dep_manifest.specs.declared.algorithm.Algorithm.TheVariants.{Sha256, Sha512}
use Rattle.dep_manifest.specs.declared.tag_manifests.TagManifests.{TagManifests}

-- where a file stands
abbrev pub row_path : FileRow → List ℕ
row_path row = payload_path row.file row.name

-- the checksum of a row's file in a manifest, by its digest
abbrev pub row_checksum : FileRow → (value : List ℕ) → Checksum
row_checksum row value = record { path = row_path row; value = value }

-- those of the files of some rows, whose SHA-512 values stand beside them
abbrev pub row_checksums : Algorithm → List FileRow → (sha512s : List (List ℕ)) → List Checksum
row_checksums Sha256 rows values = map (λ row. row_checksum row row.sha256) rows
row_checksums Sha512 rows values = map (λ e. row_checksum e.0 e.1) (zip rows values)

-- the line of one of them, if there is a value
abbrev pub row_line : Algorithm → FileRow → (sha512 : Option (List ℕ)) → List ℕ
row_line a row value = manifest (row_checksums a (row ∷ []) (option_to_list value))

-- how many bytes and files the payload has, as `bag-info.txt` says it
abbrev pub reported_oxum : List FileRow → List ℕ
reported_oxum rows = oxum_text (sum_by (λ row. row.size) rows) (length rows)

-- the text of `bag-info.txt`
abbrev pub reported_info : ObjectView → List ℕ
reported_info view = info_text view.object.changed (reported_oxum view.files)

-- the text of the payload's manifest by an algorithm
abbrev pub reported_manifest : Algorithm → ObjectView → List ℕ
reported_manifest a view = manifest (row_checksums a view.files view.sha512s)

-- the files that a tag manifest names
abbrev pub reported_listed : ObjectView → List PathAndBytes
reported_listed view =
    (codes "bagit.txt", bagit_text)
    ∷ (codes "bag-info.txt", reported_info view)
    ∷ (manifest_path Sha256, reported_manifest Sha256 view)
    ∷ (manifest_path Sha512, reported_manifest Sha512 view)
    ∷ (codes "metadata/sword.json", bag_metadata_document view.metadata)
    ∷ []

-- the text of the tag manifest by an algorithm
abbrev pub reported_tag_manifest : Algorithm → ObjectView → List ℕ
reported_tag_manifest a view = manifest_of (digest_by a) (reported_listed view)

-- the text of the tag manifest of an algorithm
abbrev pub text_by : Algorithm → TagManifests → List ℕ
text_by Sha256 manifests = manifests.sha256.items
text_by Sha512 manifests = manifests.sha512.items

-- they are the tag manifests of the bag, by both algorithms
abbrev pub AreTagManifests : ObjectView → TagManifests → Type 0
AreTagManifests view manifests = (a : Algorithm) → text_by a manifests ≡ reported_tag_manifest a view

-- the line of a file was added to each of them
abbrev pub AddsLines : (old new : TagManifests) → PathAndBytes → Type 0
AddsLines old new file = (a : Algorithm)
    → text_by a new ≡ text_by a old ++ manifest_line (checksum_of (digest_by a) file)

-- the lines of all that a tag manifest names were
abbrev pub AddsTagFiles : ObjectView → (old new : TagManifests) → Type 0
AddsTagFiles view old new = (a : Algorithm) → text_by a new ≡ text_by a old ++ reported_tag_manifest a view
