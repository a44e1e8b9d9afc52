-- What is shown at the paths of an object's bag (RFC 8493).
use Rattle.std.specs.Prelude.{ℕ, List, [], ◌∷◌, ◌++◌, map, find, codes, bytes_eq, Option, option_map}
use Rattle.std.specs.FinMap as finmap
use Rattle.dep_types.specs.BagPaths.{payload_path}
use Rattle.dep_types.specs.State.{Object, File}
use Rattle.dep_docs_out.specs.Documents.{bag_metadata_document}
use Rattle.dep_manifest.specs.TagFiles.{bagit_text, info_text}
use Rattle.dep_bag.specs.Bag.{oxum, payload, listed_files}
use Rattle.dep_manifest.specs.Manifest.{sha256_digest, sha512_digest, manifest_of}
use Rattle.dep_answers.specs.Answers.{ReplyContent, Document, PlainText, file_reply}

-- a path, and what is shown there
abbrev pub BagEntry : Type 0
BagEntry = List ℕ × ReplyContent

-- the tag files: texts, and the metadata as a document
abbrev pub tags_shown : Object → List BagEntry
tags_shown o =
    (codes "bagit.txt", PlainText bagit_text)
    ∷ (codes "bag-info.txt", PlainText (info_text o.changed (oxum (payload o))))
    ∷ (codes "manifest-sha256.txt", PlainText (manifest_of sha256_digest (payload o)))
    ∷ (codes "manifest-sha512.txt", PlainText (manifest_of sha512_digest (payload o)))
    ∷ (codes "metadata/sword.json", Document (bag_metadata_document o.metadata))
    ∷ (codes "tagmanifest-sha256.txt", PlainText (manifest_of sha256_digest (listed_files o)))
    ∷ (codes "tagmanifest-sha512.txt", PlainText (manifest_of sha512_digest (listed_files o)))
    ∷ []

-- a file of the object of this number, under its own media type
abbrev pub payload_shown : ℕ → ℕ × File → BagEntry
payload_shown n e = (payload_path e.0 e.1.name, file_reply n e.0 e.1)

-- the files of the bag, in the order of its list
abbrev pub bag_entries : ℕ → Object → List BagEntry
bag_entries n o = tags_shown o ++ map (payload_shown n) (finmap.entries o.files)

-- what stands at a path, which is compared whole
abbrev pub shown_in_bag : ℕ → Object → (path : List ℕ) → Option ReplyContent
shown_in_bag n o path =
    option_map (λ entry. entry.1) (find (λ entry. bytes_eq path entry.0) (bag_entries n o))
