-- The bag of an object: its folder, and its files by path (RFC 8493).
use Rattle.std.specs.Prelude.{◌≡◌, ℕ, List, [], ◌∷◌, ◌++◌, length, map, sum_by, codes, flat_map, All, Option, Some, option_map}
use Rattle.std.specs.FinMap as finmap
use Rattle.dep_types.specs.Maps.{Named}
use Rattle.dep_types.specs.State.{State, Object}
use Rattle.dep_types.specs.BagPaths.{payload_path}
use Rattle.dep_docs_out.specs.Documents.{bag_metadata_document}
use Rattle.dep_types.specs.Sinks.{PathAndBytes}
use Rattle.dep_manifest.specs.Manifest.{digest_by, manifest_of}
use Rattle.dep_manifest.specs.TagFiles.{bagit_text, oxum_text, info_text, manifest_path, tag_manifest_path}
use Rattle.dep_manifest.specs.declared.algorithm.Algorithm.{Algorithm}
use Rattle.dep_manifest.specs.declared.algorithm.Algorithm.TheVariants.{Sha256, Sha512}

-- a list of folders, and bytes by path
pub record Bag : Type 0 where
  pub folders : List (List ℕ)
  pub files : Named (List ℕ)

-- of these files
abbrev pub oxum : List PathAndBytes → List ℕ
oxum files = oxum_text (sum_by (λ f. length f.1) files) (length files)

-- the files of an object, by the paths of their bag
abbrev pub payload : Object → List PathAndBytes
payload o = map (λ e. (payload_path e.0 e.1.name, e.1.content)) (finmap.entries o.files)

abbrev pub payload_manifest : Algorithm → Object → PathAndBytes
payload_manifest a o = (manifest_path a, manifest_of (digest_by a) (payload o))

-- the files that a tag manifest names
abbrev pub listed_files : Object → List PathAndBytes
listed_files o =
    (codes "bagit.txt", bagit_text)
    ∷ (codes "bag-info.txt", info_text o.changed (oxum (payload o)))
    ∷ payload_manifest Sha256 o
    ∷ payload_manifest Sha512 o
    ∷ (codes "metadata/sword.json", bag_metadata_document o.metadata)
    ∷ []

abbrev pub tag_manifest : Algorithm → Object → PathAndBytes
tag_manifest a o = (tag_manifest_path a, manifest_of (digest_by a) (listed_files o))

-- the files that are not payload
abbrev pub tag_files : Object → List PathAndBytes
tag_files o = listed_files o ++ tag_manifest Sha256 o ∷ tag_manifest Sha512 o ∷ []

-- every file of the bag, in order
unfoldable pub bag_files : Object → List PathAndBytes
bag_files o = tag_files o ++ payload o

-- the folder of the payload, and the files by their paths
abbrev pub bag_of : Object → Bag
bag_of o = record { folders = codes "data" ∷ []; files = finmap.from_entries (bag_files o) }

-- the bag holds each of these files
abbrev pub HoldsAll : Bag → List PathAndBytes → Type 0
HoldsAll b files = All (λ f. finmap.get b.files f.0 ≡ Some f.1) files

-- the bag of the object with this number
abbrev pub bag_at : State → ℕ → Option Bag
bag_at s n = option_map bag_of (finmap.get s.objects n)

-- the list of these paths
abbrev pub list_text : List (List ℕ) → List ℕ
list_text paths = flat_map (λ path. path ++ codes "\n") paths
