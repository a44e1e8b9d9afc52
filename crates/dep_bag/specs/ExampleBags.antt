-- The payload and the lists of small bags.
use Rattle.std.specs.Prelude.{ℕ, List, [], ◌∷◌, ◌++◌, codes}
use Rattle.dep_types.specs.BagPaths.{tag_paths, payload_path}
use Rattle.dep_types.specs.Sinks.{PathAndBytes}

-- five bytes in two files
abbrev pub example_payload : List PathAndBytes
example_payload = (codes "data/1/a", codes "abc") ∷ (codes "data/2/b", codes "de") ∷ []

-- the list of a bag without payload
abbrev pub tag_list : List ℕ
tag_list =
    codes "bagit.txt\nbag-info.txt\nmanifest-sha256.txt\nmanifest-sha512.txt\n"
    ++ codes "metadata/sword.json\ntagmanifest-sha256.txt\ntagmanifest-sha512.txt\n"

-- the paths of a bag with one file of this name
abbrev pub paths_with : (name : List ℕ) → List (List ℕ)
paths_with name = tag_paths ++ payload_path 1 name ∷ []
