-- The paths of an object's bag.
use Rattle.std.specs.Prelude.{ℕ, List, [], ◌∷◌, ◌++◌, codes, decimal, map as each}
use Rattle.std.specs.FinMap as map
use Rattle.dep_types.specs.State.{Object}

-- the files of a bag that are not its payload, in order
abbrev pub tag_paths : List (List ℕ)
tag_paths =
    codes "bagit.txt"
    ∷ codes "bag-info.txt"
    ∷ codes "manifest-sha256.txt"
    ∷ codes "manifest-sha512.txt"
    ∷ codes "metadata/sword.json"
    ∷ codes "tagmanifest-sha256.txt"
    ∷ codes "tagmanifest-sha512.txt"
    ∷ []

-- where a file of the object stands
abbrev pub payload_path : ℕ → List ℕ → List ℕ
payload_path number name = codes "data/" ++ decimal number ++ codes "/" ++ name

-- where the files of the object stand, by ascending number
abbrev pub payload_paths : Object → List (List ℕ)
payload_paths o = each (λ e. payload_path e.0 e.1.name) (map.entries o.files)

-- all files of the object's bag (RFC 8493, section 2), its payload behind the others
abbrev pub bag_paths : Object → List (List ℕ)
bag_paths o = tag_paths ++ payload_paths o
