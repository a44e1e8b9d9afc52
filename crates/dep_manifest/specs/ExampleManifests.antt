-- The manifests of a file of three bytes.
use Rattle.std.specs.Prelude.{ℕ, List, [], ◌∷◌, ◌++◌, codes}
use Rattle.dep_types.specs.Sinks.{PathAndBytes}

-- the file
abbrev pub example_files : List PathAndBytes
example_files = (codes "data/1/50%.txt", codes "abc") ∷ []

-- its line by SHA-256
abbrev pub sha256_text : List ℕ
sha256_text =
    codes "ba7816bf8f01cfea414140de5dae2223b00361a396177a9cb410ff61f20015ad"
    ++ codes "  data/1/50%25.txt\n"

-- and by SHA-512
abbrev pub sha512_text : List ℕ
sha512_text =
    codes "ddaf35a193617abacc417349ae20413112e6fa4e89a97ea20a9eeee64b55d39a"
    ++ codes "2192992a274fc1a836ba3c23a3feebbd454d4423643ce80e2a9ac94fa54ca49f"
    ++ codes "  data/1/50%25.txt\n"
