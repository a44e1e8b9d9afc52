-- Which bags are valid (RFC 8493, section 3), by reading their manifests.
use Rattle.std.specs.Prelude.{◌≡◌, ◌≢◌, ◌⊎◌, ℕ, ◌==◌, ◌&&◌, ◌||◌, not, nat_eq, nat_lt, Bool, List, [], ◌∷◌, ◌++◌, length, take, drop, map, filter, All, Contains, Option, Some, None, Ok, codes, IsTrue, IsPermutation, if◌then◌else◌}
use Rattle.std.specs.List.{prefix_len, slice_split, starts_with}
use Rattle.std.specs.FinMap as finmap
use Rattle.hex.specs.Hex.{decode_sized, is_hex_digit}
use Rattle.dep_types.specs.Maps.{◌>>=◌}
use Rattle.dep_types.specs.Sinks.{PathAndBytes}
use Rattle.dep_manifest.specs.Manifest.{Digest, digest_by, encoded_path}
use Rattle.dep_manifest.specs.declared.algorithm.Algorithm.{Algorithm}
use Rattle.dep_manifest.specs.TagFiles.{bagit_text, manifest_path, tag_manifest_path}
use Rattle.dep_bag.specs.Bag.{Bag, oxum}

-- whether a path stands below the folder `data`
abbrev pub is_payload : List ℕ → Bool
is_payload path = starts_with nat_eq path (codes "data/")

abbrev pub payload_in : Bag → List PathAndBytes
payload_in b = filter (λ f. is_payload f.0) (finmap.entries b.files)

-- the lines of a text, and what stands after the last LF
abbrev pub lines_of : List ℕ → List (List ℕ)
lines_of text = slice_split (λ b. b == 10) text

abbrev pub digits_len : List ℕ → ℕ
digits_len line = prefix_len is_hex_digit line

abbrev pub blanks_len : List ℕ → ℕ
blanks_len text = prefix_len (λ b. b == 32 || b == 9) text

-- a line of a manifest: the digits of a checksum, and an encoded path
pub record ManifestLine : Type 0 where
  pub digits : List ℕ
  pub path : List ℕ

-- the digits, and what stands after them: blanks and the path
abbrev pub parts_read : (digits rest : List ℕ) → Option ManifestLine
parts_read digits rest =
    if nat_lt 0 (length digits) && nat_lt 0 (blanks_len rest)
    then Some (record { digits = digits; path = drop (blanks_len rest) rest })
    else None

abbrev pub line_read : List ℕ → Option ManifestLine
line_read line = parts_read (take (digits_len line) line) (drop (digits_len line) line)

-- nothing stands after the last LF
abbrev pub end_read : List ℕ → Option (List ManifestLine)
end_read [] = Some []
end_read (b ∷ bs) = None

-- each line, all of them ended by LF
unfoldable pub lines_read : List (List ℕ) → Option (List ManifestLine)
lines_read [] = None
lines_read (last ∷ []) = end_read last
lines_read (line ∷ next ∷ more) = do
  first ← line_read line
  rest ← lines_read (next ∷ more)
  Some (first ∷ rest)

abbrev pub manifest_read : List ℕ → Option (List ManifestLine)
manifest_read text = lines_read (lines_of text)

-- the checksum is the digest of the bytes at the path that the line names
pub record IsChecksumOf (d : Digest) (b : Bag) (line : ManifestLine) : Type 0 where
  pub path : List ℕ
  pub bytes : List ℕ
  pub named : line.path ≡ encoded_path path
  pub held : finmap.get b.files path ≡ Some bytes
  pub checksum : decode_sized line.digits d.size ≡ Ok (d.of bytes)

-- a manifest of the bag, by its lines, each of them right
pub record HasManifest (d : Digest) (b : Bag) (path : List ℕ) (lines : List ManifestLine) : Type 0 where
  pub read : (finmap.get b.files path >>= manifest_read) ≡ Some lines
  pub checked : All (IsChecksumOf d b) lines

-- one of these lines names the path, and has the digest of the bytes
pub record NamesFile (d : Digest) (lines : List ManifestLine) (path bytes : List ℕ) : Type 0 where
  pub line : ManifestLine
  pub among : Contains lines line
  pub named : line.path ≡ encoded_path path
  pub checksum : decode_sized line.digits d.size ≡ Ok (d.of bytes)

abbrev pub paths_of : List ManifestLine → List (List ℕ)
paths_of lines = map (λ line. line.path) lines

-- a payload manifest names each payload file once, and nothing else
pub record IsPayloadManifest (a : Algorithm) (b : Bag) : Type 0 where
  pub lines : List ManifestLine
  pub has : HasManifest (digest_by a) b (manifest_path a) lines
  pub each_once : IsPermutation (map (λ f. encoded_path f.0) (payload_in b)) (paths_of lines)

-- a tag manifest names each payload manifest and no tag manifest
pub record IsTagManifest (a : Algorithm) (b : Bag) : Type 0 where
  pub lines : List ManifestLine
  pub has : HasManifest (digest_by a) b (tag_manifest_path a) lines
  pub names_manifests : (other : Algorithm) → Contains (paths_of lines) (manifest_path other)
  pub names_no_tag_manifest
      : All (λ name. IsTrue (not (starts_with nat_eq name (codes "tagmanifest-")))) (paths_of lines)

-- one line says how many bytes and files the payload has
pub record ReportsOxum (b : Bag) : Type 0 where
  pub info : List ℕ
  pub has : finmap.get b.files (codes "bag-info.txt") ≡ Some info
  pub once : filter (λ line. starts_with nat_eq line (codes "Payload-Oxum:")) (lines_of info)
      ≡ (codes "Payload-Oxum: " ++ oxum (payload_in b)) ∷ []

-- it has both manifests of each algorithm, and each of them is right
pub record IsValidBag (b : Bag) : Type 0 where
  pub declared : finmap.get b.files (codes "bagit.txt") ≡ Some bagit_text
  pub folder : Contains b.folders (codes "data") ⊎ (payload_in b ≢ [])
  pub manifest : (a : Algorithm) → IsPayloadManifest a b
  pub tag_manifest : (a : Algorithm) → IsTagManifest a b
  pub oxum : ReportsOxum b
