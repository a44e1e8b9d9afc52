-- What a manifest writes (RFC 8493, section 2.1.3).
use Rattle.std.specs.Prelude.{◌≡◌, ℕ, ◌<◌, ◌==◌, List, [], ◌∷◌, ◌++◌, length, map, flat_map, codes, if◌then◌else◌}
use Rattle.sha2.specs.Sha256.{sha256}
use Rattle.sha2.specs.Sha512.{sha512}
use Rattle.hex.specs.Hex.{IsBytes, encode_lower}
use Rattle.dep_types.specs.Sinks.{PathAndBytes}
use Rattle.dep_manifest.specs.declared.algorithm.Algorithm.{Algorithm}
use Rattle.dep_manifest.specs.declared.algorithm.Algorithm.TheVariants.{Sha256, Sha512}

-- a digest of manifests: how many bytes it has, and that of some bytes
pub record Digest : Type 0 where
  pub size : ℕ
  pub of : List ℕ → List ℕ

-- it has some bytes, as many as it says
pub record IsDigest (d : Digest) : Type 0 where
  pub some : 0 < d.size
  pub sized : (bytes : List ℕ) → length (d.of bytes) ≡ d.size
  pub bytes : (bytes : List ℕ) → IsBytes (d.of bytes)

-- that of SHA-256 (FIPS 180-4)
abbrev pub sha256_digest : Digest
sha256_digest = record { size = 32; of = sha256 }

-- that of SHA-512 (FIPS 180-4)
abbrev pub sha512_digest : Digest
sha512_digest = record { size = 64; of = sha512 }

-- that of an algorithm
abbrev pub digest_by : Algorithm → Digest
digest_by Sha256 = sha256_digest
digest_by Sha512 = sha512_digest

-- a byte as a manifest writes it: the percent sign, and what breaks a line, by their codes
abbrev pub encoded_byte : ℕ → List ℕ
encoded_byte b =
    if b == 37 then codes "%25"
    else if b == 10 then codes "%0A"
    else if b == 13 then codes "%0D"
    else b ∷ []

-- a path as a manifest writes it
abbrev pub encoded_path : List ℕ → List ℕ
encoded_path path = flat_map encoded_byte path

-- a path, and the digest of what stands there
pub record Checksum : Type 0 where
  pub path : List ℕ
  pub value : List ℕ

-- that of a file
abbrev pub checksum_of : Digest → PathAndBytes → Checksum
checksum_of d file = record { path = file.0; value = d.of file.1 }

-- its line, by the digits of its digest
abbrev pub line_of : (digits path : List ℕ) → List ℕ
line_of digits path = digits ++ codes "  " ++ encoded_path path ++ codes "\n"

-- the same by the digest
abbrev pub manifest_line : Checksum → List ℕ
manifest_line c = line_of (encode_lower c.value) c.path

-- a line for each of these
abbrev pub manifest : List Checksum → List ℕ
manifest checksums = flat_map manifest_line checksums

-- a line for each of these files
abbrev pub manifest_of : Digest → List PathAndBytes → List ℕ
manifest_of d files = manifest (map (checksum_of d) files)
