-- How many bytes manifests have.
use Rattle.std.specs.Prelude.{◌≡◌, ℕ, ◌+◌, ◌-◌, ◌*◌, ◌^◌, ◌≤◌, min, List, length, map, Option, MatchOption}
use Rattle.dep_types.specs.Sinks.{PathAndBytes}
use Rattle.dep_manifest.specs.Manifest.{Digest, digest_by, encoded_path, manifest_of}
use Rattle.dep_manifest.specs.declared.algorithm.Algorithm.{Algorithm}

-- this is so of the length of the manifest of files at these paths, whatever stands there
abbrev pub OfLength : Algorithm → (paths : List (List ℕ)) → (ℕ → Type 0) → Type 0
OfLength a paths holds = (files : List PathAndBytes) → map (λ file. file.0) files ≡ paths
    → holds (length (manifest_of (digest_by a) files))

-- the length is told, unless it is 2^64 - 1 or more
abbrev pub ReportsLength : (length : ℕ) → Option ℕ → Type 0
ReportsLength length reported = MatchOption reported (2 ^ 64 ≤ length + 1) (λ it. it ≡ length)

-- a number, as far as 64 bits hold it
abbrev pub in_64_bits : ℕ → ℕ
in_64_bits n = min n (2 ^ 64 - 1)

-- how many bytes a line has but for its path: the digits, two blanks and a line feed
abbrev pub bytes_beside_path : Digest → ℕ
bytes_beside_path d = 2 * d.size + 3

-- how many bytes the line of a file at this path has
abbrev pub line_length : Digest → (path : List ℕ) → ℕ
line_length d path = bytes_beside_path d + length (encoded_path path)

-- how many of them a payload file's number and name have no part in
abbrev pub fixed_length : Algorithm → ℕ
fixed_length a = bytes_beside_path (digest_by a) + 6
