-- How many bytes manifests have, whatever digests stand in them.
use Rattle.std.proofs.Common.{◌≡◌, ℕ, ◌+◌, ◌*◌, List, [], ◌∷◌, ◌++◌, length, map, refl, sym, ap, ◌∙◌, arith, length-append, codes, decimal}
use Rattle.std.specs.Prelude.{sum_by}
use Rattle.std.proofs.lemmas.Grind.{flat_map-append}
use Rattle.std.proofs.lemmas.List.Sums.{sum_by-cons}
use Rattle.hex.specs.Hex.{encode_lower, lower_digits}
use Rattle.hex.proofs.HexLemmas.{length-encode_with}
use Rattle.sha2.proofs.Facts256.{length-sha256}
use Rattle.sha2.proofs.Facts512.{length-sha512}
use Rattle.dep_types.specs.Sinks.{PathAndBytes}
use Rattle.dep_types.specs.BagPaths.{payload_path}
use Rattle.dep_types.specs.declared.rows.FileRow.{FileRow}
use Rattle.dep_types.specs.declared.rows.ObjectView.{ObjectView}
use Rattle.dep_manifest.specs.Lengths.{line_length}
use Rattle.dep_manifest.specs.Manifest.{checksum_of, digest_by, encoded_byte, encoded_path, manifest_line, manifest_of}
use Rattle.dep_manifest.specs.Reported.{row_path, reported_listed}
use Rattle.dep_manifest.specs.declared.algorithm.Algorithm.{Algorithm}
use Rattle.dep_manifest.specs.declared.algorithm.Algorithm.TheVariants.{Sha256, Sha512}

-- a digest has as many bytes as any other
sized : (a : Algorithm) (bytes : List ℕ) → length ((digest_by a).of bytes) ≡ (digest_by a).size
sized Sha256 bytes = length-sha256 bytes
sized Sha512 bytes = length-sha512 bytes

-- a line, by its digits
line_by : (digits path : List ℕ) (size : ℕ) → length digits ≡ 2 * size → length (((digits ++ codes "  ") ++ path) ++ codes "\n") ≡ (2 * size + 3) + length path
line_by digits path size is =
    let whole = length-append ((digits ++ codes "  ") ++ path) (codes "\n") in
    let front = length-append (digits ++ codes "  ") path in
    let first = length-append digits (codes "  ") in
    omega (arith, whole, front, first, is)

line_is : (a : Algorithm) (file : PathAndBytes) → length (manifest_line (checksum_of (digest_by a) file)) ≡ line_length (digest_by a) file.0
line_is a file =
    let value = (digest_by a).of file.1 in
    line_by (encode_lower value) (encoded_path file.0) (digest_by a).size (length-encode_with lower_digits value ∙ ap (λ n. 2 * n) (sized a file.1))

-- a manifest, by the paths alone
pub manifest_length : (a : Algorithm) (files : List PathAndBytes) → length (manifest_of (digest_by a) files) ≡ sum_by (line_length (digest_by a)) (map (λ file. file.0) files)
manifest_length a [] = refl
manifest_length a (file ∷ files) =
    length-append (manifest_line (checksum_of (digest_by a) file)) (manifest_of (digest_by a) files)
    ∙ (λ i. line_is a file i + manifest_length a files i)
    ∙ sym (sum_by-cons (line_length (digest_by a)) file.0 (map (λ f. f.0) files))

-- that of the files of some rows
abbrev pub rows_length : Algorithm → List FileRow → ℕ
rows_length a rows = sum_by (λ row. line_length (digest_by a) (row_path row)) rows

sum_by_paths : (a : Algorithm) (rows : List FileRow) → sum_by (line_length (digest_by a)) (map row_path rows) ≡ rows_length a rows
sum_by_paths a [] = refl
sum_by_paths a (row ∷ rows) =
    sum_by-cons (line_length (digest_by a)) (row_path row) (map row_path rows)
    ∙ ap (λ n. line_length (digest_by a) (row_path row) + n) (sum_by_paths a rows)
    ∙ sym (sum_by-cons (λ r. line_length (digest_by a) (row_path r)) row rows)

pub payload_length : (a : Algorithm) (rows : List FileRow) (files : List PathAndBytes) → map (λ file. file.0) files ≡ map row_path rows → length (manifest_of (digest_by a) files) ≡ rows_length a rows
payload_length a rows files e = manifest_length a files ∙ ap (sum_by (line_length (digest_by a))) e ∙ sum_by_paths a rows

-- the path of a payload file, by its parts
pub payload_path_length : (number : ℕ) (name : List ℕ)
    → length (encoded_path (payload_path number name)) ≡ 6 + (length (encoded_path (decimal number)) + length (encoded_path name))
payload_path_length number name =
    let front = decimal number ++ codes "/" in
    let whole = ap length (flat_map-append encoded_byte front name) ∙ length-append (encoded_path front) (encoded_path name) in
    let first = ap length (flat_map-append encoded_byte (decimal number) (codes "/")) ∙ length-append (encoded_path (decimal number)) (codes "/") in
    omega (arith, whole, first)

-- that of the files that a tag manifest names
abbrev pub tag_length : Algorithm → ℕ
tag_length Sha256 = 413
tag_length Sha512 = 733

sum_of_listed : (a : Algorithm) (view : ObjectView) → sum_by (line_length (digest_by a)) (map (λ file. file.0) (reported_listed view)) ≡ tag_length a
sum_of_listed Sha256 view = refl
sum_of_listed Sha512 view = refl

pub listed_length : (a : Algorithm) (view : ObjectView) (files : List PathAndBytes) → map (λ file. file.0) files ≡ map (λ file. file.0) (reported_listed view)
    → length (manifest_of (digest_by a) files) ≡ tag_length a
listed_length a view files e = manifest_length a files ∙ ap (sum_by (line_length (digest_by a))) e ∙ sum_of_listed a view
