-- The lines of files whose SHA-512 values stand beside their rows.
use Rattle.std.proofs.Common.{◌≡◌, ℕ, ◌+◌, ◌<◌, List, [], ◌∷◌, ◌++◌, length, drop, append_assoc, append-nil, refl, sym, ap, ◌∙◌, arith, Option, Some, None, option_copied, Bor}
use Rattle.std.specs.Prelude.{get_or}
use Rattle.std.specs.Slice.{IsItemAt}
use Rattle.std.proofs.lemmas.List.{drop_more, drop_all}
use Rattle.dep_types.specs.declared.rows.FileRow.{FileRow}
use Rattle.dep_manifest.specs.Manifest.{manifest, manifest_line}
use Rattle.dep_manifest.specs.Reported.{row_checksum, row_checksums, row_line}
use Rattle.dep_manifest.specs.declared.algorithm.Algorithm.{Algorithm}
use Rattle.dep_manifest.specs.declared.algorithm.Algorithm.TheVariants.{Sha256, Sha512}

abbrev pub lines : Algorithm → List FileRow → (values : List (List ℕ)) → List ℕ
lines a rows values = manifest (row_checksums a rows values)

-- the first line, and the others
with_value : (a : Algorithm) (row : FileRow) (rows : List FileRow) (value : List ℕ) (values : List (List ℕ))
    → lines a (row ∷ rows) (value ∷ values) ≡ row_line a row (Some value) ++ lines a rows values
with_value Sha256 row rows value values = ap (λ l. l ++ lines Sha256 rows values) (sym (append-nil (manifest_line (row_checksum row row.sha256))))
with_value Sha512 row rows value values = ap (λ l. l ++ lines Sha512 rows values) (sym (append-nil (manifest_line (row_checksum row value))))

without_value : (a : Algorithm) (row : FileRow) (rows : List FileRow) → lines a (row ∷ rows) [] ≡ row_line a row None ++ lines a rows []
without_value Sha256 row rows = ap (λ l. l ++ lines Sha256 rows []) (sym (append-nil (manifest_line (row_checksum row row.sha256))))
without_value Sha512 row [] = refl
without_value Sha512 row (r ∷ rows) = refl

next_line : (a : Algorithm) (rows : List FileRow) (values : List (List ℕ)) (i : ℕ) (row : FileRow) (got : Option (Bor (List ℕ))) → i < length rows → row ≡ get_or rows i row → IsItemAt values i got
    → lines a (drop i rows) (drop i values) ≡ row_line a row (option_copied got) ++ lines a (drop (i + 1) rows) (drop (i + 1) values)
next_line a rows values i row None inside is got =
    let none = drop_all i values got.3 in
    let none_next = drop_all (i + 1) values (omega (arith, got.3)) in
    (λ j. lines a ((drop_more rows i row inside ∙ ap (λ r. r ∷ drop (i + 1) rows) (sym is)) j) (none j))
    ∙ without_value a row (drop (i + 1) rows) ∙ sym (ap (λ vs. row_line a row None ++ lines a (drop (i + 1) rows) vs) none_next)
next_line a rows values i row (Some value) inside is got =
    (λ j. lines a ((drop_more rows i row inside ∙ ap (λ r. r ∷ drop (i + 1) rows) (sym is)) j) ((drop_more values i value.now got.3.0 ∙ ap (λ v. v ∷ drop (i + 1) values) (sym got.1)) j))
    ∙ with_value a row (drop (i + 1) rows) value.now (drop (i + 1) values)

-- one more line, where these are all with those of the files that are left
pub one_more_line : (a : Algorithm) (rows : List FileRow) (values : List (List ℕ)) (i : ℕ) (row : FileRow) (got : Option (Bor (List ℕ))) (text new all : List ℕ) → i < length rows → row ≡ get_or rows i row → IsItemAt values i got
    → new ≡ text ++ row_line a row (option_copied got) → text ++ lines a (drop i rows) (drop i values) ≡ all → new ++ lines a (drop (i + 1) rows) (drop (i + 1) values) ≡ all
one_more_line a rows values i row got text new all inside is got_is added so_far =
    let rest = lines a (drop (i + 1) rows) (drop (i + 1) values) in
    ap (λ t. t ++ rest) added ∙ append_assoc text (row_line a row (option_copied got)) rest ∙ sym (ap (λ l. text ++ l) (next_line a rows values i row got inside is got_is)) ∙ so_far
