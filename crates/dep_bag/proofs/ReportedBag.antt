-- What a view of an object tells of its bag is the bag.
use Rattle.std.proofs.Common.{◌≡◌, ℕ, ◌+◌, List, [], ◌∷◌, ◌++◌, length, map as each, Some, refl, sym, ap, ◌∙◌, codes, suc}
use Rattle.std.specs.Prelude.{sum_by, option_map}
use Rattle.std.specs.List.{All}
use Rattle.std.specs.Cmp.{nat_cmp_total}
use Rattle.std.specs.FinMap as finmap
use Rattle.std.proofs.lemmas.List.Sums.{sum_by-cons}
use Rattle.std.proofs.lemmas.List.Elements.{All-head, All-tail}
use Rattle.sha2.specs.Sha512.{sha512}
use Rattle.dep_types.specs.State.{Object, File}
use Rattle.dep_types.specs.Rows.{file_row, object_view}
use Rattle.dep_manifest.specs.Manifest.{checksum_of, digest_by, manifest, manifest_of}
use Rattle.dep_manifest.specs.declared.algorithm.Algorithm.{Algorithm}
use Rattle.dep_manifest.specs.declared.algorithm.Algorithm.TheVariants.{Sha256, Sha512}
use Rattle.dep_manifest.specs.TagFiles.{oxum_text, info_text, bagit_text, manifest_path, tag_manifest_path}
use Rattle.dep_bag.specs.Bag.{payload, oxum, listed_files, tag_files, bag_files}
use Rattle.dep_types.specs.Sinks.{PathAndBytes}
use Rattle.dep_docs_out.specs.Documents.{bag_metadata_document}
use Rattle.dep_manifest.specs.Reported.{row_checksums, reported_oxum, reported_listed}
use Rattle.dep_bag.specs.Parts.{reported_tag_files, reported_parts, text_part, stored_part, reported_bytes, held_bytes}
use Rattle.dep_bag.proofs.Files.{payload_entry}
use Rattle.dep_bag.proofs.Keys.{entries-held}

same_sum : (n : ℕ) (es : List (ℕ × File)) → sum_by (λ row. row.size) (each (λ e. file_row n e.0 e.1) es) ≡ sum_by (λ f. length f.1) (each payload_entry es)
same_sum n [] = refl
same_sum n (e ∷ es) =
    sum_by-cons (λ row. row.size) (file_row n e.0 e.1) (each (λ x. file_row n x.0 x.1) es)
    ∙ ap (λ sum. length e.1.content + sum) (same_sum n es)
    ∙ sym (sum_by-cons (λ f. length f.1) (payload_entry e) (each payload_entry es))

same_count : (n : ℕ) (es : List (ℕ × File)) → length (each (λ e. file_row n e.0 e.1) es) ≡ length (each payload_entry es)
same_count n [] = refl
same_count n (e ∷ es) = ap suc (same_count n es)

same_oxum : (n : ℕ) (o : Object) → reported_oxum (object_view n o).files ≡ oxum (payload o)
same_oxum n o = λ i. oxum_text (same_sum n (finmap.entries o.files) i) (same_count n (finmap.entries o.files) i)

same_checksums : (a : Algorithm) (n : ℕ) (es : List (ℕ × File)) → row_checksums a (each (λ e. file_row n e.0 e.1) es) (each (λ e. sha512 e.1.content) es) ≡ each (checksum_of (digest_by a)) (each payload_entry es)
same_checksums Sha256 n [] = refl
same_checksums Sha512 n [] = refl
same_checksums Sha256 n (e ∷ es) = ap (λ l. checksum_of (digest_by Sha256) (payload_entry e) ∷ l) (same_checksums Sha256 n es)
same_checksums Sha512 n (e ∷ es) = ap (λ l. checksum_of (digest_by Sha512) (payload_entry e) ∷ l) (same_checksums Sha512 n es)

same_listed : (n : ℕ) (o : Object) → reported_listed (object_view n o) ≡ listed_files o
same_listed n o = λ i.
    (codes "bagit.txt", bagit_text)
    ∷ (codes "bag-info.txt", info_text o.changed (same_oxum n o i))
    ∷ (manifest_path Sha256, manifest (same_checksums Sha256 n (finmap.entries o.files) i))
    ∷ (manifest_path Sha512, manifest (same_checksums Sha512 n (finmap.entries o.files) i))
    ∷ (codes "metadata/sword.json", bag_metadata_document o.metadata)
    ∷ []

-- the files that a tag manifest names, and the tag manifests
abbrev with_tag_manifests : List PathAndBytes → List PathAndBytes
with_tag_manifests listed = listed ++ (tag_manifest_path Sha256, manifest_of (digest_by Sha256) listed) ∷ (tag_manifest_path Sha512, manifest_of (digest_by Sha512) listed) ∷ []

pub same_tag_files : (n : ℕ) (o : Object) → reported_tag_files (object_view n o) ≡ tag_files o
same_tag_files n o = ap with_tag_manifests (same_listed n o)

shown_stored : (n : ℕ) (o : Object) (es : List (ℕ × File)) → All (λ e. finmap.get o.files e.0 ≡ Some e.1) es
    → each (reported_bytes o) (each stored_part (each (λ e. file_row n e.0 e.1) es)) ≡ each held_bytes (each payload_entry es)
shown_stored n o [] h = refl
shown_stored n o (e ∷ es) h = λ i.
    ((payload_entry e).0, option_map (λ f. f.content) (All-head (λ e. finmap.get o.files e.0 ≡ Some e.1) e es h i))
    ∷ shown_stored n o es (All-tail (λ e. finmap.get o.files e.0 ≡ Some e.1) e es h) i

-- texts, and the stored files
reported_all : (n : ℕ) (o : Object) (texts : List PathAndBytes) (es : List (ℕ × File)) → All (λ e. finmap.get o.files e.0 ≡ Some e.1) es
    → each (reported_bytes o) (each text_part texts ++ each stored_part (each (λ e. file_row n e.0 e.1) es)) ≡ each held_bytes (texts ++ each payload_entry es)
reported_all n o [] es h = shown_stored n o es h
reported_all n o (f ∷ texts) es h = ap (λ l. held_bytes f ∷ l) (reported_all n o texts es h)

pub reported_bag : (n : ℕ) (o : Object) → each (reported_bytes o) (reported_parts (object_view n o)) ≡ each held_bytes (bag_files o)
unfolding bag_files
reported_bag n o =
    let held = entries-held nat_cmp_total finmap.nat_cmp-IsAntisymmetric o.files in
    reported_all n o (reported_tag_files (object_view n o)) (finmap.entries o.files) held
    ∙ ap (λ texts. each held_bytes (texts ++ payload o)) (same_tag_files n o)
