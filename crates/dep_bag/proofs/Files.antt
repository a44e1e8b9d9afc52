-- The files of a bag: their paths differ, and each can be listed.
use Rattle.std.proofs.Common.{◌≡◌, ◌≢◌, ℕ, ◌^◌, ◌<◌, false, cond, List, [], ◌∷◌, drop, map as each, Some, None, refl, ap, ◌∙◌, subst, codes, nat_cmp, Ordering}
use Rattle.std.specs.List.{All, filter}
use Rattle.std.specs.Ordering.{is_eq, eq_by_cmp}
use Rattle.std.specs.declared.cmp.Ordering.TheVariants.{Less, Equal, Greater}
use Rattle.std.specs.Cmp.Lexicographic.{slice_cmp}
use Rattle.std.specs.Cmp.{tied_itself, nat_cmp_total}
use Rattle.std.specs.FinMap.Entries.{find}
use Rattle.std.specs.FinMap as finmap
use Rattle.std.proofs.lemmas.List.Elements.{All-cons, All-nil, All-head, All-tail}
use Rattle.dep_types.specs.State.{Object, File}
use Rattle.dep_types.specs.BagPaths.{payload_path}
use Rattle.dep_docs_out.specs.Documents.{bag_metadata_document}
use Rattle.dep_types.specs.Sinks.{PathAndBytes}
use Rattle.dep_manifest.specs.Manifest.{encoded_path}
use Rattle.dep_manifest.specs.declared.algorithm.Algorithm.{Algorithm}
use Rattle.dep_manifest.specs.declared.algorithm.Algorithm.TheVariants.{Sha256, Sha512}
use Rattle.dep_manifest.specs.TagFiles.{bagit_text, info_text, manifest_path}
use Rattle.dep_bag.specs.Bag.{payload, oxum, payload_manifest, listed_files, bag_files}
use Rattle.dep_bag.specs.Valid.{is_payload}
use Rattle.dep_bag.proofs.Lines.{BeginsPlain}
use Rattle.dep_bag.proofs.Keys.{Distinct, Distinct-sorted}
use Rattle.dep_bag.proofs.PayloadPaths.{same_number}

abbrev pub order : List ℕ → List ℕ → Ordering
order = slice_cmp nat_cmp

abbrev pub payload_entry : ℕ × File → PathAndBytes
payload_entry e = (payload_path e.0 e.1.name, e.1.content)

abbrev pub bagit_file : PathAndBytes
bagit_file = (codes "bagit.txt", bagit_text)

abbrev pub info_file : Object → PathAndBytes
info_file o = (codes "bag-info.txt", info_text o.changed (oxum (payload o)))

abbrev pub metadata_file : Object → PathAndBytes
metadata_file o = (codes "metadata/sword.json", bag_metadata_document o.metadata)

abbrev pub IsSmall : ℕ × File → Type 0
IsSmall e = e.0 < 2 ^ 64

payload-missed : (n : ℕ) (name : List ℕ) → n < 2 ^ 64 → (es : List (ℕ × File)) → All IsSmall es → find nat_cmp n es ≡ None → find order (payload_path n name) (each payload_entry es) ≡ None
payload-missed n name small [] all missed = refl
payload-missed n name small (e ∷ es) all missed =
    let path = payload_path n name in
    let other = payload_path e.0 e.1.name in
    let here = All-head IsSmall e es all in
    let fresh : (nat_cmp n e.0 ≢ Equal) × (find nat_cmp n es ≡ None) =
    elim (nat_cmp n e.0) as (λ r. cond (is_eq r) (Some e.1) (find nat_cmp n es) ≡ None → (r ≢ Equal) × (find nat_cmp n es ≡ None)) [
      | Less ↦ λ m. ((λ q. cc), m)
      | Equal ↦ λ m. absurd (cc)
      | Greater ↦ λ m. ((λ q. cc), m)
    ] missed in
    elim (order path other) as (λ r. order path other ≡ r → cond (is_eq r) (Some e.1.content) (find order path (each payload_entry es)) ≡ None) [
      | Less ↦ λ p. payload-missed n name small es (All-tail IsSmall e es all) fresh.1
      | Equal ↦ λ p. let same = same_number n e.0 name e.1.name small here (finmap.slice_cmp-IsAntisymmetric finmap.nat_cmp-IsAntisymmetric path other p) in
          absurd (fresh.0 (subst (λ x. nat_cmp n x ≡ Equal) same (tied_itself nat_cmp_total n)))
      | Greater ↦ λ p. payload-missed n name small es (All-tail IsSmall e es all) fresh.1
    ] refl

Distinct-payload : (es : List (ℕ × File)) → All IsSmall es → Distinct nat_cmp es → Distinct order (each payload_entry es)
Distinct-payload [] all h = tt
Distinct-payload (e ∷ es) all h =
    (payload-missed e.0 e.1.name (All-head IsSmall e es all) es (All-tail IsSmall e es all) h.0, Distinct-payload es (All-tail IsSmall e es all) h.1)

tag-missed : (q : List ℕ) → ((n : ℕ) (name : List ℕ) → eq_by_cmp order q (payload_path n name) ≡ false) → (es : List (ℕ × File)) → find order q (each payload_entry es) ≡ None
tag-missed q apart [] = refl
tag-missed q apart (e ∷ es) = ap (λ b. cond b (Some e.1.content) (find order q (each payload_entry es))) (apart e.0 e.1.name) ∙ tag-missed q apart es

pub Distinct-files : (o : Object) → All IsSmall (finmap.entries o.files) → Distinct order (bag_files o)
unfolding bag_files
Distinct-files o all =
    let es = finmap.entries o.files in (
      tag-missed (codes "bagit.txt") (λ n name. refl) es,
      (
        tag-missed (codes "bag-info.txt") (λ n name. refl) es,
        (
          tag-missed (codes "manifest-sha256.txt") (λ n name. refl) es,
          (
            tag-missed (codes "manifest-sha512.txt") (λ n name. refl) es,
            (
              tag-missed (codes "metadata/sword.json") (λ n name. refl) es,
              (
                tag-missed (codes "tagmanifest-sha256.txt") (λ n name. refl) es,
                (
                  tag-missed (codes "tagmanifest-sha512.txt") (λ n name. refl) es,
                  Distinct-payload es all (Distinct-sorted nat_cmp_total es (finmap.entries_sorted o.files)),
                ),
              ),
            ),
          ),
        ),
      ),
    )

payload-kept : (es : List (ℕ × File)) → filter (λ f. is_payload f.0) (each payload_entry es) ≡ each payload_entry es
payload-kept [] = refl
payload-kept (e ∷ es) = ap (λ l. payload_entry e ∷ l) (payload-kept es)

pub payload_of_files : (o : Object) → filter (λ f. is_payload f.0) (bag_files o) ≡ payload o
unfolding bag_files
payload_of_files o = payload-kept (finmap.entries o.files)

payload-plain : (n : ℕ) (name : List ℕ) → BeginsPlain (payload_path n name)
payload-plain n name = record { first = 100; rest = encoded_path (drop 1 (payload_path n name)); is = refl; no_blank = refl }

plain_each : (es : List (ℕ × File)) → All (λ f. BeginsPlain f.0) (each payload_entry es)
plain_each [] = All-nil (λ (f : PathAndBytes). BeginsPlain f.0)
plain_each (e ∷ es) = All-cons (λ f. BeginsPlain f.0) (payload_entry e) (each payload_entry es) (payload-plain e.0 e.1.name) (plain_each es)

pub plain_payload : (o : Object) → All (λ f. BeginsPlain f.0) (payload o)
plain_payload o = plain_each (finmap.entries o.files)

pub All-five : {X : Type 0} (P : X → Type 0) (a b c d e : X) → P a → P b → P c → P d → P e → All P (a ∷ b ∷ c ∷ d ∷ e ∷ [])
All-five P a b c d e p q r s t =
    All-cons P a (b ∷ c ∷ d ∷ e ∷ []) p (All-cons P b (c ∷ d ∷ e ∷ []) q (All-cons P c (d ∷ e ∷ []) r (All-cons P d (e ∷ []) s (All-cons P e [] t (All-nil P)))))

-- what holds of each of the files that a tag manifest names
pub All-listed : (P : PathAndBytes → Type 0) (o : Object) → P bagit_file → P (info_file o) → ((a : Algorithm) → P (payload_manifest a o)) → P (metadata_file o) → All P (listed_files o)
All-listed P o declared reported made kept = All-five P bagit_file (info_file o) (payload_manifest Sha256 o) (payload_manifest Sha512 o) (metadata_file o) declared reported (made Sha256) (made Sha512) kept

manifest-plain : (a : Algorithm) → BeginsPlain (manifest_path a)
manifest-plain Sha256 = record { first = 109; rest = codes "anifest-sha256.txt"; is = refl; no_blank = refl }
manifest-plain Sha512 = record { first = 109; rest = codes "anifest-sha512.txt"; is = refl; no_blank = refl }

pub plain_listed : (o : Object) → All (λ f. BeginsPlain f.0) (listed_files o)
plain_listed o =
    All-listed (λ f. BeginsPlain f.0) o
    (record { first = 98; rest = codes "agit.txt"; is = refl; no_blank = refl })
    (record { first = 98; rest = codes "ag-info.txt"; is = refl; no_blank = refl })
    manifest-plain
    (record { first = 109; rest = codes "etadata/sword.json"; is = refl; no_blank = refl })
