-- The bag of an object is valid.
use Rattle.std.proofs.Common.{◌≡◌, ℕ, ◌^◌, ◌<◌, ◌+◌, ◌==◌, false, List, [], ◌∷◌, ◌++◌, length, map as each, Some, None, inl, refl, sym, ap, ◌∙◌, subst, arith, codes, append_assoc}
use Rattle.std.specs.Prelude.{min, option_map, decimal, sum_by, nat_eq, IsTrue, not, ◌/◌, ◌%◌}
use Rattle.std.specs.List.{All, Contains, filter, list_any, starts_with}
use Rattle.std.specs.List.Sorted.{IsPermutation}
use Rattle.std.specs.Cmp.{nat_cmp_total}
use Rattle.std.specs.Cmp.Lexicographic.{nat_list_cmp_total}
use Rattle.std.specs.FinMap.Entries.{find}
use Rattle.std.specs.FinMap as finmap
use Rattle.std.proofs.lemmas.List.Elements.{All-drop, All-map, All-weaker}
use Rattle.std.proofs.lemmas.List.Sorted.{IsPermutation-map, IsPermutation-sym, length_permutation, sum_by-IsPermutation}
use Rattle.dep_types.specs.Maps.{◌>>=◌}
use Rattle.dep_types.specs.State.{State, Object, File}
use Rattle.dep_types.specs.Limits.{greatest_moment}
use Rattle.dep_types.specs.Sound.{IsSound}
use Rattle.dep_types.specs.BagPaths.{payload_path, tag_paths, bag_paths}
use Rattle.dep_moment.specs.Civil.{day_text, civil_of}
use Rattle.dep_types.specs.Sinks.{PathAndBytes}
use Rattle.dep_manifest.specs.Manifest.{Digest, IsDigest, digest_by, encoded_path}
use Rattle.dep_manifest.specs.declared.algorithm.Algorithm.{Algorithm}
use Rattle.dep_manifest.specs.declared.algorithm.Algorithm.TheVariants.{Sha256, Sha512}
use Rattle.dep_manifest.specs.TagFiles.{info_text, manifest_path}
use Rattle.dep_bag.specs.Bag.{Bag, payload, payload_manifest, listed_files, tag_manifest, bag_files, bag_of, bag_at, oxum}
use Rattle.dep_bag.specs.Valid.{IsValidBag, IsChecksumOf, IsPayloadManifest, IsTagManifest, is_payload, payload_in, lines_of, manifest_read}
use Rattle.dep_bag.proofs.Lines.{line_of, IsDigest-digest_by, manifest_read_back, digest_read_back, split_first, none-append}
use Rattle.dep_bag.proofs.Keys.{entries-permuted, entries-held, found_each}
use Rattle.dep_bag.proofs.PayloadPaths.{decimal-none, other_byte}
use Rattle.dep_bag.proofs.Files.{order, payload_entry, bagit_file, info_file, metadata_file, IsSmall, Distinct-files, payload_of_files, plain_payload, plain_listed, All-five, All-listed}

-- ---- each line that is written of a file that the bag holds is right

abbrev IsHeld : Bag → PathAndBytes → Type 0
IsHeld b f = finmap.get b.files f.0 ≡ Some f.1

lines_checked : (d : Digest) → IsDigest d → (b : Bag) (fs : List PathAndBytes) → All (IsHeld b) fs → All (IsChecksumOf d b) (each (line_of d) fs)
lines_checked d is b fs h =
    All-map (IsChecksumOf d b) (line_of d) fs
    (All-weaker (IsHeld b) (λ f. IsChecksumOf d b (line_of d f))
    (λ f held. record { path = f.0; bytes = f.1; named = refl; held = held; checksum = digest_read_back d is f.1 }) fs h)

-- ---- what the bag holds

same_key : finmap.IsAntisymmetric order
same_key = finmap.slice_cmp-IsAntisymmetric finmap.nat_cmp-IsAntisymmetric

held : (o : Object) (q : List ℕ) → finmap.get (bag_of o).files q ≡ find order q (bag_files o)
held o q = finmap.get-from_entries nat_list_cmp_total (bag_files o) q

all_held : (o : Object) → All IsSmall (finmap.entries o.files) → All (IsHeld (bag_of o)) (bag_files o)
all_held o small =
    All-weaker (λ f. find order f.0 (bag_files o) ≡ Some f.1) (IsHeld (bag_of o)) (λ f found. held o f.0 ∙ found) (bag_files o)
    (found_each nat_list_cmp_total same_key (bag_files o) (Distinct-files o small))

payload_held : (o : Object) → All IsSmall (finmap.entries o.files) → All (IsHeld (bag_of o)) (payload o)
unfolding bag_files
payload_held o small = All-drop (IsHeld (bag_of o)) 7 (bag_files o) (all_held o small)

declaration_held : (o : Object) → IsHeld (bag_of o) bagit_file
unfolding bag_files
declaration_held o = held o (codes "bagit.txt")

info_held : (o : Object) → IsHeld (bag_of o) (info_file o)
unfolding bag_files
info_held o = held o (codes "bag-info.txt")

manifest_held : (a : Algorithm) (o : Object) → IsHeld (bag_of o) (payload_manifest a o)
unfolding bag_files
manifest_held Sha256 o = held o (codes "manifest-sha256.txt")
manifest_held Sha512 o = held o (codes "manifest-sha512.txt")

metadata_held : (o : Object) → IsHeld (bag_of o) (metadata_file o)
unfolding bag_files
metadata_held o = held o (codes "metadata/sword.json")

tag_manifest_held : (a : Algorithm) (o : Object) → IsHeld (bag_of o) (tag_manifest a o)
unfolding bag_files
tag_manifest_held Sha256 o = held o (codes "tagmanifest-sha256.txt")
tag_manifest_held Sha512 o = held o (codes "tagmanifest-sha512.txt")

listed_held : (o : Object) → All (IsHeld (bag_of o)) (listed_files o)
listed_held o = All-listed (IsHeld (bag_of o)) o (declaration_held o) (info_held o) (λ a. manifest_held a o) (metadata_held o)

-- ---- the payload of the bag is the object's files

payload_permuted : (o : Object) → All IsSmall (finmap.entries o.files) → IsPermutation (payload o) (payload_in (bag_of o))
payload_permuted o small =
    subst (λ l. IsPermutation l (payload_in (bag_of o))) (payload_of_files o)
    (entries-permuted nat_list_cmp_total same_key (λ f. is_payload f.0) (bag_files o) (Distinct-files o small))

paths_of_lines : (d : Digest) (fs : List PathAndBytes) → each (λ line. line.path) (each (line_of d) fs) ≡ each (λ f. encoded_path f.0) fs
paths_of_lines d [] = refl
paths_of_lines d (f ∷ fs) = ap (λ l. encoded_path f.0 ∷ l) (paths_of_lines d fs)

each_once : (d : Digest) (o : Object) → All IsSmall (finmap.entries o.files)
    → IsPermutation (each (λ f. encoded_path f.0) (payload_in (bag_of o))) (each (λ line. line.path) (each (line_of d) (payload o)))
each_once d o small =
    subst (λ l. IsPermutation (each (λ f. encoded_path f.0) (payload_in (bag_of o))) l) (sym (paths_of_lines d (payload o)))
    (IsPermutation-map (λ f. encoded_path f.0) (payload_in (bag_of o)) (payload o) (IsPermutation-sym (payload o) (payload_in (bag_of o)) (payload_permuted o small)))

same_oxum : (xs ys : List PathAndBytes) → IsPermutation xs ys → oxum xs ≡ oxum ys
same_oxum xs ys h =
    λ i. decimal (sym (sum_by-IsPermutation (λ f. length f.1) xs ys h) i) ++ codes "." ++ decimal (sym (length_permutation xs ys h) i)

-- ---- the lines of bag-info.txt

oxum-no_lf : (fs : List PathAndBytes) → list_any (λ b. b == 10) (oxum fs) ≡ false
oxum-no_lf fs =
    let p = λ (b : ℕ). b == 10 in
    let sum = decimal (sum_by (λ f. length f.1) fs) in
    none-append p (sum ++ codes ".") (decimal (length fs)) (none-append p sum (codes ".") (decimal-none 10 (omega arith) _) refl) (decimal-none 10 (omega arith) _)

digit-no_lf : (n : ℕ) → (48 + n == 10) ≡ false
digit-no_lf n = other_byte (48 + n) 10 (omega arith)

date-no_lf : (secs : ℕ) → list_any (λ b. b == 10) (day_text secs) ≡ false
unfolding day_text
date-no_lf secs = let c = civil_of secs in
    rw (digit-no_lf (c.year / 100 / 10), digit-no_lf (c.year / 100 % 10), digit-no_lf (c.year % 100 / 10), digit-no_lf (c.year % 100 % 10), digit-no_lf (c.month / 10), digit-no_lf (c.month % 10), digit-no_lf (c.day / 10), digit-no_lf (c.day % 10)) refl

regroup : (day sum : List ℕ) → codes "Bagging-Date: " ++ day ++ codes "\nPayload-Oxum: " ++ sum ++ codes "\n" ≡ (codes "Bagging-Date: " ++ day) ++ 10 ∷ ((codes "Payload-Oxum: " ++ sum) ++ 10 ∷ [])
regroup day sum = simp append_assoc

info_lines : (day sum : List ℕ) → list_any (λ b. b == 10) day ≡ false → list_any (λ b. b == 10) sum ≡ false
    → lines_of (codes "Bagging-Date: " ++ day ++ codes "\nPayload-Oxum: " ++ sum ++ codes "\n") ≡ (codes "Bagging-Date: " ++ day) ∷ (codes "Payload-Oxum: " ++ sum) ∷ [] ∷ []
info_lines day sum no_day no_sum =
    let p = λ (b : ℕ). b == 10 in
    ap lines_of (regroup day sum)
    ∙ split_first p (codes "Bagging-Date: " ++ day) 10 ((codes "Payload-Oxum: " ++ sum) ++ 10 ∷ []) (none-append p (codes "Bagging-Date: ") day refl no_day) refl
    ∙ ap (λ l. (codes "Bagging-Date: " ++ day) ∷ l) (split_first p (codes "Payload-Oxum: " ++ sum) 10 [] (none-append p (codes "Payload-Oxum: ") sum refl no_sum) refl)

abbrev reported : List (List ℕ) → List (List ℕ)
reported lines = filter (λ line. starts_with nat_eq line (codes "Payload-Oxum:")) lines

counted : (o : Object) → All IsSmall (finmap.entries o.files)
    → reported (lines_of (info_text o.changed (oxum (payload o)))) ≡ (codes "Payload-Oxum: " ++ oxum (payload_in (bag_of o))) ∷ []
counted o small =
    ap reported (info_lines (day_text (min o.changed greatest_moment)) (oxum (payload o)) (date-no_lf (min o.changed greatest_moment)) (oxum-no_lf (payload o)))
    ∙ ap (λ sum. (codes "Payload-Oxum: " ++ sum) ∷ []) (same_oxum (payload o) (payload_in (bag_of o)) (payload_permuted o small))

-- ---- the bag

valid_manifest : (a : Algorithm) (o : Object) → All IsSmall (finmap.entries o.files) → IsPayloadManifest a (bag_of o)
valid_manifest a o small =
    let d = digest_by a in
    let is = IsDigest-digest_by a in
    record {
      lines = each (line_of d) (payload o);
      has = record {
        read = ap (λ x. x >>= manifest_read) (manifest_held a o) ∙ manifest_read_back d is (payload o) (plain_payload o);
        checked = lines_checked d is (bag_of o) (payload o) (payload_held o small);
      };
      each_once = each_once d o small;
    }

named : (a other : Algorithm) (o : Object) → Contains (each (λ line. line.path) (each (line_of (digest_by a)) (listed_files o))) (manifest_path other)
named a Sha256 o = (2, omega arith, refl)
named a Sha512 o = (3, omega arith, refl)

valid_tag_manifest : (a : Algorithm) (o : Object) → IsTagManifest a (bag_of o)
valid_tag_manifest a o =
    let d = digest_by a in
    let is = IsDigest-digest_by a in
    record {
      lines = each (line_of d) (listed_files o);
      has = record {
        read = ap (λ x. x >>= manifest_read) (tag_manifest_held a o) ∙ manifest_read_back d is (listed_files o) (plain_listed o);
        checked = lines_checked d is (bag_of o) (listed_files o) (listed_held o);
      };
      names_manifests = λ other. named a other o;
      names_no_tag_manifest = All-five (λ name. IsTrue (not (starts_with nat_eq name (codes "tagmanifest-"))))
          (encoded_path (codes "bagit.txt")) (encoded_path (codes "bag-info.txt"))
          (encoded_path (manifest_path Sha256)) (encoded_path (manifest_path Sha512)) (encoded_path (codes "metadata/sword.json"))
          refl refl refl refl refl;
    }

pub valid : (o : Object) → All IsSmall (finmap.entries o.files) → IsValidBag (bag_of o)
valid o small = record {
  declared = declaration_held o;
  folder = inl (0, omega arith, refl);
  manifest = λ a. valid_manifest a o small;
  tag_manifest = λ a. valid_tag_manifest a o;
  oxum = record { info = info_text o.changed (oxum (payload o)); has = info_held o; once = counted o small };
}

below : (f next : ℕ) → f < next → next < 2 ^ 63 → f < 2 ^ 64
below f next h g = omega arith

all_small : (s : State) (n : ℕ) (o : Object) → IsSound s → finmap.get s.objects n ≡ Some o → All IsSmall (finmap.entries o.files)
all_small s n o sound is =
    All-weaker (λ e. finmap.get o.files e.0 ≡ Some e.1) IsSmall (λ e got. below e.0 s.next.file ((sound.objects n o is).files e.0 e.1 got).number_given.below sound.file_bound) (finmap.entries o.files)
    (entries-held nat_cmp_total finmap.nat_cmp-IsAntisymmetric o.files)

same_bag : (a b : Bag) → Some a ≡ Some b → a ≡ b
same_bag a b e = cc

pub valid_of_state : (s : State) (n : ℕ) (b : Bag) → IsSound s → bag_at s n ≡ Some b → IsValidBag b
valid_of_state s n b sound is =
    elim (finmap.get s.objects n) as (λ found. finmap.get s.objects n ≡ found → option_map bag_of found ≡ Some b → IsValidBag b) [
      | None ↦ λ e h. absurd (cc)
      | Some o ↦ λ e h. subst IsValidBag (same_bag (bag_of o) b h) (valid o (all_small s n o sound e))
    ] refl is

same_paths : (es : List (ℕ × File)) → each (λ f. f.0) (each payload_entry es) ≡ each (λ e. payload_path e.0 e.1.name) es
same_paths [] = refl
same_paths (e ∷ es) = ap (λ l. payload_path e.0 e.1.name ∷ l) (same_paths es)

pub paths_of_bag : (o : Object) → each (λ f. f.0) (bag_files o) ≡ bag_paths o
unfolding bag_files
paths_of_bag o = ap (λ l. tag_paths ++ l) (same_paths (finmap.entries o.files))

pub holds_of_state : (s : State) (n : ℕ) (o : Object) → IsSound s → finmap.get s.objects n ≡ Some o
    → All (λ f. finmap.get (bag_of o).files f.0 ≡ Some f.1) (bag_files o)
holds_of_state s n o sound is = all_held o (all_small s n o sound is)
