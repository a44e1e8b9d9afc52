-- What is read of a document may be kept.
use Rattle.std.proofs.Common.{◌≡◌, ◌∙◌, ℕ, List, [], ◌∷◌, Bool, true, false, Option, Some, None, IsTrue, refl, sym, subst, inl, inr, codes, bytes_eq, nat_cmp, Less, Equal, Greater, length, arith}
use Rattle.std.specs.List.{AllByRecursion}
use Rattle.std.specs.Cmp.Lexicographic.{slice_cmp, nat_list_cmp_total}
use Rattle.std.specs.FinMap as map
use Rattle.std.specs.FinMap.Entries.{put, find}
use Rattle.serde_json.specs.Data.{Data, Items, no_items, item, Members, no_members, member}
use Rattle.serde_json.specs.Find.{get, as_str, as_array, as_object}
use Rattle.std.specs.Option.{option_map_or}
use Rattle.dep_types.specs.Maps.{◌>>=◌, provided}
use Rattle.dep_types.specs.State.{Texts}
use Rattle.dep_types.specs.Names.{if_passes, is_good_name, is_kept_name, is_media}
use Rattle.dep_types.specs.declared.config.Config.{Config}
use Rattle.dep_params.specs.Grammar.{DispositionValue, names_of}
use Rattle.dep_params.specs.Reported.{file_name_of, is_each_once, disposition_of}
use Rattle.dep_params.proofs.Runs.{chosen}
use Rattle.dep_params.proofs.ReportedNames.{file_name-sound}
use Rattle.dep_docs_in.specs.Documents.{attachment_name, default_media, digest_of, document, each_read, form_name, has_type, keep, kept_texts, length_of, media_in, media_in_entry, metadata_read, name_of, not_empty, packaging_of, reference_in, references_read, target_of, text_under, texts_in}
use Rattle.dep_docs_in.specs.Fit.{IsKeptName, AreKept, IsFitMetadata, IsFitReference}
use Rattle.dep_docs_in.specs.declared.reference.Reference.{Reference}

pub bound : {X Y : Type 0} (o : Option X) (f : X → Option Y) (y : Y) → (o >>= f) ≡ Some y → (x : X) × (o ≡ Some x) × (f x ≡ Some y)
bound None f y h = cc h
bound (Some x) f y h = (x, refl, h)

same_some : {X : Type 0} (x y : X) → Some x ≡ Some y → x ≡ y
same_some x y h = cc h

pub provided_by : {X : Type 0} (b : Bool) (o : Option X) (x : X) → provided b o ≡ Some x → (b ≡ true) × (o ≡ Some x)
provided_by true o x h = (refl, h)
provided_by false o x h = cc h

-- ---- metadata

kept-put : (name : List ℕ) (texts : List (List ℕ)) (entries : List (List ℕ × List (List ℕ))) → IsKeptName name texts → AreKept entries
    → AreKept (put (slice_cmp nat_cmp) name texts entries)
kept-put name texts [] is all = (is, tt)
kept-put name texts (e ∷ entries) is all = elim (slice_cmp nat_cmp name e.0) as (λ r. slice_cmp nat_cmp name e.0 ≡ r → AreKept (put (slice_cmp nat_cmp) name texts (e ∷ entries))) [
  | Less ↦ λ r. rw r (is, all)
  | Equal ↦ λ r. rw r ((all.0.0, is.1), all.1)
  | Greater ↦ λ r. rw r (all.0, kept-put name texts entries is all.1)
] refl

kept-keep : (name : List ℕ) (texts : List (List ℕ)) (old : Texts) → IsTrue (is_kept_name name) → IsFitMetadata old → IsFitMetadata (keep name texts old)
kept-keep name [] old is all = all
kept-keep name (text ∷ texts) old is all =
    subst AreKept (sym (map.entries-insert nat_list_cmp_total old name (text ∷ texts))) (kept-put name (text ∷ texts) (map.entries old) (is, λ e. cc e) all)

none-kept : (entries : List (List ℕ × List (List ℕ))) → length entries ≡ 0 → AreKept entries
none-kept [] e = tt
none-kept (x ∷ entries) e = absurd (omega (arith, e))

pub nothing-kept : IsFitMetadata map.empty
nothing-kept = none-kept _ (sym (map.len-entries {X = List (List ℕ)} {R = slice_cmp nat_cmp} map.empty) ∙ map.len-empty (slice_cmp nat_cmp) (List (List ℕ)))

kept_texts-fit : (old : Texts) (ms : Members) (kept : Texts) → IsFitMetadata old → kept_texts old ms ≡ Some kept → IsFitMetadata kept
unfolding kept_texts
kept_texts-fit old no_members kept all h = subst IsFitMetadata (same_some old kept h) all
kept_texts-fit old (member name d rest) kept all h = elim (chosen (is_kept_name name) _ _ (Some kept) h) [
  | inl is ↦
      let texts = bound (texts_in d) (λ texts. kept_texts (keep name texts old) rest) kept is.1 in
      kept_texts-fit (keep name texts.0 old) rest kept (kept-keep name texts.0 old is.0 all) texts.2
  | inr other ↦ kept_texts-fit old rest kept all other.1
]

pub metadata-fit : (content : List ℕ) (kept : Texts) → metadata_read content ≡ Some kept → IsFitMetadata kept
metadata-fit content kept h =
    let d = bound (document content) (λ d. as_object d >>= (λ ms. provided (has_type (codes "Metadata") d) (kept_texts map.empty ms))) kept h in
    let ms = bound (as_object d.0) (λ ms. provided (has_type (codes "Metadata") d.0) (kept_texts map.empty ms)) kept d.2 in
    kept_texts-fit map.empty ms.0 kept nothing-kept (provided_by (has_type (codes "Metadata") d.0) (kept_texts map.empty ms.0) kept ms.2).1

-- what is found among entries that are kept
pub kept-found : (entries : List (List ℕ × List (List ℕ))) (name : List ℕ) (texts : List (List ℕ)) → AreKept entries
    → find (slice_cmp nat_cmp) name entries ≡ Some texts → IsKeptName name texts
kept-found [] name texts all h = cc h
kept-found (e ∷ entries) name texts all h = elim (slice_cmp nat_cmp name e.0) as (λ r. slice_cmp nat_cmp name e.0 ≡ r → IsKeptName name texts) [
  | Less ↦ λ r. kept-found entries name texts all.1 (rw r at h)
  | Equal ↦ λ r.
      let here : Some e.1 ≡ Some texts = rw r at h in
      let same : e.1 ≡ texts = cc here in
      let named : e.0 ≡ name = sym (map.slice_cmp-IsAntisymmetric map.nat_cmp-IsAntisymmetric name e.0 r) in
      subst (λ (t : List (List ℕ)). IsKeptName name t) same (subst (λ (n : List ℕ). IsKeptName n e.1) named all.0)
  | Greater ↦ λ r. kept-found entries name texts all.1 (rw r at h)
] refl

-- ---- references

name-fit : (r : DispositionValue) (name : List ℕ) → attachment_name r ≡ Some name → IsTrue (is_good_name name)
name-fit r name h =
    let once = provided_by (is_each_once (names_of r)) (form_name r) name h in
    let form = provided_by (bytes_eq r.form (codes "attachment")) (file_name_of r) name once.1 in
    (file_name-sound r name form.1).good

name_of-fit : (d : Data) (name : List ℕ) → name_of d ≡ Some name → IsTrue (is_good_name name)
unfolding name_of
name_of-fit d name h =
    let reading = bound (text_under (codes "contentDisposition") d >>= disposition_of) attachment_name name h in
    name-fit reading.0 name reading.2

media_in-fit : (d : Data) (media : List ℕ) → media_in d ≡ Some media → IsTrue (is_media media)
media_in-fit d media h =
    let text = bound (as_str d) (if_passes is_media) media h in
    elim (chosen (is_media text.0) _ _ (Some media) text.2) [
      | inl good ↦ subst (λ (t : List ℕ). IsTrue (is_media t)) (same_some text.0 media good.1) good.0
      | inr bad ↦ cc (bad.1)
    ]

reported-media : (o : Option Data) (media : List ℕ) → option_map_or media_in o (Some default_media) ≡ Some media → IsTrue (is_media media)
reported-media None media h = subst (λ (t : List ℕ). IsTrue (is_media t)) (same_some default_media media h) refl
reported-media (Some d) media h = media_in-fit d media h

media_of-fit : (d : Data) (media : List ℕ) → media_in_entry d ≡ Some media → IsTrue (is_media media)
unfolding media_in_entry
media_of-fit d media h = reported-media (get (codes "contentType") d) media h

reference-fit : (base : List ℕ) (d : Data) (r : Reference) → reference_in base d ≡ Some r → IsFitReference r
unfolding reference_in
reference-fit base d r h =
    let target = bound (target_of base d) _ r h in
    let name = bound (name_of d) _ r target.2 in
    let media = bound (media_in_entry d) _ r name.2 in
    let length = bound (length_of d) _ r media.2 in
    let packaging = bound (packaging_of d) _ r length.2 in
    let digest = bound (digest_of d) _ r packaging.2 in
    let same : record { target = target.0; name = name.0; media = media.0; length = length.0; packaging = packaging.0; digest = digest.0 } ≡ r = same_some _ r digest.2 in
    subst IsFitReference same (name_of-fit d name.0 name.1, media_of-fit d media.0 media.1)

entries-fit : (base : List ℕ) (ds : Items) (refs : List Reference) → each_read (reference_in base) ds ≡ Some refs → AllByRecursion IsFitReference refs
unfolding each_read
entries-fit base no_items refs h =
    let same : [] ≡ refs = cc h in
    subst (AllByRecursion IsFitReference) same tt
entries-fit base (item d ds) refs h =
    let entry = bound (reference_in base d) (λ entry. each_read (reference_in base) ds >>= (λ entries. Some (entry ∷ entries))) refs h in
    let entries = bound (each_read (reference_in base) ds) (λ entries. Some (entry.0 ∷ entries)) refs entry.2 in
    let same : entry.0 ∷ entries.0 ≡ refs = cc (entries.2) in
    subst (AllByRecursion IsFitReference) same (reference-fit base d entry.0 entry.1, entries-fit base ds entries.0 entries.1)

not_empty-is : (refs more : List Reference) → not_empty refs ≡ Some more → refs ≡ more
not_empty-is [] more h = cc h
not_empty-is (r ∷ refs) more h = cc h

pub references-fit : (base : List ℕ) (content : List ℕ) (refs : List Reference) → references_read base content ≡ Some refs → AllByRecursion IsFitReference refs
references-fit base content refs h =
    let d = bound (document content) _ refs h in
    let items = bound (provided (has_type (codes "ByReference") d.0) (get (codes "byReferenceFiles") d.0 >>= as_array)) _ refs d.2 in
    let entries = bound (each_read (reference_in base) items.0) not_empty refs items.2 in
    subst (AllByRecursion IsFitReference) (not_empty-is entries.0 refs entries.2) (entries-fit base items.0 entries.0 entries.1)
