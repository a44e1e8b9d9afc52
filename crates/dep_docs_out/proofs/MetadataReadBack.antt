-- What the members of a metadata document are read as.
use Rattle.std.proofs.Common.{◌≡◌, ◌≢◌, ℕ, Bool, true, false, ◌&&◌, List, [], ◌∷◌, map, codes, IsTrue, IsUtf8, inl, inr, T, refl, sym, arith, nat_cmp, ne_eqb}
use Rattle.std.specs.Ordering.{is_lt}
use Rattle.std.specs.Cmp.Lexicographic.{slice_cmp}
use Rattle.std.specs.FinMap as finmap
use Rattle.std.specs.FinMap.Entries.{is_sorted, below_all}
use Rattle.std.specs.List.{AllByRecursion}
use Rattle.std.proofs.lemmas.Bool.{and_from, cases_eq, false≢true}
use Rattle.serde_json.specs.Data.{Data}
use Rattle.dep_types.specs.State.{Texts}
use Rattle.dep_types.specs.Names.{is_kept_name}
use Rattle.dep_types.specs.declared.config.Config.{Config}
use Rattle.dep_docs_out.specs.Documents.{texts_data, metadata_url, metadata_data, metadata_document, bag_metadata_data, bag_metadata_document}
use Rattle.dep_docs_out.specs.Json.{items, members_from, text}
use Rattle.dep_docs_out.specs.ReadBack.{ReadsAs, HasTexts, HasKeptNames, EntryHasTexts, MetadataHasTexts}
use Rattle.dep_docs_out.proofs.ReadingBack.{is_plain, are_plain, members_are_plain, is_below}
use Rattle.dep_docs_out.proofs.Utf8.{HasUtf8, ItemsHaveUtf8, MembersHaveUtf8, is_text}
use Rattle.dep_docs_out.proofs.PartsReadBack.{reads, metadata_url_utf8}

abbrev Entry : Type 0
Entry = List ℕ × List (List ℕ)

abbrev members_of : List Entry → List (List ℕ × Data)
members_of entries = map (λ e. (e.0, texts_data e.1)) entries

-- ---- the texts of a name

items_plain : (ts : List (List ℕ)) (n : ℕ) → are_plain (items (map text ts)) n ≡ true
items_plain [] n = refl
items_plain (t ∷ ts) n = items_plain ts n

texts_plain : (ts : List (List ℕ)) → is_plain (texts_data ts) 1 ≡ true
texts_plain [] = refl
texts_plain (t ∷ []) = refl
texts_plain (t ∷ u ∷ ts) = items_plain ts 0

items_utf8 : (ts : List (List ℕ)) → AllByRecursion (λ t. IsUtf8 t) ts → ItemsHaveUtf8 (items (map text ts))
items_utf8 [] h = tt
items_utf8 (t ∷ ts) h = (is_text t h.0, items_utf8 ts h.1)

texts_utf8 : (ts : List (List ℕ)) → AllByRecursion (λ t. IsUtf8 t) ts → HasUtf8 (texts_data ts)
texts_utf8 [] h = tt
texts_utf8 (t ∷ []) h = is_text t h.0
texts_utf8 (t ∷ u ∷ ts) h = (is_text t h.0, (is_text u h.1.0, items_utf8 ts h.1.1))

-- ---- names that rise, behind `@type`

holds : (b : Bool) → T b → b ≡ true
holds true h = refl
holds false h = absurd h

both : (a b : Bool) → T (a && b) → T a × T b
both true b h = (tt, h)
both false b h = absurd h

below_first : (k : List ℕ) (entries : List Entry) → T (below_all (slice_cmp nat_cmp) k entries) → is_below k (members_from (members_of entries)) ≡ true
below_first k [] h = refl
below_first k (e ∷ entries) h = holds _ (both (is_lt (slice_cmp nat_cmp k e.0)) (below_all (slice_cmp nat_cmp) k entries) h).0

entries_plain : (entries : List Entry) → T (is_sorted (slice_cmp nat_cmp) entries) → members_are_plain (members_from (members_of entries)) 1 ≡ true
entries_plain [] h = refl
entries_plain (e ∷ entries) h =
    let p = both (below_all (slice_cmp nat_cmp) e.0 entries) (is_sorted (slice_cmp nat_cmp) entries) h in
    and_from _ _ (and_from _ _ (texts_plain e.1) (below_first e.0 entries p.0)) (entries_plain entries p.1)

entries_utf8 : (entries : List Entry) → AllByRecursion EntryHasTexts entries → MembersHaveUtf8 (members_from (members_of entries))
entries_utf8 [] h = tt
entries_utf8 (e ∷ entries) h = (is_text e.0 h.0.name, texts_utf8 e.1 h.0.texts, entries_utf8 entries h.1)

begins : (x : ℕ) (xs : List ℕ) → IsTrue (is_kept_name (x ∷ xs)) → x ≢ 100 → ⊥
begins x xs h other = false≢true (rw (ne_eqb 100 x (λ e. other (sym e))) at h)

behind_type : (name : List ℕ) → IsTrue (is_kept_name name) → is_lt (slice_cmp nat_cmp (codes "@type") name) ≡ true
behind_type [] h = absurd (false≢true h)
behind_type (x ∷ xs) h = elim (cases_eq x 100) [
  | inl same ↦ rw same refl
  | inr other ↦ absurd (begins x xs h other)
]

type_below : (entries : List Entry) → AllByRecursion (λ e. IsTrue (is_kept_name e.0)) entries → is_below (codes "@type") (members_from (members_of entries)) ≡ true
type_below [] h = refl
type_below (e ∷ entries) h = behind_type e.0 h.0

-- ---- whole documents

metadata_plain : (config : Config) (n : ℕ) (texts : Texts) → HasKeptNames texts → is_plain (metadata_data config n texts) 2 ≡ true
unfolding metadata_data
metadata_plain config n texts kept = rw (entries_plain (finmap.entries texts) (finmap.entries_sorted texts), type_below (finmap.entries texts) kept) refl

pub metadata_reads : (config : Config) (n : ℕ) (texts : Texts) → HasTexts config → HasKeptNames texts → MetadataHasTexts texts
    → ReadsAs (metadata_document config n texts) (metadata_data config n texts)
unfolding metadata_data
metadata_reads config n texts reported kept utf8 =
    let place = is_text (metadata_url config n) (metadata_url_utf8 config n reported.base) in
    reads (metadata_data config n texts) 2 (omega arith) (metadata_plain config n texts kept)
    (tt, tt, (tt, place, (tt, tt, entries_utf8 (finmap.entries texts) utf8)))

bag_metadata_plain : (texts : Texts) → HasKeptNames texts → is_plain (bag_metadata_data texts) 2 ≡ true
unfolding bag_metadata_data
bag_metadata_plain texts kept = rw (entries_plain (finmap.entries texts) (finmap.entries_sorted texts), type_below (finmap.entries texts) kept) refl

pub bag_metadata_reads : (texts : Texts) → HasKeptNames texts → MetadataHasTexts texts → ReadsAs (bag_metadata_document texts) (bag_metadata_data texts)
unfolding bag_metadata_data bag_metadata_document
bag_metadata_reads texts kept utf8 =
    reads (bag_metadata_data texts) 2 (omega arith) (bag_metadata_plain texts kept) (tt, tt, (tt, tt, entries_utf8 (finmap.entries texts) utf8))
