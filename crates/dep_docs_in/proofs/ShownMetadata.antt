-- The metadata that a metadata document shows is what is read of it.
use Rattle.std.proofs.Common.{◌≡◌, ◌≢◌, ◌∙◌, ◌&&◌, ℕ, Bool, true, false, List, [], ◌∷◌, ◌++◌, map, Option, Some, option_map, T, IsTrue, Ordering, Less, Equal, Greater, nat_cmp, refl, sym, ap, subst, codes, append_assoc, append-nil}
use Rattle.std.specs.Ordering.{is_lt, ordering_reverse}
use Rattle.std.specs.Cmp.Lexicographic.{slice_cmp, nat_list_cmp_total}
use Rattle.std.specs.FinMap as finmap
use Rattle.std.specs.FinMap.Entries.{put, is_sorted, below_all}
use Rattle.std.specs.List.{AllByRecursion}
use Rattle.std.proofs.lemmas.List.{nil_from_length}
use Rattle.serde_json.specs.Data.{Data}
use Rattle.serde_json.specs.Find.{as_str, as_object}
use Rattle.serde_json.proofs.OnLiterals.{serde_json_on_literals}
use Rattle.dep_types.specs.Maps.{◌>>=◌, provided}
use Rattle.dep_types.specs.State.{Texts}
use Rattle.dep_types.specs.Names.{is_kept_name}
use Rattle.dep_types.specs.declared.config.Config.{Config}
use Rattle.dep_docs_out.specs.Documents.{texts_data, metadata_data, metadata_document, bag_metadata_data, bag_metadata_document}
use Rattle.dep_docs_out.specs.Json.{items, members_from, text}
use Rattle.dep_docs_out.specs.ReadBack.{ReadsAs, HasTexts, MetadataHasTexts}
use Rattle.dep_docs_out.proofs.MetadataReadBack.{metadata_reads, bag_metadata_reads}
use Rattle.dep_docs_in.specs.Documents.{each_read, has_type, metadata_read, keep, kept_texts, texts_in}
use Rattle.dep_docs_in.specs.Fit.{AreKept, IsFitMetadata}
use Rattle.dep_docs_in.proofs.Contents.{document-is}
use Rattle.dep_docs_in.proofs.Keeping.{member_kept}

abbrev Entry : Type 0
Entry = List ℕ × List (List ℕ)

abbrev members_of : List Entry → List (List ℕ × Data)
members_of entries = map (λ e. (e.0, texts_data e.1)) entries

-- ---- the texts under a name

list_reported : (ts : List (List ℕ)) → each_read as_str (items (map text ts)) ≡ Some ts
unfolding each_read
list_reported [] = refl
list_reported (t ∷ ts) = ap (λ o. o >>= (λ us. Some (t ∷ us))) (list_reported ts)

texts_reported : (ts : List (List ℕ)) → texts_in (texts_data ts) ≡ Some ts
unfolding each_read
texts_reported [] = refl
texts_reported (t ∷ []) = refl
texts_reported (t ∷ u ∷ ts) = list_reported (t ∷ u ∷ ts)

keep_some : (name : List ℕ) (ts : List (List ℕ)) (old : Texts) → ts ≢ [] → keep name ts old ≡ finmap.insert old name ts
keep_some name [] old some = absurd (some refl)
keep_some name (t ∷ ts) old some = refl

-- ---- a name that is above those before it goes last

both : (a b : Bool) → T (a && b) → T a × T b
both true b h = (tt, h)
both false b h = absurd h

is_less : (o : Ordering) → T (is_lt o) → o ≡ Less
is_less Less h = refl
is_less Equal h = absurd h
is_less Greater h = absurd h

below_middle : (k : List ℕ) (done : List Entry) (e : Entry) (more : List Entry) → T (below_all (slice_cmp nat_cmp) k (done ++ e ∷ more)) → slice_cmp nat_cmp k e.0 ≡ Less
below_middle k [] e more h = is_less _ (both (is_lt (slice_cmp nat_cmp k e.0)) (below_all (slice_cmp nat_cmp) k more) h).0
below_middle k (d ∷ done) e more h = below_middle k done e more (both (is_lt (slice_cmp nat_cmp k d.0)) (below_all (slice_cmp nat_cmp) k (done ++ e ∷ more)) h).1

put_last : (done : List Entry) (e : Entry) (more : List Entry) → T (is_sorted (slice_cmp nat_cmp) (done ++ e ∷ more)) → put (slice_cmp nat_cmp) e.0 e.1 done ≡ done ++ e ∷ []
put_last [] e more h = refl
put_last (d ∷ done) e more h =
    let parts = both (below_all (slice_cmp nat_cmp) d.0 (done ++ e ∷ more)) (is_sorted (slice_cmp nat_cmp) (done ++ e ∷ more)) h in
    let above : slice_cmp nat_cmp e.0 d.0 ≡ Greater = nat_list_cmp_total.antisymm e.0 d.0 ∙ ap ordering_reverse (below_middle d.0 done e more parts.0) in
    rw above (ap (λ es. d ∷ es) (put_last done e more parts.1))

-- ---- all names, one after another

kept_more : (old : Texts) (entries : List Entry) → AreKept entries → T (is_sorted (slice_cmp nat_cmp) (finmap.entries old ++ entries))
    → (new : Texts) × (kept_texts old (members_from (members_of entries)) ≡ Some new) × (finmap.entries new ≡ finmap.entries old ++ entries)
unfolding kept_texts
kept_more old [] kept sorted = (old, refl, sym (append-nil (finmap.entries old)))
kept_more old (e ∷ entries) kept sorted =
    let next = finmap.insert old e.0 e.1 in
    let put_is : finmap.entries next ≡ finmap.entries old ++ e ∷ [] =
    finmap.entries-insert nat_list_cmp_total old e.0 e.1 ∙ put_last (finmap.entries old) e entries sorted in
    let whole : finmap.entries next ++ entries ≡ finmap.entries old ++ e ∷ entries = ap (λ es. es ++ entries) put_is ∙ append_assoc (finmap.entries old) (e ∷ []) entries in
    let rest = kept_more next entries kept.1 (subst (λ es. T (is_sorted (slice_cmp nat_cmp) es)) (sym whole) sorted) in
    let read = ap (λ o. option_map (λ ts. keep e.0 ts old) o) (texts_reported e.1) ∙ ap Some (keep_some e.0 e.1 old kept.0.1) in
    (rest.0, member_kept e.0 (texts_data e.1) old next (members_from (members_of entries)) kept.0.0 read ∙ rest.1, rest.2 ∙ whole)

none_yet : finmap.entries (finmap.empty {X = List (List ℕ)} {R = slice_cmp nat_cmp}) ≡ []
none_yet = nil_from_length _ (sym (finmap.len-entries finmap.empty) ∙ finmap.len-empty (slice_cmp nat_cmp) (List (List ℕ)))

kept_again : (texts : Texts) → AreKept (finmap.entries texts) → kept_texts finmap.empty (members_from (members_of (finmap.entries texts))) ≡ Some texts
kept_again texts kept =
    let front : finmap.entries finmap.empty ++ finmap.entries texts ≡ finmap.entries texts = ap (λ es. es ++ finmap.entries texts) none_yet in
    let all = kept_more finmap.empty (finmap.entries texts) kept (subst (λ es. T (is_sorted (slice_cmp nat_cmp) es)) (sym front) (finmap.entries_sorted texts)) in
    all.1 ∙ ap Some (finmap.same_entries_map all.0 texts (all.2 ∙ front))

-- ---- whole documents

names_kept : (entries : List Entry) → AreKept entries → AllByRecursion (λ e. IsTrue (is_kept_name e.0)) entries
names_kept [] kept = tt
names_kept (e ∷ entries) kept = (kept.0.0, names_kept entries kept.1)

abbrev meaning : Data → Option Texts
meaning d = as_object d >>= (λ ms. provided (has_type (codes "Metadata") d) (kept_texts finmap.empty ms))

read_of : (content : List ℕ) (d : Data) → ReadsAs content d → metadata_read content ≡ meaning d
read_of content d reads = ap (λ o. o >>= meaning) (document-is content d reads.utf8 reads.value)

pub shown : (config : Config) (n : ℕ) (texts : Texts) → HasTexts config → IsFitMetadata texts → MetadataHasTexts texts
    → metadata_read (metadata_document config n texts) ≡ Some texts
unfolding metadata_data kept_texts serde_json_on_literals
shown config n texts reported kept utf8 =
    read_of (metadata_document config n texts) (metadata_data config n texts) (metadata_reads config n texts reported (names_kept (finmap.entries texts) kept) utf8)
    ∙ kept_again texts kept

pub shown_in_bag : (texts : Texts) → IsFitMetadata texts → MetadataHasTexts texts → metadata_read (bag_metadata_document texts) ≡ Some texts
unfolding bag_metadata_data kept_texts serde_json_on_literals
shown_in_bag texts kept utf8 =
    read_of (bag_metadata_document texts) (bag_metadata_data texts) (bag_metadata_reads texts (names_kept (finmap.entries texts) kept) utf8)
    ∙ kept_again texts kept
