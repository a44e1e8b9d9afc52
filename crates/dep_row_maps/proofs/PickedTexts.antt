-- Some texts of an object, picked by name and place.
use Rattle.std.proofs.Common.{◌≡◌, ℕ, ◌+◌, Bool, true, false, ◌&&◌, cond, T, List, [], ◌∷◌, ◌++◌, map, take, filter, unwrap_or, Some, None, Ordering, Less, Equal, Greater, refl, sym, ap, subst, ◌∙◌, is_eq, append-nil}
use Rattle.std.specs.Ordering.{ordering_reverse}
use Rattle.std.specs.List.{AllByRecursion, flat_map}
use Rattle.std.specs.List.Sorted.{IsPermutation}
use Rattle.std.specs.FinMap as finmap
use Rattle.std.specs.FinMap.Entries.{find, is_sorted}
use Rattle.std.proofs.lemmas.Cmp.{nat_list_cmp_total}
use Rattle.std.proofs.lemmas.List.Elements.{filter-append}
use Rattle.std.proofs.lemmas.List.Sorted.{IsPermutation-map, IsPermutation-sym, IsPermutation-trans}
use Rattle.sqlite.specs.declared.types.Value.TheVariants.{Text}
use Rattle.sqlite_value.specs.Order.{Row, column, value_cmp}
use Rattle.sqlite_value.proofs.OrderLemmas.{value_cmp-Text}
use Rattle.sqlite_trees.proofs.ListLemmas.{IsPermutation-filter, ascending-filter, filter_all, filter_none}
use Rattle.dep_types.specs.State.{Texts}
use Rattle.dep_tables.proofs.Sorted.{sorted_is}
use Rattle.dep_tables.specs.Edits.{page_size}
use Rattle.dep_tables.specs.Rows.{by_name_and_place, is_text_of, shown_metadata, shown_number}
use Rattle.dep_row_maps.specs.Owned.{placed}
use Rattle.dep_row_maps.specs.Stored.{is_row_of, metadata_rows, text_rows, text_values, texts_under}
use Rattle.dep_row_maps.specs.TablesAre.{MetadataAre, metadata_at}
use Rattle.dep_row_maps.specs.ReadLaws.{LastTextRead, TextsPageRead}
use Rattle.dep_row_maps.proofs.LastBlock.{last_found, place_row}
use Rattle.dep_row_maps.proofs.Metadata.{Below, by_bytes, by_name_total, bytes_same, metadata_rises}
use Rattle.dep_row_maps.proofs.Spreads.{all_placed, both, missing}

-- of the rows that pass a test, those of an object are its rows that pass
pub picked_texts : (n : ℕ) (test seen : Row → Bool) → ((r : Row) → test r ≡ (is_row_of n r && seen (shown_metadata r))) → (rows : List Row)
    → map shown_metadata (filter test rows) ≡ filter seen (map shown_metadata (filter (is_row_of n) rows))
picked_texts n test seen splits [] = refl
picked_texts n test seen splits (r ∷ rows) = go (is_row_of n r) refl (seen (shown_metadata r)) refl (picked_texts n test seen splits rows)
  where
    go : (a : Bool) → is_row_of n r ≡ a → (b : Bool) → seen (shown_metadata r) ≡ b → map shown_metadata (filter test rows) ≡ filter seen (map shown_metadata (filter (is_row_of n) rows))
        → map shown_metadata (filter test (r ∷ rows)) ≡ filter seen (map shown_metadata (filter (is_row_of n) (r ∷ rows)))
    go false is b passes more = rw (splits r, is) more
    go true is false passes more = rw (splits r, is, passes) more
    go true is true passes more = rw (splits r, is, passes) (ap (λ vs. shown_metadata r ∷ vs) more)

-- a page of them
pub texts_page_read : TextsPageRead
texts_page_read t s h n test seen splits found (all, order, is) =
    let its = metadata_rows n (metadata_at s.objects n) in
    let same : IsPermutation (filter seen its) all =
    IsPermutation-trans _ _ _ (IsPermutation-filter seen _ _ (IsPermutation-sym _ _ (h.common.metadata.of_each n)))
    (subst (λ rows. IsPermutation rows all) (picked_texts n test seen splits t.metadata) order.same) in
    is ∙ ap (take page_size) (sorted_is by_name_and_place by_name_total (filter seen its) all (ascending-filter Below seen its (metadata_rises n (metadata_at s.objects n))) same order.sorted)

-- ---- the texts of one name

abbrev has_name : List ℕ → Row → Bool
has_name q seen = is_eq (value_cmp (column seen 1) (Text q))

all_named : (n : ℕ) (q name : List ℕ) (b : Bool) → is_eq (by_bytes name q) ≡ b → (texts : List (List ℕ)) → AllByRecursion (λ r. has_name q r ≡ b) (text_rows n name texts)
all_named n q name b is texts = all_placed (λ r. has_name q r ≡ b) (text_values n name) 0 texts (λ i t _. ap is_eq (value_cmp-Text name q) ∙ is)

abbrev rows_listed : ℕ → List (List ℕ × List (List ℕ)) → List Row
rows_listed n = flat_map (λ e. text_rows n e.0 e.1)

rows_named : (n : ℕ) (q : List ℕ) (es : List (List ℕ × List (List ℕ))) → T (is_sorted by_bytes es) → filter (has_name q) (rows_listed n es) ≡ text_rows n q (unwrap_or (find by_bytes q es) [])
rows_named n q [] sorted = refl
rows_named n q (e ∷ es) sorted = filter-append (has_name q) (text_rows n e.0 e.1) (rows_listed n es) ∙ go (by_bytes q e.0) refl (rows_named n q es (both _ _ sorted).1)
  where
    back : (o : Ordering) → by_bytes q e.0 ≡ o → by_bytes e.0 q ≡ ordering_reverse o
    back o is = nat_list_cmp_total.antisymm e.0 q ∙ ap ordering_reverse is

    go : (o : Ordering) → by_bytes q e.0 ≡ o → filter (has_name q) (rows_listed n es) ≡ text_rows n q (unwrap_or (find by_bytes q es) [])
        → filter (has_name q) (text_rows n e.0 e.1) ++ filter (has_name q) (rows_listed n es) ≡ text_rows n q (unwrap_or (cond (is_eq (by_bytes q e.0)) (Some e.1) (find by_bytes q es)) [])
    go Less is more = rw (filter_none (has_name q) (text_rows n e.0 e.1) (all_named n q e.0 false (ap is_eq (back Less is)) e.1), is) more
    go Greater is more = rw (filter_none (has_name q) (text_rows n e.0 e.1) (all_named n q e.0 false (ap is_eq (back Greater is)) e.1), is) more
    go Equal is more =
        let none : find by_bytes q es ≡ None = ap (λ k. find by_bytes k es) (bytes_same q e.0 is) ∙ missing nat_list_cmp_total e.0 es (both _ _ sorted).0 in
        rw (filter_all (has_name q) (text_rows n e.0 e.1) (all_named n q e.0 true (ap is_eq (back Equal is)) e.1), more, none, is)
        (append-nil (text_rows n e.0 e.1) ∙ ap (λ k. text_rows n k e.1) (sym (bytes_same q e.0 is)))

texts_named : (n : ℕ) (m : Texts) (q : List ℕ) → filter (has_name q) (metadata_rows n m) ≡ text_rows n q (texts_under m q)
texts_named n m q = rows_named n q (finmap.entries m) (finmap.entries_sorted m) ∙ ap (λ o. text_rows n q (unwrap_or o [])) (sym (finmap.get-entries m q))

-- ---- the last of them

numbers_shown : (rows : List Row) → map (shown_number 3) rows ≡ map (shown_number 2) (map shown_metadata rows)
numbers_shown [] = refl
numbers_shown (r ∷ rows) = ap (λ vs. (column r 3 ∷ []) ∷ vs) (numbers_shown rows)

places_shown : (n : ℕ) (name : List ℕ) (k : ℕ) (texts : List (List ℕ)) → map (shown_number 2) (placed (text_values n name) k texts) ≡ placed place_row k texts
places_shown n name k [] = refl
places_shown n name k (t ∷ texts) = ap (λ rows. place_row k t ∷ rows) (places_shown n name (k + 1) texts)

places_of : (rows : List Row) (texts : ℕ → Texts) → MetadataAre rows texts → (n : ℕ) (name : List ℕ) → IsPermutation (map (shown_number 3) (filter (is_text_of n name) rows)) (placed place_row 0 (texts_under (texts n) name))
places_of rows texts are n name =
    let shown = map shown_metadata (filter (is_row_of n) rows) in
    let picked : map (shown_number 3) (filter (is_text_of n name) rows) ≡ map (shown_number 2) (filter (has_name name) shown) =
    numbers_shown (filter (is_text_of n name) rows) ∙ ap (map (shown_number 2)) (picked_texts n (is_text_of n name) (has_name name) (λ r. refl) rows) in
    let its : map (shown_number 2) (filter (has_name name) (metadata_rows n (texts n))) ≡ placed place_row 0 (texts_under (texts n) name) =
    ap (map (shown_number 2)) (texts_named n (texts n) name) ∙ places_shown n name 0 (texts_under (texts n) name) in
    subst (λ rs. IsPermutation rs (placed place_row 0 (texts_under (texts n) name))) (sym picked)
    (subst (IsPermutation (map (shown_number 2) (filter (has_name name) shown))) its (IsPermutation-map (shown_number 2) _ _ (IsPermutation-filter (has_name name) _ _ (are.of_each n))))

pub last_text_read : LastTextRead
last_text_read t s h n name found read =
    let texts = texts_under (metadata_at s.objects n) name in
    sym (last_found texts (map (shown_number 3) (filter (is_text_of n name) t.metadata)) (places_of t.metadata (metadata_at s.objects) h.common.metadata n name) found read)
