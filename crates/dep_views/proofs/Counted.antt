-- An upload misses no segment where it has as many as it comes in.
use Rattle.std.proofs.Common.{◌≡◌, ◌⊎◌, inl, inr, ℕ, is_lt, zero, suc, ◌+◌, ◌<◌, ◌≤◌, Bool, true, false, T, ◌&&◌, cond, List, [], ◌∷◌, length, map, nat_eq, nat_cmp, is_eq, is_some, Some, refl, sym, ap, subst, ◌∙◌, arith}
use Rattle.std.specs.List.{AllByRecursion, list_all, range_with_len}
use Rattle.std.specs.FinMap as finmap
use Rattle.std.specs.FinMap.Entries as entries
use Rattle.std.proofs.lemmas.List.{length-map}
use Rattle.std.proofs.lemmas.Cmp.{nat_cmp_total, tied_itself}
use Rattle.std.proofs.lemmas.Bool.{cases_lt}
use Rattle.std.proofs.lemmas.Bool.Decides.{nat_tests}
use Rattle.dep_types.specs.State.{State, Upload}
use Rattle.dep_types.specs.Uploads.{has_segment, is_complete}
use Rattle.dep_row_maps.specs.Laws.{HasSegmentsWithin}
use Rattle.dep_row_maps.specs.Stored.{segment_row}
use Rattle.dep_row_maps.proofs.Blocks.{number_order}
use Rattle.dep_row_maps.specs.TablesAre.{TablesAre}
use Rattle.dep_row_maps.proofs.Pieces.{all_found}
use Rattle.dep_row_maps.proofs.Readings.{segments_read}
use Rattle.dep_row_maps.proofs.Whole.{segments_there}
use Rattle.dep_tables.specs.Edits.{AreSegmentRowsOf}
use Rattle.dep_tables.specs.Tables.{Tables}
use Rattle.dep_tables.specs.declared.segments.SegmentRow.{SegmentRow}
use Rattle.dep_staging.specs.Found.{segment_rows_of}
use Rattle.dep_staging.proofs.Entries.{both, passed, none_below}
use Rattle.dep_row_maps.proofs.Spreads.{less}

abbrev Parts : Type 0
Parts = List (ℕ × List ℕ)

abbrev is_there : Parts → ℕ → Bool
is_there es k = is_some (entries.find nat_cmp k es)

abbrev AreFrom : (a b : ℕ) → Parts → Type 0
AreFrom a b es = AllByRecursion (λ e. (a ≤ e.0) × (e.0 < b)) es

-- behind an entry the numbers are above it
later : (a b k : ℕ) (es : Parts) → T (entries.below_all nat_cmp k es) → AreFrom a b es → AreFrom (k + 1) b es
later a b k [] h within = tt
later a b k (e ∷ es) h within =
    let parts = both (is_lt (nat_cmp k e.0)) (entries.below_all nat_cmp k es) h in
    let order : k < e.0 = number_order k e.0 (less (nat_cmp k e.0) parts.0) in
    let next : k + 1 ≤ e.0 = omega (arith, order) in ((next, within.0.1), later a b k es parts.1 within.1)

-- so many numbers have no more entries
fits : (a b : ℕ) (es : Parts) → a ≤ b → T (entries.is_sorted nat_cmp es) → AreFrom a b es → length es + a ≤ b
fits a b [] low sorted within = omega (arith, low)
fits a b (e ∷ es) low sorted within =
    let parts = both (entries.below_all nat_cmp e.0 es) (entries.is_sorted nat_cmp es) sorted in
    let rest = fits (e.0 + 1) b es (omega (arith, within.0.1)) parts.1 (later a b e.0 es parts.0 within.1) in
    omega (arith, rest, within.0.0)

-- an entry below the numbers is none of theirs
skipped : (e : ℕ × List ℕ) (es : Parts) (a n : ℕ) → e.0 < a → list_all (is_there (e ∷ es)) (range_with_len a n) ≡ list_all (is_there es) (range_with_len a n)
skipped e es a zero low = refl
skipped e es a (suc n) low =
    let first = ap is_some (passed a e.0 e.1 es (λ same. omega (arith, low, same))) in
    let rest = skipped e es (a + 1) n (omega (arith, low)) in
    ap (λ b. b && list_all (is_there (e ∷ es)) (range_with_len (a + 1) n)) first ∙ ap (λ b. is_there es a && b) rest

nothing : (n : ℕ) → false ≡ nat_eq 0 (suc n)
nothing n = grind (arith, nat_tests)

one_less : (m n : ℕ) → nat_eq m n ≡ nat_eq (suc m) (suc n)
one_less m n = grind (arith, nat_tests)

counted : (a n b : ℕ) (es : Parts) → b ≡ a + n → T (entries.is_sorted nat_cmp es) → AreFrom a b es → list_all (is_there es) (range_with_len a n) ≡ nat_eq (length es) n
counted a zero b [] is sorted within = refl
counted a (suc n) b [] is sorted within = nothing n
counted a zero b (e ∷ es) is sorted within = absurd (omega (arith, is, within.0.0, within.0.1))
counted a (suc n) b (e ∷ es) is sorted within = go (λ within. counted (a + 1) n b es (omega (arith, is)) (both (entries.below_all nat_cmp e.0 es) (entries.is_sorted nat_cmp es) sorted).1 within) (cases_lt a e.0)
  where
    go : (AreFrom (a + 1) b es → list_all (is_there es) (range_with_len (a + 1) n) ≡ nat_eq (length es) n) → (a < e.0) ⊎ (e.0 ≤ a) → list_all (is_there (e ∷ es)) (range_with_len a (suc n)) ≡ nat_eq (suc (length es)) (suc n)
    go more (inl low) =
        let parts = both (entries.below_all nat_cmp e.0 es) (entries.is_sorted nat_cmp es) sorted in
        let none = ap is_some (passed a e.0 e.1 es (λ same. omega (arith, low, same)) ∙ none_below e.0 a es parts.0 (omega (arith, low))) in
        let full = fits (e.0 + 1) b es (omega (arith, within.0.1)) parts.1 (later a b e.0 es parts.0 within.1) in
        let few : suc (length es) < suc n = omega (arith, full, low, is) in
        ap (λ t. t && list_all (is_there (e ∷ es)) (range_with_len (a + 1) n)) none ∙ sym (lacking (suc (length es)) (suc n) few)
      where
        lacking : (m k : ℕ) → m < k → nat_eq m k ≡ false
        lacking m k h = grind (arith, nat_tests)
    go more (inr high) =
        let parts = both (entries.below_all nat_cmp e.0 es) (entries.is_sorted nat_cmp es) sorted in
        let same : e.0 ≡ a = omega (arith, high, within.0.0) in
        let here : is_there (e ∷ es) a ≡ true = ap (λ k. is_some (cond (is_eq (nat_cmp a k)) (Some e.1) (entries.find nat_cmp a es))) same
        ∙ ap (λ t. is_some (cond t (Some e.1) (entries.find nat_cmp a es))) (ap is_eq (tied_itself nat_cmp_total a)) in
        let rest = more (subst (λ k. AreFrom (k + 1) b es) same (later a b e.0 es parts.0 within.1)) in
        ap (λ t. t && list_all (is_there (e ∷ es)) (range_with_len (a + 1) n)) here ∙ skipped e es (a + 1) n (omega (arith, same)) ∙ rest ∙ one_less (length es) n

-- so an upload is complete where its segments are as many as its count
pub complete_is : (it : Upload) (u : ℕ) → HasSegmentsWithin it → nat_eq (length (segment_rows_of u it)) it.count ≡ is_complete it
complete_is it u within =
    let es = finmap.entries it.segments in
    let sorted = finmap.entries_sorted it.segments in
    let all = all_found (λ k _. (1 ≤ k) × (k < 1 + it.count)) es sorted (λ k x h. let w = within k x (finmap.get-entries it.segments k ∙ h) in (w.0, omega (arith, w.1))) in
    ap (λ n. nat_eq n it.count) (length-map es (λ e. segment_row u e.0 (length e.1)))
    ∙ sym (looked (range_with_len 1 it.count) ∙ counted 1 it.count (1 + it.count) es refl sorted all)
  where
    looked : (ks : List ℕ) → list_all (has_segment it) ks ≡ list_all (is_there (finmap.entries it.segments)) ks
    looked [] = refl
    looked (k ∷ ks) = ap (λ x. is_some x && list_all (has_segment it) ks) (finmap.get-entries it.segments k) ∙ ap (λ b. is_there (finmap.entries it.segments) k && b) (looked ks)

-- and so by its rows
pub counted_whole : (t : Tables) (s : State) → TablesAre t s → (u count : ℕ) (it : Upload) → finmap.get s.uploads u ≡ Some it → count ≡ it.count → HasSegmentsWithin it
    → (rows : List SegmentRow) → AreSegmentRowsOf u t rows → nat_eq (length rows) count ≡ is_complete it
counted_whole t s are u count it there same within rows h =
    let read = segments_read t s are u rows h ∙ ap (λ m. map (λ e. segment_row u e.0 (length e.1)) (finmap.entries m)) (segments_there s.uploads u it there) in
    (λ i. nat_eq (length (read i)) (same i)) ∙ complete_is it u within
