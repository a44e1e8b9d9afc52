-- A segment of which there is no row was not received.
use Rattle.std.proofs.Common.{◌≡◌, ◌≢◌, ℕ, pos, Bool, true, false, List, [], ◌∷◌, length, map, filter, None, refl, ap, subst, ◌∙◌, is_eq, nat_cmp}
use Rattle.std.specs.List.{list_any, flat_map}
use Rattle.std.specs.List.Sorted.{IsPermutation}
use Rattle.std.specs.FinMap as finmap
use Rattle.std.specs.FinMap.Entries.{find}
use Rattle.sqlite_value.specs.Order.{Row, value_cmp}
use Rattle.sqlite_value.specs.declared.value.Value.TheVariants.{Int}
use Rattle.sqlite_trees.proofs.ListLemmas.{IsPermutation-filter}
use Rattle.dep_types.specs.State.{State}
use Rattle.dep_tables.specs.Rowids.{has_number}
use Rattle.dep_tables.specs.Edits.{LacksSegmentRow}
use Rattle.dep_tables.specs.Rows.{has_segment_key, segment_values, shown_segment}
use Rattle.dep_tables.specs.Tables.{Tables}
use Rattle.dep_tables.specs.declared.segments.SegmentRow.{SegmentRow}
use Rattle.dep_row_maps.specs.Stored.{is_row_of, segment_row, segment_rows}
use Rattle.dep_row_maps.specs.TablesAre.{TablesAre, segments_at}
use Rattle.dep_row_maps.proofs.Files.{number_itself}
use Rattle.dep_row_maps.proofs.Owners.{none_permutation}
use Rattle.dep_staging.proofs.Entries.{passed}

-- the upload's rows have the number where none has the key
none_shown : (row : SegmentRow) (rows : List Row) → list_any (has_segment_key row) rows ≡ false → filter (has_number 1 row.number) (map shown_segment (filter (is_row_of row.upload) rows)) ≡ []
none_shown row [] free = refl
none_shown row (r ∷ rows) free = go (is_row_of row.upload r) refl (has_number 2 row.number r) refl free (none_shown row rows)
  where
    go : (a : Bool) → is_row_of row.upload r ≡ a → (b : Bool) → has_number 2 row.number r ≡ b → list_any (has_segment_key row) (r ∷ rows) ≡ false
        → (list_any (has_segment_key row) rows ≡ false → filter (has_number 1 row.number) (map shown_segment (filter (is_row_of row.upload) rows)) ≡ [])
        → filter (has_number 1 row.number) (map shown_segment (filter (is_row_of row.upload) (r ∷ rows))) ≡ []
    go false is b of free more = simp is (more (rw is at free))
    go true is false of free more = simp (is, of) (more (rw (is, of) at free))
    go true is true of free more = absurd (let never = rw (is, of) at free in cc)

-- among the rows of entries stands one of each key
none_found : (u k : ℕ) (es : List (ℕ × List ℕ)) → filter (has_number 1 k) (flat_map (λ e. segment_values (segment_row u e.0 (length e.1)) ∷ []) es) ≡ [] → find nat_cmp k es ≡ None
none_found u k [] none = refl
none_found u k (e ∷ es) none = go (is_eq (value_cmp (Int (pos e.0)) (Int (pos k)))) refl none (none_found u k es)
  where
    go : (b : Bool) → is_eq (value_cmp (Int (pos e.0)) (Int (pos k))) ≡ b → filter (has_number 1 k) (flat_map (λ x. segment_values (segment_row u x.0 (length x.1)) ∷ []) (e ∷ es)) ≡ []
        → (filter (has_number 1 k) (flat_map (λ x. segment_values (segment_row u x.0 (length x.1)) ∷ []) es) ≡ [] → find nat_cmp k es ≡ None) → find nat_cmp k (e ∷ es) ≡ None
    go true is none more = absurd (let never = rw is at none in cc)
    go false is none more = passed k e.0 e.1 es apart ∙ more (rw is at none)
      where
        apart : k ≢ e.0
        apart same = let it : is_eq (value_cmp (Int (pos e.0)) (Int (pos k))) ≡ true = ap (λ n. is_eq (value_cmp (Int (pos e.0)) (Int (pos n)))) same ∙ number_itself e.0 in cc (it, is)

pub lacked : (t : Tables) (s : State) (row : SegmentRow) → TablesAre t s → LacksSegmentRow row t → finmap.get (segments_at s.uploads row.upload) row.number ≡ None
lacked t s row h free =
    let u = row.upload in
    let k = row.number in
    let has = segment_rows u (segments_at s.uploads u) in
    let none : IsPermutation [] (filter (has_number 1 k) has) =
    subst (λ rs. IsPermutation rs (filter (has_number 1 k) has)) (none_shown row t.segments free) (IsPermutation-filter (has_number 1 k) _ _ (h.common.segments.of_each u)) in
    finmap.get-entries (segments_at s.uploads u) k ∙ none_found u k (finmap.entries (segments_at s.uploads u)) (none_permutation none)
