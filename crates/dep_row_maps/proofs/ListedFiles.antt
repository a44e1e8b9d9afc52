-- The rows of an object's files from a number on.
use Rattle.std.proofs.Common.{◌≡◌, ℕ, zero, suc, pos, ◌+◌, ◌<◌, Bool, true, false, T, List, [], ◌∷◌, take, drop, filter, Some, refl, sym, ap, ◌∙◌, nat_cmp, int_cmp, is_ge, is_lt, map-id, arith}
use Rattle.std.specs.Prelude.{map as each, nat_le}
use Rattle.std.specs.List.{slice_get}
use Rattle.std.specs.FinMap as finmap
use Rattle.std.specs.FinMap.Entries.{is_sorted, below_all}
use Rattle.std.proofs.lemmas.List.{take-map}
use Rattle.std.proofs.lemmas.Bool.Decides.{nat_tests}
use Rattle.sqlite.specs.declared.types.Value.TheVariants.{Int}
use Rattle.sqlite_value.specs.Order.{Row, value_cmp}
use Rattle.sqlite_value.proofs.OrderLemmas.{value_cmp-Int}
use Rattle.dep_types.specs.Maps.{Numbered}
use Rattle.dep_types.specs.State.{File}
use Rattle.dep_types.specs.Rows.{file_row}
use Rattle.dep_types.specs.declared.rows.FileRow.{FileRow}
use Rattle.dep_tables.specs.Rowids.{reaches_number}
use Rattle.dep_tables.specs.Rows.{shown_file, file_values}
use Rattle.dep_tables.specs.FileKeys.{is_file_from}
use Rattle.dep_tables.specs.Edits.{page_size}
use Rattle.dep_row_maps.specs.Stored.{file_stored, is_file_of}
use Rattle.dep_row_maps.specs.TablesAre.{files_at}
use Rattle.dep_row_maps.specs.ReadLaws.{file_rows, files_from, FilesRead, FilesPageRead}
use Rattle.dep_row_maps.proofs.Blocks.{number_order}
use Rattle.dep_row_maps.proofs.Readings.{all_read, file_same}
use Rattle.dep_row_maps.proofs.Spreads.{both, less}

-- ---- what is read

-- of the rows that have an object and a number, those of the object that reach it
picked : (n from : ℕ) (rows : List Row) → filter (is_file_from n from) rows ≡ filter (reaches_number 0 from) (filter (is_file_of n) rows)
picked n from [] = refl
picked n from (r ∷ rows) = go (is_file_of n r) refl (reaches_number 0 from r) refl (picked n from rows)
  where
    go : (a : Bool) → is_file_of n r ≡ a → (b : Bool) → reaches_number 0 from r ≡ b → filter (is_file_from n from) rows ≡ filter (reaches_number 0 from) (filter (is_file_of n) rows)
        → filter (is_file_from n from) (r ∷ rows) ≡ filter (reaches_number 0 from) (filter (is_file_of n) (r ∷ rows))
    go false is b reaches more = simp is more
    go true is false reaches more = simp (is, reaches) more
    go true is true reaches more = simp (is, reaches) (ap (λ rs. r ∷ rs) more)

reaches_is : (a b : ℕ) → is_ge (value_cmp (Int (pos a)) (Int (pos b))) ≡ nat_le b a
reaches_is a b = ap is_ge (value_cmp-Int (pos a) (pos b)) ∙ decided a b
  where
    decided : (a b : ℕ) → is_ge (int_cmp (pos a) (pos b)) ≡ nat_le b a
    decided a b = grind (arith, nat_tests)

-- what a query shows of the stored rows
shown_from : (n from : ℕ) (es : List (ℕ × File)) → each shown_file (filter (reaches_number 0 from) (each (λ e. file_stored n e.0 e.1) es)) ≡ each file_values (files_from from (each (λ e. file_row n e.0 e.1) es))
shown_from n from [] = refl
shown_from n from (e ∷ es) = go (nat_le from e.0) (reaches_is e.0 from) refl (shown_from n from es)
  where
    stored : List Row
    stored = each (λ x. file_stored n x.0 x.1) es

    rows : List FileRow
    rows = each (λ x. file_row n x.0 x.1) es

    go : (b : Bool) → reaches_number 0 from (file_stored n e.0 e.1) ≡ nat_le from e.0 → nat_le from e.0 ≡ b → each shown_file (filter (reaches_number 0 from) stored) ≡ each file_values (files_from from rows)
        → each shown_file (filter (reaches_number 0 from) (file_stored n e.0 e.1 ∷ stored)) ≡ each file_values (files_from from (file_row n e.0 e.1 ∷ rows))
    go false same is more = rw (same, is) more
    go true same is more = rw (same, is) (ap (λ rs. file_values (file_row n e.0 e.1) ∷ rs) more)

-- rows of the same values
same_rows : (found rows : List FileRow) → each file_values found ≡ each file_values rows → found ≡ rows
same_rows found rows e = all_read file_values file_same (λ r. r) found rows e ∙ map-id rows

pub files_read : FilesRead
files_read t s h n from found read =
    same_rows found (files_from from (file_rows n (files_at s.objects n)))
    (read ∙ ap (each shown_file) (picked n from t.files ∙ ap (filter (reaches_number 0 from)) (h.common.files.of_each n)) ∙ shown_from n from (finmap.entries (files_at s.objects n)))

pub files_page_read : FilesPageRead
files_page_read t s h n from found read =
    let its = files_from from (file_rows n (files_at s.objects n)) in
    same_rows found (take page_size its)
    (read ∙ ap (take page_size) (ap (each shown_file) (picked n from t.files ∙ ap (filter (reaches_number 0 from)) (h.common.files.of_each n)) ∙ shown_from n from (finmap.entries (files_at s.objects n)))
    ∙ take-map file_values page_size its)

-- ---- the rows from a number on

reached : (from k : ℕ) → from < k + 1 → nat_le from k ≡ true
reached from k h = grind (arith, nat_tests, h)

not_reached : (from k : ℕ) → k < from → nat_le from k ≡ false
not_reached from k h = grind (arith, nat_tests, h)

-- from 0 on they are all
pub files_from_none : (rows : List FileRow) → files_from 0 rows ≡ rows
files_from_none [] = refl
files_from_none (r ∷ rows) = rw (reached 0 r.file (omega arith)) (ap (λ rs. r ∷ rs) (files_from_none rows))

module _ (n : ℕ) where
  abbrev rows_of : List (ℕ × File) → List FileRow
  rows_of es = each (λ e. file_row n e.0 e.1) es

  all_above : (k : ℕ) (es : List (ℕ × File)) → T (below_all nat_cmp k es) → files_from (k + 1) (rows_of es) ≡ rows_of es
  all_above k [] up = refl
  all_above k (e ∷ es) up =
      let parts = both (is_lt (nat_cmp k e.0)) (below_all nat_cmp k es) up in
      let order : k < e.0 = number_order k e.0 (less (nat_cmp k e.0) parts.0) in
      rw (reached (k + 1) e.0 (omega (arith, order))) (ap (λ rs. file_row n e.0 e.1 ∷ rs) (all_above k es parts.1))

  one_above : (x : ℕ) (es : List (ℕ × File)) → T (below_all nat_cmp x es) → (k : ℕ) (row : FileRow) → slice_get (rows_of es) k ≡ Some row → x < row.file
  one_above x [] up k row there = absurd (cc)
  one_above x (e ∷ es) up zero row there =
      let it : file_row n e.0 e.1 ≡ row = cc in
      let same : e.0 ≡ row.file = ap (λ (r : FileRow). r.file) it in
      let order : x < e.0 = number_order x e.0 (less (nat_cmp x e.0) (both (is_lt (nat_cmp x e.0)) (below_all nat_cmp x es) up).0) in
      omega (arith, order, same)
  one_above x (e ∷ es) up (suc k) row there = one_above x es (both _ _ up).1 k row there

  behind : (es : List (ℕ × File)) → T (is_sorted nat_cmp es) → (k : ℕ) (row : FileRow) → slice_get (rows_of es) k ≡ Some row → files_from (row.file + 1) (rows_of es) ≡ drop (k + 1) (rows_of es)
  behind [] up k row there = absurd (cc)
  behind (e ∷ es) up zero row there =
      let it : file_row n e.0 e.1 ≡ row = cc in
      let same : row.file ≡ e.0 = sym (ap (λ (r : FileRow). r.file) it) in
      rw (not_reached (row.file + 1) e.0 (omega (arith, same))) (ap (λ k. files_from (k + 1) (rows_of es)) same ∙ all_above e.0 es (both _ _ up).0)
  behind (e ∷ es) up (suc k) row there =
      let order : e.0 < row.file = one_above e.0 es (both _ _ up).0 k row there in
      let next : suc k + 1 ≡ suc (k + 1) = omega arith in
      rw (not_reached (row.file + 1) e.0 (omega (arith, order))) (behind es (both _ _ up).1 k row there ∙ ap (λ i. drop i (file_row n e.0 e.1 ∷ rows_of es)) (sym next))

-- those behind one of them are those that follow it
pub files_behind : (n : ℕ) (files : Numbered File) (k : ℕ) (row : FileRow) → slice_get (file_rows n files) k ≡ Some row → files_from (row.file + 1) (file_rows n files) ≡ drop (k + 1) (file_rows n files)
files_behind n files k row there = behind n (finmap.entries files) (finmap.entries_sorted files) k row there
