-- Pages of an object's texts, in the order of their names and places.
use Rattle.std.proofs.Common.{◌≡◌, ◌⊎◌, inl, inr, ℕ, suc, pos, ◌+◌, ◌-◌, ◌<◌, ◌≤◌, Bool, true, false, not, ◌&&◌, List, [], ◌∷◌, ◌++◌, length, map, filter, fold, take, drop, Option, Some, refl, sym, ap, subst, ◌∙◌, Ordering, Less, Equal, Greater, is_eq, is_ge, is_gt, is_lt, nat_cmp, int_cmp, append_assoc, arith}
use Rattle.std.specs.Prelude.{option_map}
use Rattle.std.specs.List.{AllByRecursion, flat_map, slice_get}
use Rattle.std.specs.Ordering.{ordering_reverse, ordering_then}
use Rattle.std.specs.Cmp.Lexicographic.{slice_cmp}
use Rattle.std.specs.FinMap as finmap
use Rattle.std.proofs.lemmas.Bool.{cases_lt}
use Rattle.std.proofs.lemmas.Bool.Decides.{nat_tests}
use Rattle.std.proofs.lemmas.Cmp.{tied_itself}
use Rattle.std.proofs.lemmas.List.{length-map, length-take-le, map-append, take-append-drop, take_all}
use Rattle.std.proofs.lemmas.List.Elements.{filter-append}
use Rattle.std.proofs.lemmas.List.Sums.{fold-append}
use Rattle.sqlite.specs.declared.types.Value.{Value}
use Rattle.sqlite.specs.declared.types.Value.TheVariants.{Int, Text}
use Rattle.sqlite_value.specs.Order.{Row, column, value_cmp}
use Rattle.sqlite_value.proofs.OrderLemmas.{value_cmp_total, value_cmp-Int, value_cmp-Text}
use Rattle.sqlite_trees.specs.Tree.{IsAscending}
use Rattle.sqlite_trees.proofs.ListLemmas.{all-append, filter_none}
use Rattle.dep_types.specs.State.{Texts}
use Rattle.dep_tables.specs.Edits.{page_size}
use Rattle.dep_tables.specs.Rowids.{has_number}
use Rattle.dep_tables.specs.Rows.{by_name_and_place, is_text_from, is_text_from_name, metadata_values, shown_metadata}
use Rattle.dep_tables.proofs.Tests.{behind_name}
use Rattle.dep_tables.specs.declared.metadata.MetadataRow.{MetadataRow}
use Rattle.dep_row_maps.specs.Stored.{grouped, is_row_of, listed, metadata_rows, pair_seen, text_rows, text_values, with_added_text}
use Rattle.dep_row_maps.specs.ReadLaws.{pair_of}
use Rattle.dep_row_maps.proofs.Blocks.{number_below}
use Rattle.dep_row_maps.proofs.Metadata.{Below, by_name_total, metadata-pairs, metadata_rises}
use Rattle.dep_row_maps.proofs.Readings.{pairs_shown}
use Rattle.dep_row_maps.proofs.Spreads.{all_placed}
use Rattle.dep_objects.specs.Ahead.{is_before, key_after, rows_before}
use Rattle.dep_objects.specs.declared.ahead.TextKey.{TextKey}

-- ---- lists that rise

back : (a b : Value) (o : Ordering) → value_cmp a b ≡ o → value_cmp b a ≡ ordering_reverse o
back a b o is = value_cmp_total.antisymm b a ∙ ap ordering_reverse is

-- a test that holds before a row where it holds at it splits what rises
module _ (q : Row → Bool) (down : (a b : Row) → Below a b → q b ≡ true → q a ≡ true) where
  none_later : (x : Row) → q x ≡ false → (rows : List Row) → AllByRecursion (Below x) rows → AllByRecursion (λ r. q r ≡ false) rows
  none_later x not_here [] up = tt
  none_later x not_here (r ∷ rows) up = (go (q r) refl, none_later x not_here rows up.1)
    where
      go : (b : Bool) → q r ≡ b → q r ≡ false
      go false is = is
      go true is = absurd (let both = sym (down x r up.0 is) ∙ not_here in cc both)

  split : (rows : List Row) → IsAscending Below rows → rows ≡ filter q rows ++ filter (λ r. not (q r)) rows
  split [] up = refl
  split (x ∷ rows) up = go (q x) refl (split rows up.1)
    where
      go : (b : Bool) → q x ≡ b → rows ≡ filter q rows ++ filter (λ r. not (q r)) rows → x ∷ rows ≡ filter q (x ∷ rows) ++ filter (λ r. not (q r)) (x ∷ rows)
      go true is more = rw is (ap (λ rs. x ∷ rs) more)
      go false is more =
          let none = filter_none q rows (none_later x is rows up.0) in
          rw (is, none) (ap (λ rs. x ∷ rs) (more ∙ ap (λ rs. rs ++ filter (λ r. not (q r)) rows) none))

-- a test of what passes another
filter_twice : (p q s : Row → Bool) → ((r : Row) → s r ≡ (q r && p r)) → (rows : List Row) → filter p (filter q rows) ≡ filter s rows
filter_twice p q s both [] = refl
filter_twice p q s both (r ∷ rows) = go (q r) refl (p r) refl (filter_twice p q s both rows)
  where
    go : (a : Bool) → q r ≡ a → (b : Bool) → p r ≡ b → filter p (filter q rows) ≡ filter s rows → filter p (filter q (r ∷ rows)) ≡ filter s (r ∷ rows)
    go false is b passes more = rw (both r, is) more
    go true is false passes more = rw (both r, is, passes) more
    go true is true passes more = rw (both r, is, passes) (ap (λ rs. r ∷ rs) more)

-- ---- what is left from a key on

-- of the key's name, at its place or behind it, as it is shown
abbrev pub seen_from : TextKey → Row → Bool
seen_from key seen = is_eq (value_cmp (column seen 1) (Text key.name)) && is_ge (value_cmp (column seen 2) (Int (pos key.place)))

-- of a name above the key's
abbrev pub seen_above : TextKey → Row → Bool
seen_above key seen = is_gt (value_cmp (column seen 1) (Text key.name))

pub tests_from : (n : ℕ) (key : TextKey) (r : Row) → is_text_from n key.name key.place r ≡ (is_row_of n r && seen_from key (shown_metadata r))
tests_from n key r = go (has_number 1 n r)
  where
    go : (b : Bool) → ((b && is_eq (value_cmp (column r 2) (Text key.name))) && is_ge (value_cmp (column r 3) (Int (pos key.place)))) ≡ (b && seen_from key (shown_metadata r))
    go true = refl
    go false = refl

-- the names above the key's are those from the first one behind it on
pub tests_behind : (n : ℕ) (key : TextKey) (behind : List ℕ) → behind ≡ key.name ++ 0 ∷ [] → (r : Row) → is_text_from_name n behind r ≡ (is_row_of n r && seen_above key (shown_metadata r))
tests_behind n key behind is r = ap (λ b. has_number 1 n r && b) (ap (λ t. is_ge (value_cmp (column r 2) (Text t))) is ∙ behind_name (column r 2) key.name)

module _ (key : TextKey) where
  before_down : (a b : Row) → Below a b → is_before key b ≡ true → is_before key a ≡ true
  before_down a b lower = go (by_name_and_place b (text_values 0 key.name key.place [])) refl
    where
      go : (o : Ordering) → by_name_and_place b (text_values 0 key.name key.place []) ≡ o → is_lt o ≡ true → is_before key a ≡ true
      go Less is e = ap is_lt (by_name_total.trans a b (text_values 0 key.name key.place []) lower is)
      go Equal is e = absurd (cc e)
      go Greater is e = absurd (cc e)

  above_down : (a b : Row) → Below a b → not (seen_above key b) ≡ true → not (seen_above key a) ≡ true
  above_down a b lower = go (value_cmp (column a 1) (column b 1)) refl (value_cmp (column a 1) (Text key.name)) refl lower
    where
      go : (o : Ordering) → value_cmp (column a 1) (column b 1) ≡ o → (at : Ordering) → value_cmp (column a 1) (Text key.name) ≡ at → ordering_then (value_cmp (column a 1) (column b 1)) (value_cmp (column a 2) (column b 2)) ≡ Less
          → not (seen_above key b) ≡ true → not (seen_above key a) ≡ true
      go o is Less at lower e = ap (λ x. not (is_gt x)) at
      go o is Equal at lower e = ap (λ x. not (is_gt x)) at
      go Less is Greater at lower e =
          let over = back (Text key.name) (column b 1) Less (value_cmp_total.trans (Text key.name) (column a 1) (column b 1) (back (column a 1) (Text key.name) Greater at) is) in
          absurd (let no = sym (ap (λ x. not (is_gt x)) over) ∙ e in cc no)
      go Equal is Greater at lower e =
          let over = sym (value_cmp_total.congr (column a 1) (column b 1) (Text key.name) is) ∙ at in
          absurd (let no = sym (ap (λ x. not (is_gt x)) over) ∙ e in cc no)
      go Greater is Greater at lower e = absurd (let no = sym (ap (λ x. ordering_then x (value_cmp (column a 2) (column b 2))) is) ∙ lower in cc no)

  from_apart : (a b : Ordering) → (is_eq a && is_ge b) ≡ (not (is_gt a) && not (is_lt (ordering_then a b)))
  from_apart Less b = refl
  from_apart Equal Less = refl
  from_apart Equal Equal = refl
  from_apart Equal Greater = refl
  from_apart Greater b = refl

  above_apart : (a b : Ordering) → is_gt a ≡ (not (not (is_gt a)) && not (is_lt (ordering_then a b)))
  above_apart Less b = refl
  above_apart Equal b = refl
  above_apart Greater b = refl

  -- the texts of the key's name come first, and then those of the names above it
  left_split : (rows : List Row) → IsAscending Below rows → filter (λ r. not (is_before key r)) rows ≡ filter (seen_from key) rows ++ filter (seen_above key) rows
  left_split rows up =
      let low : Row → Bool = λ r. not (seen_above key r) in
      let high : Row → Bool = λ r. not (not (seen_above key r)) in
      let left : Row → Bool = λ r. not (is_before key r) in
      ap (filter left) (split low above_down rows up) ∙ filter-append left (filter low rows) (filter high rows)
      ∙ ap (λ rs. rs ++ filter left (filter high rows)) (filter_twice left low (seen_from key) (λ r. from_apart (value_cmp (column r 1) (Text key.name)) (value_cmp (column r 2) (Int (pos key.place)))) rows)
      ∙ ap (λ rs. filter (seen_from key) rows ++ rs) (filter_twice left high (seen_above key) (λ r. above_apart (value_cmp (column r 1) (Text key.name)) (value_cmp (column r 2) (Int (pos key.place)))) rows)

  pub parted : (rows : List Row) → IsAscending Below rows → rows ≡ filter (is_before key) rows ++ (filter (seen_from key) rows ++ filter (seen_above key) rows)
  parted rows up = split (is_before key) before_down rows up ∙ ap (λ rs. filter (is_before key) rows ++ rs) (left_split rows up)

-- ---- behind a row

-- the row's place is a number
abbrev IsPlaced : Row → Type 0
IsPlaced row = (k : ℕ) × (column row 2 ≡ Int (pos k))

all_rows_placed : (n : ℕ) (m : Texts) → AllByRecursion IsPlaced (metadata_rows n m)
all_rows_placed n m = go (finmap.entries m)
  where
    go : (es : List (List ℕ × List (List ℕ))) → AllByRecursion IsPlaced (flat_map (λ e. text_rows n e.0 e.1) es)
    go [] = tt
    go (e ∷ es) = all-append IsPlaced (text_rows n e.0 e.1) (flat_map (λ x. text_rows n x.0 x.1) es) (all_placed IsPlaced (text_values n e.0) 0 e.1 (λ i t _. (i, refl))) (go es)

all_at : (P : Row → Type 0) (xs : List Row) (l : Row) (ys : List Row) → AllByRecursion P (xs ++ l ∷ ys) → P l × AllByRecursion P ys
all_at P [] l ys all = all
all_at P (x ∷ xs) l ys all = all_at P xs l ys all.1

not_below : (p k : ℕ) → int_cmp (pos p) (pos k) ≡ Less → is_lt (int_cmp (pos k) (pos (p + 1))) ≡ false
not_below p k lower = grind (arith, nat_tests, lower)

module _ (row : MetadataRow) where
  abbrev at_row : Row
  at_row = metadata_values row

  abbrev next : TextKey
  next = key_after row

  itself_before : is_before next at_row ≡ true
  itself_before = ap (λ o. is_lt (ordering_then o (value_cmp (Int (pos row.place)) (Int (pos (row.place + 1)))))) (tied_itself value_cmp_total (Text row.name)) ∙ ap is_lt (number_below row.place (row.place + 1) (omega arith))

  earlier_before : (r : Row) → Below r at_row → is_before next r ≡ true
  earlier_before r lower = before_down next r at_row lower itself_before

  later_behind : (r : Row) → IsPlaced r → Below at_row r → is_before next r ≡ false
  later_behind r (k, is_k) lower = go (value_cmp (Text row.name) (column r 1)) refl lower
    where
      here : value_cmp (Int (pos row.place)) (column r 2) ≡ Less → is_lt (value_cmp (column r 2) (Int (pos (row.place + 1)))) ≡ false
      here lower =
          ap (λ v. is_lt (value_cmp v (Int (pos (row.place + 1))))) is_k ∙ ap is_lt (value_cmp-Int (pos k) (pos (row.place + 1)))
          ∙ not_below row.place k (sym (value_cmp-Int (pos row.place) (pos k)) ∙ ap (value_cmp (Int (pos row.place))) (sym is_k) ∙ lower)

      go : (o : Ordering) → value_cmp (Text row.name) (column r 1) ≡ o → ordering_then (value_cmp (Text row.name) (column r 1)) (value_cmp (Int (pos row.place)) (column r 2)) ≡ Less → is_before next r ≡ false
      go Less is lower = ap (λ o. is_lt (ordering_then o (value_cmp (column r 2) (Int (pos (row.place + 1)))))) (back (Text row.name) (column r 1) Less is)
      go Equal is lower =
          ap (λ o. is_lt (ordering_then o (value_cmp (column r 2) (Int (pos (row.place + 1)))))) (back (Text row.name) (column r 1) Equal is)
          ∙ here (sym (ap (λ o. ordering_then o (value_cmp (Int (pos row.place)) (column r 2))) is) ∙ lower)
      go Greater is lower = absurd (let no = sym (ap (λ o. ordering_then o (value_cmp (Int (pos row.place)) (column r 2))) is) ∙ lower in cc no)

  all_behind : (rows : List Row) → AllByRecursion IsPlaced rows → AllByRecursion (Below at_row) rows → AllByRecursion (λ r. is_before next r ≡ false) rows
  all_behind [] placed up = tt
  all_behind (r ∷ rows) placed up = (later_behind r placed.0 up.0, all_behind rows placed.1 up.1)

  -- before the next place of a row's name stand the rows as far as it
  cut : (xs ys : List Row) → IsAscending Below (xs ++ at_row ∷ ys) → AllByRecursion IsPlaced (xs ++ at_row ∷ ys) → filter (is_before next) (xs ++ at_row ∷ ys) ≡ xs ++ at_row ∷ []
  cut [] ys up placed = let none = filter_none (is_before next) ys (all_behind ys placed.1 up.0) in rw (itself_before, none) refl
  cut (x ∷ xs) ys up placed = let here = earlier_before x (all_at (Below x) xs at_row ys up.0).0 in rw here (ap (λ rs. x ∷ rs) (cut xs ys up.1 placed.1))

-- a list that is not empty ends in its last element
ends : (rows : List MetadataRow) → 0 < length rows → (first : List MetadataRow) × (last : MetadataRow) × (rows ≡ first ++ last ∷ []) × (slice_get rows (length rows - 1) ≡ Some last)
ends [] some = absurd (omega (arith, some))
ends (r ∷ []) some = ([], r, refl, refl)
ends (r ∷ s ∷ rows) some =
    let more = ends (s ∷ rows) (omega arith) in
    let longer : suc (suc (length rows)) - 1 ≡ suc (length rows) = omega arith in
    let shorter : suc (length rows) - 1 ≡ length rows = omega arith in
    (r ∷ more.0, more.1, ap (λ rs. r ∷ rs) more.2, ap (slice_get (r ∷ s ∷ rows)) longer ∙ ap (slice_get (s ∷ rows)) (sym shorter) ∙ more.3)

-- of rows that rise, those before the key behind a page of them are those as far as it
module _ (n : ℕ) (m : Texts) where
  abbrev all : List Row
  all = metadata_rows n m

  pub behind_page : (gone : List Row) (rows : List MetadataRow) (rest : List Row) → 0 < length rows → all ≡ gone ++ (map metadata_values rows ++ rest) → (onward : Option TextKey)
      → onward ≡ option_map key_after (slice_get rows (length rows - 1)) → rows_before onward all ≡ gone ++ map metadata_values rows
  behind_page gone rows rest some is onward key =
      let end = ends rows some in
      let before = gone ++ map metadata_values end.0 in
      let last = metadata_values end.1 in
      let shown : map metadata_values rows ≡ map metadata_values end.0 ++ last ∷ [] = ap (map metadata_values) end.2 ∙ map-append metadata_values end.0 (end.1 ∷ []) in
      let up_to : gone ++ map metadata_values rows ≡ before ++ last ∷ [] = ap (λ rs. gone ++ rs) shown ∙ sym (append_assoc gone (map metadata_values end.0) (last ∷ [])) in
      let whole : all ≡ before ++ last ∷ rest =
      is ∙ sym (append_assoc gone (map metadata_values rows) rest) ∙ ap (λ rs. rs ++ rest) up_to ∙ append_assoc before (last ∷ []) rest in
      ap (λ k. rows_before k all) (key ∙ ap (option_map key_after) end.3) ∙ ap (filter (is_before (key_after end.1))) whole
      ∙ cut end.1 before rest (subst (IsAscending Below) whole (metadata_rises n m)) (subst (AllByRecursion IsPlaced) whole (all_rows_placed n m)) ∙ sym up_to

  module _ (from : TextKey) (rows : List MetadataRow) where
    -- a page of the key's name
    pub named_page : map metadata_values rows ≡ take page_size (filter (seen_from from) all) → 0 < length rows → (onward : Option TextKey) → onward ≡ option_map key_after (slice_get rows (length rows - 1))
        → rows_before onward all ≡ rows_before (Some from) all ++ map metadata_values rows
    named_page is some onward key =
        let its = filter (seen_from from) all in
        let above = filter (seen_above from) all in
        let split : its ≡ map metadata_values rows ++ drop page_size its = sym (take-append-drop page_size its) ∙ ap (λ rs. rs ++ drop page_size its) (sym is) in
        behind_page (filter (is_before from) all) rows (drop page_size its ++ above) some
        (parted from all (metadata_rises n m) ∙ ap (λ rs. filter (is_before from) all ++ rs) (ap (λ rs. rs ++ above) split ∙ append_assoc (map metadata_values rows) (drop page_size its) above)) onward key

    -- where none of the key's name is left
    module _ (none : [] ≡ take page_size (filter (seen_from from) all)) (is : map metadata_values rows ≡ take page_size (filter (seen_above from) all)) where
      nothing : (xs : List Row) → [] ≡ take page_size xs → xs ≡ []
      nothing [] e = refl
      nothing (x ∷ xs) e = absurd (cc e)

      left : all ≡ filter (is_before from) all ++ filter (seen_above from) all
      left = parted from all (metadata_rises n m) ∙ ap (λ rs. filter (is_before from) all ++ (rs ++ filter (seen_above from) all)) (nothing (filter (seen_from from) all) none)

      pub above_page : 0 < length rows → (onward : Option TextKey) → onward ≡ option_map key_after (slice_get rows (length rows - 1)) → rows_before onward all ≡ rows_before (Some from) all ++ map metadata_values rows
      above_page some onward key =
          let above = filter (seen_above from) all in
          let split : above ≡ map metadata_values rows ++ drop page_size above = sym (take-append-drop page_size above) ∙ ap (λ rs. rs ++ drop page_size above) (sym is) in
          behind_page (filter (is_before from) all) rows (drop page_size above) some (left ∙ ap (λ rs. filter (is_before from) all ++ rs) split) onward key

      pub last_page : length rows < page_size → all ≡ rows_before (Some from) all ++ map metadata_values rows
      last_page few = left ∙ ap (λ rs. filter (is_before from) all ++ rs) (sym (is ∙ short (filter (seen_above from) all) is))
        where
          short : (xs : List Row) → map metadata_values rows ≡ take page_size xs → take page_size xs ≡ xs
          short xs e = go (cases_lt (length xs) page_size)
            where
              counted : length (take page_size xs) ≡ length rows
              counted = ap length (sym e) ∙ length-map rows metadata_values

              go : (length xs < page_size) ⊎ (page_size ≤ length xs) → take page_size xs ≡ xs
              go (inl fits) = take_all page_size xs (omega (arith, fits))
              go (inr full) = absurd (omega (arith, few, counted, length-take-le page_size xs full))

  -- ---- what is gathered

  pub page_gathered : (gone : List Row) (rows : List MetadataRow) → fold with_added_text (grouped (map pair_seen gone)) (map pair_of rows) ≡ grouped (map pair_seen (gone ++ map metadata_values rows))
  page_gathered gone rows =
      ap (fold with_added_text (grouped (map pair_seen gone))) (pairs_shown rows) ∙ sym (fold-append with_added_text finmap.empty (map pair_seen gone) (map pair_seen (map metadata_values rows)))
      ∙ ap grouped (sym (map-append pair_seen gone (map metadata_values rows)))

  pub all_gathered : grouped (map pair_seen all) ≡ grouped (listed m)
  all_gathered = ap grouped (metadata-pairs n m)

-- ---- before any is read

neither : (a b : Ordering) → is_lt a ≡ false → is_lt b ≡ false → is_lt (ordering_then a b) ≡ false
neither Less b not_a not_b = not_a
neither Equal b not_a not_b = not_b
neither Greater b not_a not_b = not_a

no_less : (name : List ℕ) → is_lt (slice_cmp nat_cmp name []) ≡ false
no_less [] = refl
no_less (b ∷ name) = refl

zero_least : (k : ℕ) → is_lt (int_cmp (pos k) (pos 0)) ≡ false
zero_least k = grind (arith, nat_tests)

abbrev first : List ℕ → TextKey
first name = record { name = name; place = 0 }

pub none_before : (n : ℕ) (m : Texts) (name : List ℕ) → name ≡ [] → rows_before (Some (first name)) (metadata_rows n m) ≡ []
none_before n m name is = filter_none (is_before (first name)) (metadata_rows n m) (go (finmap.entries m))
  where
    behind : (y : List ℕ) (k : ℕ) (t : List ℕ) → is_before (first name) (text_values n y k t) ≡ false
    behind y k t = neither (value_cmp (Text y) (Text name)) (value_cmp (Int (pos k)) (Int (pos 0)))
        (ap (λ x. is_lt (value_cmp (Text y) (Text x))) is ∙ ap is_lt (value_cmp-Text y []) ∙ no_less y) (ap is_lt (value_cmp-Int (pos k) (pos 0)) ∙ zero_least k)

    go : (es : List (List ℕ × List (List ℕ))) → AllByRecursion (λ r. is_before (first name) r ≡ false) (flat_map (λ e. text_rows n e.0 e.1) es)
    go [] = tt
    go (e ∷ es) = all-append (λ r. is_before (first name) r ≡ false) (text_rows n e.0 e.1) (flat_map (λ x. text_rows n x.0 x.1) es)
        (all_placed (λ r. is_before (first name) r ≡ false) (text_values n e.0) 0 e.1 (λ k t _. behind e.0 k t)) (go es)
