-- What a look for uploads that were left alone tells of the state.
use Rattle.std.proofs.Common.{◌≡◌, ◌⊎◌, inl, inr, ℕ, pos, T, Bool, true, false, cond, List, [], ◌∷◌, take, filter, Option, None, Some, refl, sym, ap, subst, ◌∙◌, int_cmp, nat_cmp, is_eq, is_lt, arith}
use Rattle.std.specs.Prelude.{map as each, nat_lt}
use Rattle.std.specs.Option.{option_map_or}
use Rattle.std.proofs.lemmas.Bool.Decides.{nat_tests}
use Rattle.std.proofs.lemmas.Cmp.{nat_cmp_total, tied_itself}
use Rattle.std.proofs.lemmas.List.Sorted.{IsPermutation-sym}
use Rattle.std.specs.FinMap as finmap
use Rattle.std.specs.FinMap.Entries as entries
use Rattle.sqlite.specs.declared.types.Value.{Value}
use Rattle.sqlite.specs.declared.types.Value.TheVariants.{Int}
use Rattle.sqlite_value.specs.Order.{Row, column, value_cmp}
use Rattle.sqlite_value.proofs.OrderLemmas.{value_cmp-Int}
use Rattle.sqlite_rules.specs.Lists.{Has}
use Rattle.sqlite_rules.proofs.ListLemmas.{has_filtered, has_kept}
use Rattle.dep_types.specs.State.{Upload}
use Rattle.dep_tables.specs.Rowids.{is_below_number}
use Rattle.dep_tables.proofs.Members.{has_mapped, mapped_from, permuted_from}
use Rattle.dep_tables.specs.Rows.{left_values, shown_left}
use Rattle.dep_tables.specs.Edits.{IsLeftBefore}
use Rattle.dep_tables.specs.declared.uploads.LeftUpload.{LeftUpload}
use Rattle.dep_row_maps.specs.Stored.{upload_stored}
use Rattle.dep_row_maps.specs.Left.{was_left_before, ReportsLeft, LeftBeforeRead}
use Rattle.dep_row_maps.proofs.Files.{same_number}
use Rattle.dep_row_maps.proofs.Lens.{tied_not}
use Rattle.dep_row_maps.proofs.Blocks.{number_order}
use Rattle.dep_row_maps.proofs.Spreads.{both, less}

-- ---- entries of a map

abbrev Entry : Type 0
Entry = ℕ × Upload

passed : {X : Type 0} (q : ℕ) (e : ℕ × X) (es : List (ℕ × X)) → (q ≡ e.0 → ⊥) → entries.find nat_cmp q (e ∷ es) ≡ entries.find nat_cmp q es
passed q e es apart = ap (λ b. cond b (Some e.1) (entries.find nat_cmp q es)) (tied_not q e.0 apart)

below_has : {X : Type 0} (x : ℕ) (es : List (ℕ × X)) (e : ℕ × X) → T (entries.below_all nat_cmp x es) → Has es e → (x ≡ e.0 → ⊥)
below_has x [] e h there = absurd there
below_has x (y ∷ es) e h (inl same) = λ tie.
    let parts = both (is_lt (nat_cmp x y.0)) (entries.below_all nat_cmp x es) h in
    let order = number_order x y.0 (less (nat_cmp x y.0) parts.0) in
    let also : e.0 ≡ y.0 = ap (λ p. p.0) same in
    omega (arith, order, tie, also)
below_has x (y ∷ es) e h (inr later) = below_has x es e (both (is_lt (nat_cmp x y.0)) (entries.below_all nat_cmp x es) h).1 later

-- an entry is found
pub entry_found : {X : Type 0} (es : List (ℕ × X)) → T (entries.is_sorted nat_cmp es) → (e : ℕ × X) → Has es e → entries.find nat_cmp e.0 es ≡ Some e.1
entry_found [] sorted e there = absurd there
entry_found (x ∷ es) sorted e (inl same) =
    subst (λ y. entries.find nat_cmp y.0 (x ∷ es) ≡ Some y.1) (sym same) (ap (λ b. cond b (Some x.1) (entries.find nat_cmp x.0 es)) (ap is_eq (tied_itself nat_cmp_total x.0)))
entry_found (x ∷ es) sorted e (inr later) =
    let parts = both (entries.below_all nat_cmp x.0 es) (entries.is_sorted nat_cmp es) sorted in
    passed e.0 x es (λ tie. below_has x.0 es e parts.0 later (sym tie)) ∙ entry_found es parts.1 e later

-- what is found is an entry
found_entry : (es : List Entry) (q : ℕ) (it : Upload) → entries.find nat_cmp q es ≡ Some it → Has es (q, it)
found_entry [] q it h = absurd (cc)
found_entry (x ∷ es) q it h = go (same_number q x.0) (found_entry es q it)
  where
    go : (q ≡ x.0) ⊎ (q ≡ x.0 → ⊥) → (entries.find nat_cmp q es ≡ Some it → Has es (q, it)) → Has (x ∷ es) (q, it)
    go (inl same) more =
        let here : entries.find nat_cmp q (x ∷ es) ≡ Some x.1 = ap (λ b. cond b (Some x.1) (entries.find nat_cmp q es)) (ap (λ n. is_eq (nat_cmp n x.0)) same ∙ ap is_eq (tied_itself nat_cmp_total x.0)) in
        let value : it ≡ x.1 = (let two = sym h ∙ here in cc) in
        inl (λ i. (same i, value i))
    go (inr apart) more = inr (more (sym (passed q x es apart) ∙ h))

-- ---- rows

below_is : (m n : ℕ) → is_lt (value_cmp (Int (pos m)) (Int (pos n))) ≡ nat_lt m n
below_is m n = ap is_lt (value_cmp-Int (pos m) (pos n)) ∙ numbers m n
  where
    numbers : (m n : ℕ) → is_lt (int_cmp (pos m) (pos n)) ≡ nat_lt m n
    numbers m n = grind (arith, nat_tests)

one_number : (m n : ℕ) → ◌≡◌ {A = Value} (Int (pos m)) (Int (pos n)) → m ≡ n
one_number m n e = cc

row_below : (moment : ℕ) (e : Entry) → is_below_number 6 moment (upload_stored e.0 e.1) ≡ nat_lt e.1.last moment
row_below moment e = below_is e.1.last moment

of_some : {A : Type 0} (o : Option A) (x : A) (p : A → Bool) → o ≡ Some x → p x ≡ true → option_map_or p o false ≡ true
of_some o x p is passes = ap (λ y. option_map_or p y false) is ∙ passes

pub none_taken : (xs : List Row) → [] ≡ take 1 xs → xs ≡ []
none_taken [] e = refl
none_taken (x ∷ xs) e = absurd (cc)

one_taken : (row : Row) (xs : List Row) → row ∷ [] ≡ take 1 xs → Has xs row
one_taken row [] e = absurd (cc)
one_taken row (x ∷ xs) e = let same : row ≡ x = cc in inl same

pub left_before_read : LeftBeforeRead
left_before_read t s h moment found read = go found read
  where
    go : (found : Option LeftUpload) → IsLeftBefore moment t found → ReportsLeft moment s.uploads found
    go None first = λ u. none_at u (finmap.get s.uploads u) refl
      where
        empty : first.0 ≡ []
        empty = none_taken first.0 first.2

        none_at : (u : ℕ) (o : Option Upload) → finmap.get s.uploads u ≡ o → was_left_before moment s.uploads u ≡ false
        none_at u None is = ap (λ o. option_map_or (λ (it : Upload). nat_lt it.last moment) o false) is
        none_at u (Some it) is = decide (nat_lt it.last moment) refl
          where
            there : Has (finmap.entries s.uploads) (u, it)
            there = found_entry (finmap.entries s.uploads) u it (sym (finmap.get-entries s.uploads u) ∙ is)

            row_there : Has t.uploads (upload_stored u it)
            row_there = subst (λ (rows : List Row). Has rows (upload_stored u it)) (sym h.common.uploads) (has_mapped (λ (e : Entry). upload_stored e.0 e.1) (finmap.entries s.uploads) (u, it) there)

            decide : (b : Bool) → nat_lt it.last moment ≡ b → was_left_before moment s.uploads u ≡ false
            decide false later = ap (λ o. option_map_or (λ (up : Upload). nat_lt up.last moment) o false) is ∙ later
            decide true before = absurd (
                let kept = has_kept (is_below_number 6 moment) t.uploads (upload_stored u it) row_there (row_below moment (u, it) ∙ before) in
                let seen = has_mapped shown_left (filter (is_below_number 6 moment) t.uploads) (upload_stored u it) kept in
                let listed = permuted_from first.0 (each shown_left (filter (is_below_number 6 moment) t.uploads)) (shown_left (upload_stored u it)) (IsPermutation-sym (each shown_left (filter (is_below_number 6 moment) t.uploads)) first.0 first.1.same) seen in
                subst (λ (rows : List Row). Has rows (shown_left (upload_stored u it))) empty listed)
    go (Some l) first =
        let listed = one_taken (left_values l) first.0 first.2 in
        let seen = permuted_from (each shown_left (filter (is_below_number 6 moment) t.uploads)) first.0 (left_values l) first.1.same listed in
        let from = mapped_from shown_left (filter (is_below_number 6 moment) t.uploads) (left_values l) seen in
        let kept = has_filtered (is_below_number 6 moment) t.uploads from.0 from.1 in
        let entry = mapped_from (λ (e : Entry). upload_stored e.0 e.1) (finmap.entries s.uploads) from.0 (subst (λ (rows : List Row). Has rows from.0) h.common.uploads kept.0) in
        let number : l.upload ≡ entry.0.0 = one_number l.upload entry.0.0 (ap (λ (r : Row). column r 0) from.2 ∙ ap (λ (r : Row). column r 0) entry.2) in
        let there : finmap.get s.uploads l.upload ≡ Some entry.0.1 = ap (finmap.get s.uploads) number ∙ finmap.get-entries s.uploads entry.0.0 ∙ entry_found (finmap.entries s.uploads) (finmap.entries_sorted s.uploads) entry.0 entry.1 in
        of_some (finmap.get s.uploads l.upload) entry.0.1 (λ it. nat_lt it.last moment) there (sym (row_below moment entry.0) ∙ ap (is_below_number 6 moment) (sym entry.2) ∙ kept.1)
