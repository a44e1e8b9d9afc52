-- What is read from rows, by the rows of a table that the query shows.
use Rattle.std.proofs.Common.{◌≡◌, ◌≤◌, arith, take, length, ℕ, zero, suc, List, [], ◌∷◌, map, Ordering, Option, Some, None, is_some, refl, sym, ap, subst, ◌∙◌}
use Rattle.std.specs.Option.{option_to_list, option_map}
use Rattle.std.specs.List.Sorted.{IsPermutation}
use Rattle.std.proofs.lemmas.List.{length-map}
use Rattle.std.proofs.lemmas.List.Sorted.{IsPermutation-sym}
use Rattle.sqlite.specs.declared.types.Value.{Value}
use Rattle.sqlite.specs.Order.{Row}
use Rattle.sqlite_rules.specs.Lists.{Has}
use Rattle.sqlite_rules.proofs.ListLemmas.{all_from}
use Rattle.dep_tables.specs.Rowids.{columns_from, InOrder, AreFirst, IsFirst}
use Rattle.dep_tables.proofs.Sorted.{short_permutation}
use Rattle.dep_tables.proofs.Members.{map_same, mapped_from, permuted_from}

map_id : (rows : List Row) → map (λ r. r) rows ≡ rows
map_id [] = refl
map_id (r ∷ rows) = ap (λ xs. r ∷ xs) (map_id rows)

at_most : {R : Type 0} (found : Option R) → length (option_to_list found) ≤ 1
at_most None = omega arith
at_most (Some x) = omega arith

-- of what is stored: rows, or pairs of them
module _ {R S : Type 0} (values : R → Row) (width : ℕ) (see : S → Row) (whole : (r : S) → columns_from 0 width (see r) ≡ see r) where
  -- rows that are shown of stored ones, in any order, have no more columns
  pub no_wider : (stored : List S) (rows : List Row) → IsPermutation (map see stored) rows → map (columns_from 0 width) rows ≡ rows
  no_wider stored rows same = map_same (columns_from 0 width) (λ r. r) rows (all_from _ rows each) ∙ map_id rows
    where
      each : (row : Row) → Has rows row → columns_from 0 width row ≡ row
      each row there =
          let from = mapped_from see stored row (permuted_from (map see stored) rows row same there) in
          ap (columns_from 0 width) from.2 ∙ whole from.0 ∙ sym from.2

  -- rows in an order
  pub read_in_order : (cmp : Row → Row → Ordering) (stored : List S) (rows : List Row) (read : List R) → InOrder cmp (map see stored) rows → map values read ≡ map (columns_from 0 width) rows → InOrder cmp (map see stored) (map values read)
  read_in_order cmp stored rows read h is = subst (InOrder cmp (map see stored)) (sym (is ∙ no_wider stored rows h.same)) h

  each_whole : (stored : List S) → map (columns_from 0 width) (map see stored) ≡ map see stored
  each_whole [] = refl
  each_whole (r ∷ stored) = rw (whole r, each_whole stored) refl

  pub read_each : (stored : List S) (rows : List Row) (read : List R) → rows ≡ map see stored → map values read ≡ map (columns_from 0 width) rows → map values read ≡ map see stored
  read_each stored rows read shown is = is ∙ ap (map (columns_from 0 width)) shown ∙ each_whole stored

  -- at most one row
  pub read_one : (found : Option R) (there : Option S) (rows : List Row) → rows ≡ map see (option_to_list there) → map values (option_to_list found) ≡ map (columns_from 0 width) rows → option_map values found ≡ option_map see there
  read_one found there rows shown is = go found there (read_each (option_to_list there) rows (option_to_list found) shown is)
    where
      go : (found : Option R) (there : Option S) → map values (option_to_list found) ≡ map see (option_to_list there) → option_map values found ≡ option_map see there
      go None None e = refl
      go None (Some row) e = absurd (cc)
      go (Some r) None e = absurd (cc)
      go (Some r) (Some row) e = let same : values r ≡ see row = cc in ap Some same

-- the first of rows in an order
module _ {R : Type 0} (values : R → Row) (width : ℕ) (see : Row → Row) (whole : (r : Row) → columns_from 0 width (see r) ≡ see r) where
  taken : (count : ℕ) (all : List Row) → map (columns_from 0 width) all ≡ all → map (columns_from 0 width) (take count all) ≡ take count all
  taken zero [] is = refl
  taken zero (r ∷ all) is = refl
  taken (suc count) [] is = refl
  taken (suc count) (r ∷ all) is =
      let same : columns_from 0 width r ≡ r = cc in
      let more : map (columns_from 0 width) all ≡ all = cc in
      rw same (ap (λ xs. r ∷ xs) (taken count all more))

  pub read_page : (count : ℕ) (cmp : Row → Row → Ordering) (stored rows : List Row) (read : List R) → AreFirst count cmp (map see stored) rows → map values read ≡ map (columns_from 0 width) rows
      → AreFirst count cmp (map see stored) (map values read)
  read_page count cmp stored rows read h is =
      let first : map (columns_from 0 width) rows ≡ take count h.0 = ap (map (columns_from 0 width)) h.2 ∙ taken count h.0 (no_wider values width see whole stored h.0 h.1.same) in
      (h.0, h.1, is ∙ first)

  -- the first of rows that are shown as they are stored
  pub read_first_each : (count : ℕ) (stored rows : List Row) (read : List R) → rows ≡ take count (map see stored) → map values read ≡ map (columns_from 0 width) rows → map values read ≡ take count (map see stored)
  read_first_each count stored rows read shown is = is ∙ ap (map (columns_from 0 width)) shown ∙ taken count (map see stored) (each_whole values width see whole stored)

  pub read_first : (cmp : Row → Row → Ordering) (stored rows : List Row) (read : List R) → IsFirst cmp (map see stored) rows → map values read ≡ map (columns_from 0 width) rows → IsFirst cmp (map see stored) (map values read)
  read_first = read_page 1

-- of rows of one value
pub one_value : {R : Type 0} (value : R → Value) (see : Row → Value) (found : Option R) (there : Option Row) → option_map (λ r. value r ∷ []) found ≡ option_map (λ r. see r ∷ []) there → option_map value found ≡ option_map see there
one_value value see None None e = refl
one_value value see None (Some row) e = absurd (cc)
one_value value see (Some r) None e = absurd (cc)
one_value value see (Some r) (Some row) e = let same : value r ≡ see row = cc in ap Some same

-- both are there, or none
pub same_some : {R : Type 0} (f : R → Row) (g : Row → Row) (found : Option R) (there : Option Row) → option_map f found ≡ option_map g there → is_some found ≡ is_some there
same_some f g None None e = refl
same_some f g None (Some row) e = absurd (cc)
same_some f g (Some r) None e = absurd (cc)
same_some f g (Some r) (Some row) e = refl

-- at most one row of one value was read, so at most one was there
pub read_few : {R : Type 0} (value : R → Value) (see : Row → Value) (found : Option R) (stored rows : List Row) → IsPermutation (map (λ r. see r ∷ []) stored) rows
    → map (λ r. value r ∷ []) (option_to_list found) ≡ map (columns_from 0 1) rows → map see stored ≡ option_to_list (option_map value found)
read_few {R} value see found stored rows same is = go found stored (sym (short_permutation rows (map (λ r. see r ∷ []) stored) few (IsPermutation-sym (map (λ r. see r ∷ []) stored) rows same))) is
  where
    few : length rows ≤ 1
    few = omega (arith, ap length is, length-map rows (columns_from 0 1), length-map (option_to_list found) (λ r. value r ∷ []), at_most found)

    go : (found : Option R) (stored : List Row) → rows ≡ map (λ r. see r ∷ []) stored → map (λ r. value r ∷ []) (option_to_list found) ≡ map (columns_from 0 1) rows → map see stored ≡ option_to_list (option_map value found)
    go None [] e is = refl
    go None (r ∷ stored) e is = absurd (let none = is ∙ ap (map (columns_from 0 1)) e in cc)
    go (Some x) [] e is = absurd (let none = is ∙ ap (map (columns_from 0 1)) e in cc)
    go (Some x) (r ∷ []) e is = let one : (value x ∷ []) ∷ [] ≡ (see r ∷ []) ∷ [] = is ∙ ap (map (columns_from 0 1)) e in let same : value x ≡ see r = cc in ap (λ v. v ∷ []) (sym same)
    go (Some x) (r ∷ more ∷ stored) e is = absurd (let two = is ∙ ap (map (columns_from 0 1)) e in cc)
