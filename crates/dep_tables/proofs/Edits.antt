-- What taking rows out of a table, and putting changed rows in, comes to.
use Rattle.std.proofs.Common.{◌≡◌, ◌⊎◌, inl, inr, ℤ, Bool, true, false, not, if◌then◌else◌, List, [], ◌∷◌, map, filter, refl, sym, ap, ap₂, subst, ◌∙◌, IsTrue, Ordering, Less, Equal, Greater, is_eq}
use Rattle.std.proofs.lemmas.Bool.{cases_Bool}
use Rattle.std.proofs.lemmas.Cmp.{tied_itself, on_total}
use Rattle.std.proofs.lemmas.List.Sorted.{list_any-IsPermutation, IsPermutation-sym}
use Rattle.std.specs.List.{list_any}
use Rattle.std.specs.List.Sorted.{IsPermutation}
use Rattle.sqlite.specs.Order.{Row}
use Rattle.sqlite.specs.declared.types.Value.TheVariants.{Int}
use Rattle.sqlite_value.specs.Order.{value_cmp}
use Rattle.sqlite_value.proofs.OrderLemmas.{value_cmp_total}
use Rattle.sqlite_trees.specs.Tree.{rowid, has_rowid, put_row, without_rowid, IsTable}
use Rattle.sqlite_trees.specs.View.{is_int}
use Rattle.sqlite_trees.proofs.TreeLemmas.{IsTable-put_row}
use Rattle.sqlite_trees.proofs.ListLemmas.{filter_all, filter_same, all-map, ascending-filter}
use Rattle.sqlite_rules.specs.Lists.{Has}
use Rattle.sqlite_rules.specs.Edit.{id_in, without_all, put_all, are_fresh}
use Rattle.sqlite_rules.proofs.ListLemmas.{all_has, all_from, some_has, some_from, has_filtered, has_kept}
use Rattle.sqlite_rules.proofs.TableLemmas.{int_is, put_all_has, put_all_keeps, put_all_adds}
use Rattle.sqlite_rules.proofs.PlaceLemmas.{Tied, tied_same}
use Rattle.dep_tables.specs.Rowids.{IsOrdered}
use Rattle.dep_tables.proofs.Sorted.{same_lists}
use Rattle.dep_tables.proofs.Members.{has_mapped, mapped_from, permuted_from, filter_again}

-- two tables with the same rows are one
pub same_rows : (xs ys : List Row) → IsTable xs → IsTable ys → ((r : Row) → Has xs r → Has ys r) → ((r : Row) → Has ys r → Has xs r) → xs ≡ ys
same_rows = same_lists (λ a b. value_cmp (rowid a) (rowid b)) (on_total rowid value_cmp_total)

-- whether one of the rowids is the row's
abbrev is_named : List ℤ → Row → Bool
is_named ids r = list_any (λ id. has_rowid id r) ids

without_each : (ids : List ℤ) (rows : List Row) → without_all rows ids ≡ filter (λ r. not (is_named ids r)) rows
without_each [] rows = sym (filter_all (λ r. true) rows (all_from _ rows (λ r h. refl)))
without_each (id ∷ ids) rows = without_each ids (without_rowid id rows) ∙ filter_again (has_rowid id) (is_named ids) rows

abbrev pub key_of : Row → ℤ
key_of r = id_in (rowid r)

pub has_its_key : (rows : List Row) (r : Row) → IsOrdered rows → Has rows r → rowid r ≡ Int (key_of r)
has_its_key rows r up h = int_is (rowid r) (all_has _ rows r up.1 h)

equal_is : (o : Ordering) → is_eq o ≡ true → o ≡ Equal
equal_is Less h = absurd (cc)
equal_is Equal h = refl
equal_is Greater h = absurd (cc)

-- the rows that have a rowid among those of the rows that pass are those that pass
module _ (p : Row → Bool) (rows : List Row) (up : IsOrdered rows) (ids : List ℤ) (same : IsPermutation (map key_of (filter p rows)) ids) where
  named : (r : Row) → Has rows r → is_named ids r ≡ p r
  named r h = sym (list_any-IsPermutation (λ id. has_rowid id r) (map key_of (filter p rows)) ids same) ∙ go (p r) refl (cases_Bool (is_named (map key_of (filter p rows)) r))
    where
      go : (b : Bool) → p r ≡ b → (is_named (map key_of (filter p rows)) r ≡ true) ⊎ (is_named (map key_of (filter p rows)) r ≡ false) → is_named (map key_of (filter p rows)) r ≡ b
      go true passes any =
          some_from (λ id. has_rowid id r) (map key_of (filter p rows)) (key_of r) (has_mapped key_of (filter p rows) r (has_kept p rows r h passes))
          (ap (λ v. is_eq (value_cmp v (Int (key_of r)))) (has_its_key rows r up h) ∙ ap is_eq (tied_itself value_cmp_total (Int (key_of r))))
      go false fails (inr none) = none
      go false fails (inl some) =
          let one = some_has (λ id. has_rowid id r) (map key_of (filter p rows)) some in
          let from = mapped_from key_of (filter p rows) one.0 one.1 in
          let was = has_filtered p rows from.0 from.1 in
          let tied : Tied r from.0 = ap (value_cmp (rowid r)) (has_its_key rows from.0 up was.0) ∙ equal_is _ (subst (λ id. has_rowid id r ≡ true) from.2 one.2) in
          let is : r ≡ from.0 = tied_same rows r from.0 up.0 h was.0 tied in
          absurd (let passes = ap p is ∙ was.1 in cc)

  pub left_rows : without_all rows ids ≡ filter (λ r. not (p r)) rows
  left_rows = without_each ids rows ∙ filter_same (λ r. not (is_named ids r)) (λ r. not (p r)) rows (all_from _ rows (λ r h. ap not (named r h)))

put_all_table : (news rows : List Row) → IsTable rows → IsTable (put_all rows news)
put_all_table [] rows up = up
put_all_table (n ∷ news) rows up = put_all_table news (put_row n rows) (IsTable-put_row n rows up)

-- each row that passes is changed, and keeps its rowid
module _ (p : Row → Bool) (change : Row → Row) (rows : List Row) (up : IsOrdered rows) (keeps : (r : Row) → Has rows r → p r ≡ true → rowid (change r) ≡ rowid r) where
  abbrev changed : Row → Row
  changed r = if p r then change r else r

  same_id : (r : Row) → Has rows r → rowid (changed r) ≡ rowid r
  same_id r h = go (p r) refl
    where
      go : (b : Bool) → p r ≡ b → rowid (if b then change r else r) ≡ rowid r
      go true passes = keeps r h passes
      go false fails = refl

  rises : (all : List Row) → ((r : Row) → Has all r → Has rows r) → IsTable all → IsTable (map changed all)
  rises [] within up = tt
  rises (r ∷ all) within up = (
    all-map (λ x. value_cmp (rowid (changed r)) (rowid x) ≡ Less) changed all
        (all_from _ all (λ x h. ap₂ value_cmp (same_id r (within r (inl refl))) (same_id x (within x (inr h))) ∙ all_has _ all x up.0 h)),
    rises all (λ x h. within x (inr h)) up.1,
  )

  pub changed_ordered : IsOrdered (map changed rows)
  changed_ordered = (rises rows (λ r h. h) up.0, all-map (λ x. IsTrue (is_int (rowid x))) changed rows (all_from _ rows (λ x h. subst (λ v. IsTrue (is_int v)) (sym (same_id x h)) (all_has _ rows x up.1 h))))

  abbrev left : List Row
  left = filter (λ r. not (p r)) rows

  module _ (news : List Row) (same : IsPermutation (map change (filter p rows)) news) (fresh : are_fresh left news ≡ true) where
    there : (r : Row) → Has (put_all left news) r → Has (map changed rows) r
    there r h = elim (put_all_has news left r h) [
      | inl new ↦
          let from = mapped_from change (filter p rows) r (permuted_from (map change (filter p rows)) news r same new) in
          let was = has_filtered p rows from.0 from.1 in
          let is : changed from.0 ≡ r = rw was.1 (sym from.2) in
          subst (Has (map changed rows)) is (has_mapped changed rows from.0 was.0)
      | inr old ↦
          let was = has_filtered (λ x. not (p x)) rows r old in
          let fails : p r ≡ false = elim (cases_Bool (p r)) [ inl so ↦ absurd (let e = rw so at was.1 in cc) | inr not_so ↦ not_so ] in
          let is : changed r ≡ r = rw fails refl in
          subst (Has (map changed rows)) is (has_mapped changed rows r was.0)
    ]

    back : (r : Row) → Has (map changed rows) r → Has (put_all left news) r
    back r h =
        let from = mapped_from changed rows r h in
        elim (cases_Bool (p from.0)) [
          | inl so ↦
              let is : r ≡ change from.0 = rw so at from.2 in
              let made = has_mapped change (filter p rows) from.0 (has_kept p rows from.0 from.1 so) in
              put_all_adds news left r fresh (permuted_from news (map change (filter p rows)) r (IsPermutation-sym (map change (filter p rows)) news same) (subst (Has (map change (filter p rows))) (sym is) made))
          | inr not_so ↦
              let is : r ≡ from.0 = rw not_so at from.2 in
              let stays : not (p from.0) ≡ true = rw not_so refl in
              put_all_keeps news left r fresh (subst (Has left) (sym is) (has_kept (λ x. not (p x)) rows from.0 from.1 stays))
        ]

    pub changed_rows : put_all left news ≡ map changed rows
    changed_rows = same_rows _ _ (put_all_table news left (ascending-filter _ (λ r. not (p r)) rows up.0)) (rises rows (λ r h. h) up.0) there back
