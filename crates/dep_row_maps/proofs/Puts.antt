-- A row that is put under the next rowid comes last, and what that does to what its owner has.
use Rattle.std.proofs.Common.{◌≡◌, ℤ, ◌+ℤ◌, pos, List, [], ◌∷◌, ◌++◌, fold, refl, ap, subst, ◌∙◌, IsTrue, Less, int_cmp, arith}
use Rattle.std.proofs.lemmas.Bool.Decides.{nat_tests}
use Rattle.std.proofs.lemmas.Int.{ints}
use Rattle.std.specs.List.{AllByRecursion}
use Rattle.sqlite_value.specs.Order.{Row, value_cmp}
use Rattle.sqlite_value.specs.declared.value.Value.TheVariants.{Int}
use Rattle.sqlite_value.proofs.OrderLemmas.{value_cmp_total, value_cmp-Int}
use Rattle.sqlite_trees.specs.Tree.{rowid, put_row, IsTable}
use Rattle.sqlite_trees.specs.View.{is_int}
use Rattle.sqlite_rules.specs.Edit.{id_in, next_rowid}
use Rattle.sqlite_rules.proofs.TableLemmas.{int_is}
use Rattle.dep_tables.specs.Rowids.{IsOrdered}
use Rattle.dep_tables.specs.Rowids.{put_next}

abbrev next : ℤ → List Row → ℤ
next = fold (λ _ r. id_in (rowid r) +ℤ pos 1)

abbrev AreNumbered : List Row → Type 0
AreNumbered = AllByRecursion (λ r. IsTrue (is_int (rowid r)))

one_above : (i : ℤ) → int_cmp i (i +ℤ pos 1) ≡ Less
one_above i = grind (arith, ints, nat_tests)

past : (i : ℤ) (rows : List Row) → AllByRecursion (λ r. value_cmp (Int i) (rowid r) ≡ Less) rows → IsTable rows → AreNumbered rows → value_cmp (Int i) (Int (next (i +ℤ pos 1) rows)) ≡ Less
past i [] above up numbered = value_cmp-Int i (i +ℤ pos 1) ∙ one_above i
past i (y ∷ rows) above up numbered =
    let is = int_is (rowid y) numbered.0 in
    let later = past (id_in (rowid y)) rows (subst (λ v. AllByRecursion (λ r. value_cmp v (rowid r) ≡ Less) rows) is up.0) up.1 numbered.1 in
    value_cmp_total.trans (Int i) (Int (id_in (rowid y))) _ (subst (λ v. value_cmp (Int i) v ≡ Less) is above.0) later

put_last : (values : Row) (a : ℤ) (rows : List Row) → IsTable rows → AreNumbered rows → put_row (Int (next a rows) ∷ values) rows ≡ rows ++ (Int (next a rows) ∷ values) ∷ []
put_last values a [] up numbered = refl
put_last values a (x ∷ rows) up numbered =
    let is = int_is (rowid x) numbered.0 in
    let k = id_in (rowid x) in
    let lower = past k rows (subst (λ v. AllByRecursion (λ r. value_cmp v (rowid r) ≡ Less) rows) is up.0) up.1 numbered.1 in
    let first : value_cmp (rowid x) (Int (next (k +ℤ pos 1) rows)) ≡ Less = ap (λ v. value_cmp v (Int (next (k +ℤ pos 1) rows))) is ∙ lower in
    rw first (ap (λ xs. x ∷ xs) (put_last values (k +ℤ pos 1) rows up.1 numbered.1))

-- the row comes last
pub put_next-last : (values : Row) (rows : List Row) → IsOrdered rows → put_next values rows ≡ rows ++ (Int (next_rowid rows) ∷ values) ∷ []
put_next-last values rows up = put_last values (pos 1) rows up.0 up.1
