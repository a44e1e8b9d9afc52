-- The rows of a table, one after another by their rowids.
use Rattle.std.proofs.Common.{◌≡◌, ℕ, ◌<◌, pos, Bool, true, false, cond, int_cmp, List, [], ◌∷◌, Some, None, refl, sym, ap, subst, ◌∙◌, arith}
use Rattle.std.specs.Prelude.{find, filter, Option, option_map}
use Rattle.std.specs.List.{AllByRecursion, Contains}
use Rattle.std.proofs.lemmas.Bool.Decides.{nat_tests}
use Rattle.std.proofs.lemmas.Int.{ints}
use Rattle.std.proofs.lemmas.List.Elements.{Contains-append_right}
use Rattle.std.specs.declared.cmp.Ordering.{Ordering}
use Rattle.std.specs.declared.cmp.Ordering.TheVariants.{Less, Equal, Greater}
use Rattle.std.specs.Ordering.{is_gt, ordering_reverse}
use Rattle.sqlite_trees.specs.Tree.{rowid, IsTable}
use Rattle.sqlite_value.specs.Order.{Row, value_cmp}
use Rattle.sqlite_value.specs.declared.value.Value.{Value}
use Rattle.sqlite_value.specs.declared.value.Value.TheVariants.{Int}
use Rattle.sqlite_value.proofs.OrderLemmas.{value_cmp_total, value_cmp-Int}
use Rattle.dep_tables.specs.Rowids.{is_after}

abbrev IsAbove : Value → List Row → Type 0
IsAbove v rows = AllByRecursion (λ r. value_cmp v (rowid r) ≡ Less) rows

turned : (v w : Value) → value_cmp v w ≡ Less → value_cmp w v ≡ Greater
turned v w less = value_cmp_total.antisymm w v ∙ ap ordering_reverse less

turned_back : (v w : Value) → value_cmp v w ≡ Greater → value_cmp w v ≡ Less
turned_back v w greater = value_cmp_total.antisymm w v ∙ ap ordering_reverse greater

same : (v : Value) → is_gt (value_cmp v v) ≡ false
same v = go (value_cmp v v) (value_cmp_total.antisymm v v)
  where
    go : (o : Ordering) → o ≡ ordering_reverse o → is_gt o ≡ false
    go Less e = refl
    go Equal e = refl
    go Greater e = cc

was_greater : (o : Ordering) → is_gt o ≡ true → o ≡ Greater
was_greater Less e = cc
was_greater Equal e = cc
was_greater Greater e = refl

-- all of them are behind a number
all_after : (k : ℕ) (rows : List Row) → IsAbove (Int (pos k)) rows → filter (is_after k) rows ≡ rows
all_after k [] above = refl
all_after k (r ∷ rows) above =
    ap (λ b. cond b (r ∷ filter (is_after k) rows) (filter (is_after k) rows)) (ap is_gt (turned (Int (pos k)) (rowid r) above.0))
    ∙ ap (λ more. r ∷ more) (all_after k rows above.1)

higher : (v w : Value) (rows : List Row) → value_cmp v w ≡ Less → IsAbove w rows → IsAbove v rows
higher v w [] less above = tt
higher v w (r ∷ rows) less above = (value_cmp_total.trans v w (rowid r) less above.0, higher v w rows less above.1)

found_above : (p : Row → Bool) (v : Value) (r : Row) (rows : List Row) → find p rows ≡ Some r → IsAbove v rows → value_cmp v (rowid r) ≡ Less
found_above p v r [] found above = cc
found_above p v r (x ∷ rows) found above = go (p x) found (λ later. found_above p v r rows later above.1)
  where
    go : (b : Bool) → cond b (Some x) (find p rows) ≡ Some r → (find p rows ≡ Some r → value_cmp v (rowid r) ≡ Less) → value_cmp v (rowid r) ≡ Less
    go true is later = let same_row : x ≡ r = cc in subst (λ (y : Row). value_cmp v (rowid y) ≡ Less) same_row above.0
    go false is later = later is

-- the row whose number was found
pub row_found : (n : ℕ) (there : Option Row) → option_map (λ (m : ℕ). Int (pos m)) (Some n) ≡ option_map rowid there → (row : Row) × (there ≡ Some row) × (rowid row ≡ Int (pos n))
row_found n None e = absurd (cc)
row_found n (Some row) e = let same : rowid row ≡ Int (pos n) = cc in (row, refl, same)

pub none_found : (there : Option Row) → option_map (λ (m : ℕ). Int (pos m)) None ≡ option_map rowid there → there ≡ None
none_found None e = refl
none_found (Some row) e = absurd (cc)

-- the first row behind a number, and then those behind that row's
pub next_row : (a n : ℕ) (r : Row) (rows : List Row) → IsTable rows → find (is_after a) rows ≡ Some r → rowid r ≡ Int (pos n)
    → filter (is_after a) rows ≡ r ∷ filter (is_after n) rows
next_row a n r [] table found is = cc
next_row a n r (x ∷ rows) table found is = go (is_after a x) refl found (λ later. next_row a n r rows table.1 later is)
  where
    go : (b : Bool) → is_after a x ≡ b → cond b (Some x) (find (is_after a) rows) ≡ Some r
        → (find (is_after a) rows ≡ Some r → filter (is_after a) rows ≡ r ∷ filter (is_after n) rows)
        → cond b (x ∷ filter (is_after a) rows) (filter (is_after a) rows) ≡ r ∷ cond (is_after n x) (x ∷ filter (is_after n) rows) (filter (is_after n) rows)
    go true e it later =
        let same_row : x ≡ r = cc in
        let id : rowid x ≡ Int (pos n) = ap rowid same_row ∙ is in
        let past : is_after n x ≡ false = ap (λ (v : Value). is_gt (value_cmp v (Int (pos n)))) id ∙ same (Int (pos n)) in
        let here = all_after a rows (higher (Int (pos a)) (rowid x) rows (turned_back (rowid x) (Int (pos a)) (was_greater _ e)) table.0) in
        let there = all_after n rows (subst (λ (v : Value). IsAbove v rows) id table.0) in
        ap (λ more. x ∷ more) (here ∙ sym there) ∙ ap (λ (y : Row). y ∷ filter (is_after n) rows) same_row
        ∙ ap (λ b. r ∷ cond b (x ∷ filter (is_after n) rows) (filter (is_after n) rows)) (sym past)
    go false e it later =
        let less : value_cmp (rowid x) (Int (pos n)) ≡ Less = subst (λ (v : Value). value_cmp (rowid x) v ≡ Less) is (found_above (is_after a) (rowid x) r rows it table.0) in
        later it
        ∙ ap (λ b. r ∷ cond b (x ∷ filter (is_after n) rows) (filter (is_after n) rows)) (sym (ap is_gt less))

-- no row is behind it
pub no_row : (a : ℕ) (rows : List Row) → find (is_after a) rows ≡ None → filter (is_after a) rows ≡ []
no_row a [] none = refl
no_row a (x ∷ rows) none = go (is_after a x) none (λ later. no_row a rows later)
  where
    go : (b : Bool) → cond b (Some x) (find (is_after a) rows) ≡ None → (find (is_after a) rows ≡ None → filter (is_after a) rows ≡ [])
        → cond b (x ∷ filter (is_after a) rows) (filter (is_after a) rows) ≡ []
    go true e later = cc
    go false e later = later e

-- what is found passes the test, and is one of the rows
pub found_there : (p : Row → Bool) (r : Row) (rows : List Row) → find p rows ≡ Some r → (p r ≡ true) × Contains rows r
found_there p r [] found = absurd (cc)
found_there p r (x ∷ rows) found = go (p x) refl found (found_there p r rows)
  where
    go : (b : Bool) → p x ≡ b → cond b (Some x) (find p rows) ≡ Some r → (find p rows ≡ Some r → (p r ≡ true) × Contains rows r) → (p r ≡ true) × Contains (x ∷ rows) r
    go true is here later = let same : x ≡ r = cc in (subst (λ y. p y ≡ true) same is, subst (Contains (x ∷ rows)) same (0, omega arith, refl))
    go false is there later = let it = later there in (it.0, Contains-append_right (x ∷ []) rows r it.1)

above : (a n : ℕ) → is_gt (int_cmp (pos n) (pos a)) ≡ true → a < n
above a n h = grind (arith, ints, nat_tests)

-- a number behind another one is above it
pub found_after : (a n : ℕ) (r : Row) (rows : List Row) → find (is_after a) rows ≡ Some r → rowid r ≡ Int (pos n) → a < n
found_after a n r rows found is =
    above a n (ap is_gt (sym (value_cmp-Int (pos n) (pos a))) ∙ ap (λ (v : Value). is_gt (value_cmp v (Int (pos a)))) (sym is) ∙ (found_there (is_after a) r rows found).0)
