-- Rows that are found by their rowid.
use Rattle.std.proofs.Common.{◌≡◌, ◌⊎◌, inl, inr, ℤ, Bool, true, false, cond, if◌then◌else◌, List, [], ◌∷◌, map, filter, find, Some, None, refl, sym, ap, ◌∙◌, IsTrue, Ordering, Less, Equal, Greater, is_eq, is_lt, int_cmp, arith}
use Rattle.std.proofs.lemmas.Bool.Decides.{nat_tests}
use Rattle.std.proofs.lemmas.Int.{ints}
use Rattle.sqlite.specs.Order.{Row}
use Rattle.sqlite.specs.declared.types.Value.{Value}
use Rattle.sqlite.specs.declared.types.Value.TheVariants.{Null, Int, Real, Text, Blob}
use Rattle.sqlite_value.specs.Order.{value_cmp}
use Rattle.sqlite_value.proofs.OrderLemmas.{value_cmp-Int}
use Rattle.sqlite_trees.specs.Tree.{rowid, has_rowid}
use Rattle.sqlite_trees.specs.View.{is_int}
use Rattle.sqlite_trees.proofs.TreeLemmas.{later_rowids}
use Rattle.sqlite_trees.proofs.ListLemmas.{filter_none}
use Rattle.sqlite_rules.specs.Lists.{Has}
use Rattle.sqlite_rules.proofs.ListLemmas.{all_has, all_from}
use Rattle.dep_tables.specs.Rowids.{IsOrdered, replaced}
use Rattle.dep_tables.proofs.Members.{map_same}

tied_numbers : (m n : ℤ) → is_eq (int_cmp m n) ≡ true → m ≡ n
tied_numbers m n h = grind (arith, ints, nat_tests)

-- a number that ties with a key is the key
pub same_key : (v : Value) (id : ℤ) → IsTrue (is_int v) → is_eq (value_cmp v (Int id)) ≡ true → v ≡ Int id
same_key Null id number h = absurd (let e : false ≡ true = number in cc)
same_key (Int n) id number h = ap Int (tied_numbers n id (sym (ap is_eq (value_cmp-Int n id)) ∙ h))
same_key (Real x) id number h = absurd (let e : false ≡ true = number in cc)
same_key (Text t) id number h = absurd (let e : false ≡ true = number in cc)
same_key (Blob b) id number h = absurd (let e : false ≡ true = number in cc)

pub row_key : (rows : List Row) (r : Row) (id : ℤ) → IsOrdered rows → Has rows r → has_rowid id r ≡ true → rowid r ≡ Int id
row_key rows r id up h tied = same_key (rowid r) id (all_has _ rows r up.1 h) tied

not_below : (v : Value) (id : ℤ) → is_eq (value_cmp v (Int id)) ≡ true → is_lt (value_cmp v (Int id)) ≡ false
not_below v id h = go (value_cmp v (Int id)) h
  where
    go : (o : Ordering) → is_eq o ≡ true → is_lt o ≡ false
    go Less h = absurd cc
    go Equal h = refl
    go Greater h = absurd cc

-- at most one row has a rowid
pub found_row : (id : ℤ) (rows : List Row) → IsOrdered rows → (filter (has_rowid id) rows ≡ []) ⊎ ((r : Row) × (filter (has_rowid id) rows ≡ r ∷ []) × (rowid r ≡ Int id) × Has rows r)
found_row id [] up = inl refl
found_row id (x ∷ rows) up = go (has_rowid id x) refl (found_row id rows (up.0.1, up.1.1))
  where
    go : (b : Bool) → has_rowid id x ≡ b → (filter (has_rowid id) rows ≡ []) ⊎ ((r : Row) × (filter (has_rowid id) rows ≡ r ∷ []) × (rowid r ≡ Int id) × Has rows r)
        → (filter (has_rowid id) (x ∷ rows) ≡ []) ⊎ ((r : Row) × (filter (has_rowid id) (x ∷ rows) ≡ r ∷ []) × (rowid r ≡ Int id) × Has (x ∷ rows) r)
    go true is more =
        let later = filter_none (has_rowid id) rows (later_rowids (Int id) x rows (not_below (rowid x) id is) up.0.0) in
        inr (x, rw (is, later) refl, same_key (rowid x) id up.1.0 is, inl refl)
    go false is (inl none) = inl (rw (is, none) refl)
    go false is (inr one) = inr (one.0, rw (is, one.1) refl, one.2, inr one.3)

-- `find` is the head of `filter`
pub find_none : (p : Row → Bool) (rows : List Row) → filter p rows ≡ [] → find p rows ≡ None
find_none p [] h = refl
find_none p (x ∷ rows) h = go (p x) refl h (find_none p rows)
  where
    go : (b : Bool) → p x ≡ b → cond b (x ∷ filter p rows) (filter p rows) ≡ [] → (filter p rows ≡ [] → find p rows ≡ None) → find p (x ∷ rows) ≡ None
    go true is h more = absurd (cc)
    go false is h more = rw is (more h)

pub find_head : (p : Row → Bool) (rows : List Row) (r : Row) (more : List Row) → filter p rows ≡ r ∷ more → find p rows ≡ Some r
find_head p [] r more h = absurd (cc)
find_head p (x ∷ rows) r more h = go (p x) refl h (find_head p rows r more)
  where
    go : (b : Bool) → p x ≡ b → cond b (x ∷ filter p rows) (filter p rows) ≡ r ∷ more → (filter p rows ≡ r ∷ more → find p rows ≡ Some r) → find p (x ∷ rows) ≡ Some r
    go true is h later = let same : x ≡ r = cc in rw is (ap Some same)
    go false is h later = rw is (later h)

-- a change of the row with a key to this row
pub replaces : (id : ℤ) (p : Row → Bool) (change : Row → Row) (new : Row) (rows : List Row) → IsOrdered rows → rowid new ≡ Int id → ((r : Row) → p r ≡ has_rowid id r)
    → ((r : Row) → rowid r ≡ Int id → change r ≡ new) → map (λ r. if p r then change r else r) rows ≡ replaced new rows
replaces id p change new rows up keyed tests same = map_same _ _ rows (all_from _ rows each)
  where
    each : (r : Row) → Has rows r → (if p r then change r else r) ≡ (if is_eq (value_cmp (rowid r) (rowid new)) then new else r)
    each r h = rw (tests r, keyed) (go (has_rowid id r) refl)
      where
        go : (b : Bool) → has_rowid id r ≡ b → (if b then change r else r) ≡ (if b then new else r)
        go true tied = same r (row_key rows r id up h tied)
        go false other = refl
