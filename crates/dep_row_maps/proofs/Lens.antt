-- What is under a number once an entry is inserted or removed.
use Rattle.std.proofs.Common.{◌≡◌, ◌≢◌, ◌⊎◌, inl, inr, ℕ, Bool, true, false, cond, Option, Some, None, refl, sym, ap, ◌∙◌, Ordering, Less, Equal, Greater, is_eq, nat_cmp}
use Rattle.std.specs.Option.{option_map_or}
use Rattle.std.proofs.lemmas.Cmp.{nat_cmp_total, tied_itself}
use Rattle.std.specs.Ordering.{eq_by_cmp}
use Rattle.std.specs.FinMap as finmap
use Rattle.sqlite_trees.specs.Tree.{put_row}
use Rattle.sqlite_value.specs.Order.{Row}
use Rattle.dep_types.specs.Maps.{Numbered}
use Rattle.dep_row_maps.specs.Keyed.{Keyed, rows_of}
use Rattle.dep_row_maps.proofs.Rows.{put_insert}

pub tied_not : (q k : ℕ) → q ≢ k → eq_by_cmp nat_cmp q k ≡ false
tied_not q k apart = go (nat_cmp q k) refl
  where
    go : (o : Ordering) → nat_cmp q k ≡ o → is_eq o ≡ false
    go Less e = refl
    go Equal e = absurd (apart (finmap.nat_cmp-IsAntisymmetric q k e))
    go Greater e = refl

pub get_here : {X : Type 0} (m : Numbered X) (k : ℕ) (x : X) → finmap.get (finmap.insert m k x) k ≡ Some x
get_here m k x = finmap.get-insert nat_cmp_total m k x k ∙ ap (λ r. cond (is_eq r) (Some x) (finmap.get m k)) (tied_itself nat_cmp_total k)

pub get_there : {X : Type 0} (m : Numbered X) (k : ℕ) (x : X) (q : ℕ) → q ≢ k → finmap.get (finmap.insert m k x) q ≡ finmap.get m q
get_there m k x q apart = finmap.get-insert nat_cmp_total m k x q ∙ ap (λ b. cond b (Some x) (finmap.get m q)) (tied_not q k apart)

pub get_gone : {X : Type 0} (m : Numbered X) (k : ℕ) → finmap.get (finmap.remove m k) k ≡ None
get_gone m k = finmap.get-remove nat_cmp_total m k k ∙ ap (λ r. cond (is_eq r) None (finmap.get m k)) (tied_itself nat_cmp_total k)

pub get_left : {X : Type 0} (m : Numbered X) (k q : ℕ) → q ≢ k → finmap.get (finmap.remove m k) q ≡ finmap.get m q
get_left m k q apart = finmap.get-remove nat_cmp_total m k q ∙ ap (λ b. cond b None (finmap.get m q)) (tied_not q k apart)

module _ {X P : Type 0} (part : X → P) (none : P) (same : (a b : ℕ) → (a ≡ b) ⊎ (a ≢ b)) where
  abbrev pub under : Numbered X → ℕ → P
  under m n = option_map_or part (finmap.get m n) none

  pub under_here : (m : Numbered X) (k : ℕ) (x : X) → under (finmap.insert m k x) k ≡ part x
  under_here m k x = ap (λ o. option_map_or part o none) (get_here m k x)

  pub under_there : (m : Numbered X) (k : ℕ) (x : X) (q : ℕ) → q ≢ k → under (finmap.insert m k x) q ≡ under m q
  under_there m k x q apart = ap (λ o. option_map_or part o none) (get_there m k x q apart)

  pub under_same : (m : Numbered X) (k : ℕ) (x : X) → part x ≡ under m k → (q : ℕ) → under (finmap.insert m k x) q ≡ under m q
  under_same m k x is q = go (same q k)
    where
      go : (q ≡ k) ⊎ (q ≢ k) → under (finmap.insert m k x) q ≡ under m q
      go (inl e) = ap (under (finmap.insert m k x)) e ∙ under_here m k x ∙ is ∙ ap (under m) (sym e)
      go (inr apart) = under_there m k x q apart

  pub under_gone : (m : Numbered X) (k : ℕ) → under (finmap.remove m k) k ≡ none
  under_gone m k = ap (λ o. option_map_or part o none) (get_gone m k)

  pub under_left : (m : Numbered X) (k q : ℕ) → q ≢ k → under (finmap.remove m k) q ≡ under m q
  under_left m k q apart = ap (λ o. option_map_or part o none) (get_left m k q apart)

-- what is there is inserted again
pub insert_again : {X : Type 0} (m : Numbered X) (k : ℕ) (x : X) → finmap.get m k ≡ Some x → finmap.insert m k x ≡ m
insert_again m k x there = finmap.same_map nat_cmp_total finmap.nat_cmp-IsAntisymmetric _ _ (λ q. finmap.get-insert nat_cmp_total m k x q ∙ go q (nat_cmp q k) refl)
  where
    go : (q : ℕ) (o : Ordering) → nat_cmp q k ≡ o → cond (is_eq (nat_cmp q k)) (Some x) (finmap.get m q) ≡ finmap.get m q
    go q Less is = rw is refl
    go q Equal is = rw is (sym there ∙ ap (finmap.get m) (sym (finmap.nat_cmp-IsAntisymmetric q k is)))
    go q Greater is = rw is refl

-- what was inserted before under the same number is gone
pub insert_twice : {X : Type 0} (m : Numbered X) (k : ℕ) (x y : X) → finmap.insert (finmap.insert m k x) k y ≡ finmap.insert m k y
insert_twice {X} m k x y =
    finmap.same_map nat_cmp_total finmap.nat_cmp-IsAntisymmetric _ _ (λ q. finmap.get-insert nat_cmp_total (finmap.insert m k x) k y q
    ∙ ap (λ (o : Option X). cond (is_eq (nat_cmp q k)) (Some y) o) (finmap.get-insert nat_cmp_total m k x q)
    ∙ again (is_eq (nat_cmp q k)) (finmap.get m q) ∙ sym (finmap.get-insert nat_cmp_total m k y q))
  where
    again : (b : Bool) (was : Option X) → cond b (Some y) (cond b (Some x) was) ≡ cond b (Some y) was
    again true was = refl
    again false was = refl

-- an entry that has the same row leaves the rows as they are
pub rows_same : {X : Type 0} (row : ℕ → X → Row) → Keyed row → (m : Numbered X) (k : ℕ) (x y : X) → finmap.get m k ≡ Some x → row k y ≡ row k x → rows_of row (finmap.insert m k y) ≡ rows_of row m
rows_same row keyed m k x y there is =
    sym (put_insert row keyed k y m) ∙ ap (λ r. put_row r (rows_of row m)) is ∙ put_insert row keyed k x m ∙ ap (rows_of row) (insert_again m k x there)
