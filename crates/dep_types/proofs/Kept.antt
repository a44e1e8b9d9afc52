-- What is found in a map by number once some keys are kept.
use Rattle.std.proofs.Common.{◌≡◌, ℕ, Bool, true, false, cond, not, Option, Some, None, refl, sym, ap, ◌∙◌, nat_cmp, Less, Equal, Greater, is_eq, ◌≢◌, ◌⊎◌, inl, inr}
use Rattle.std.specs.Ordering.{eq_by_cmp}
use Rattle.std.specs.Cmp.{nat_cmp_total, tied_itself, eq_by_cmp_equiv}
use Rattle.std.specs.FinMap as map
use Rattle.std.specs.FinMap.Entries.{where_key, same_entries, is_sorted-where_key, find-where_key}
use Rattle.dep_types.specs.Maps.{Numbered}

abbrev pub alike : {Y : Type 0} (p : ℕ → Y) (q x : ℕ) → nat_cmp q x ≡ Equal → p x ≡ p q
alike p q x e = ap p (sym (map.nat_cmp-IsAntisymmetric q x e))

pub get-kept : {X : Type 0} (m : Numbered X) (p : ℕ → Bool) (q : ℕ) → map.get (map.retain_keys m p) q ≡ cond (p q) (map.get m q) None
get-kept m p q = map.get-retain_keys m p q (alike p q)

-- a kept entry was there and passed
pub kept-was : {X : Type 0} (b : Bool) (o : Option X) (x : X) → cond b o None ≡ Some x → (b ≡ true) × (o ≡ Some x)
kept-was true o x e = (refl, e)
kept-was false o x e = absurd (cc)

-- ---- one entry more

pub tied : (q k : ℕ) → q ≢ k → eq_by_cmp nat_cmp q k ≡ false
tied q k apart = elim (nat_cmp q k) as (λ r. nat_cmp q k ≡ r → is_eq r ≡ false) [
  | Less ↦ λ e. refl
  | Equal ↦ λ e. absurd (apart (map.nat_cmp-IsAntisymmetric q k e))
  | Greater ↦ λ e. refl
] refl

pub get-insert_same : {X : Type 0} (m : Numbered X) (k : ℕ) (x : X) → map.get (map.insert m k x) k ≡ Some x
get-insert_same m k x = map.get-insert nat_cmp_total m k x k ∙ ap (λ r. cond (is_eq r) (Some x) (map.get m k)) (tied_itself nat_cmp_total k)

pub get-insert_other : {X : Type 0} (m : Numbered X) (k : ℕ) (x : X) (q : ℕ) → q ≢ k → map.get (map.insert m k x) q ≡ map.get m q
get-insert_other m k x q apart = map.get-insert nat_cmp_total m k x q ∙ ap (λ b. cond b (Some x) (map.get m q)) (tied q k apart)

-- what is found after an insertion is the new entry, or was there at another number
pub found : {X : Type 0} (m : Numbered X) (k : ℕ) (x : X) (q : ℕ) (y : X) → map.get (map.insert m k x) q ≡ Some y
    → ((q ≡ k) × (y ≡ x)) ⊎ (map.get m q ≡ Some y)
found m k x q y e = elim (nat_cmp q k) as (λ r. nat_cmp q k ≡ r → ((q ≡ k) × (y ≡ x)) ⊎ (map.get m q ≡ Some y)) [
  | Less ↦ λ r. inr (sym (map.get-insert nat_cmp_total m k x q ∙ ap (λ r. cond (is_eq r) (Some x) (map.get m q)) r) ∙ e)
  | Equal ↦ λ r. let new : Some x ≡ Some y = sym (map.get-insert nat_cmp_total m k x q ∙ ap (λ r. cond (is_eq r) (Some x) (map.get m q)) r) ∙ e in inl (map.nat_cmp-IsAntisymmetric q k r, (cc))
  | Greater ↦ λ r. inr (sym (map.get-insert nat_cmp_total m k x q ∙ ap (λ r. cond (is_eq r) (Some x) (map.get m q)) r) ∙ e)
] refl

-- the entries of what is kept: those whose keys pass
pub entries-kept : {X : Type 0} (m : Numbered X) (p : ℕ → Bool) → map.entries (map.retain_keys m p) ≡ where_key nat_cmp p (map.entries m)
entries-kept m p = same_entries nat_cmp nat_cmp_total map.nat_cmp-IsAntisymmetric _ _
    (map.entries_sorted (map.retain_keys m p)) (is_sorted-where_key nat_cmp p (map.entries m) (map.entries_sorted m))
    (λ q. sym (map.get-entries (map.retain_keys m p) q) ∙ get-kept m p q ∙ ap (λ o. cond (p q) o None) (map.get-entries m q) ∙ sym (find-where_key nat_cmp p q (alike p q) (map.entries m)))

turned : {X : Type 0} (b : Bool) (o : Option X) → cond b None o ≡ cond (not b) o None
turned true o = refl
turned false o = refl

-- to remove an entry is to keep those of other numbers
pub remove-kept : {X : Type 0} (m : Numbered X) (k : ℕ) → map.remove m k ≡ map.retain_keys m (λ x. not (eq_by_cmp nat_cmp k x))
remove-kept m k = map.same_map nat_cmp_total map.nat_cmp-IsAntisymmetric _ _ (λ q.
    map.get-remove nat_cmp_total m k q
    ∙ ap (λ b. cond b None (map.get m q)) ((eq_by_cmp_equiv nat_cmp_total).symm q k)
    ∙ turned (eq_by_cmp nat_cmp k q) (map.get m q)
    ∙ sym (get-kept m (λ x. not (eq_by_cmp nat_cmp k x)) q))
