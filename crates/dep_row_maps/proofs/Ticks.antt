-- A tick, one upload after another.
use Rattle.std.proofs.Common.{◌≡◌, ℕ, Bool, true, false, not, ◌||◌, cond, List, [], ◌∷◌, fold, Option, Some, None, is_some, refl, sym, ap, ◌∙◌, nat_cmp}
use Rattle.std.proofs.lemmas.Cmp.{nat_cmp_total}
use Rattle.std.specs.List.{list_any}
use Rattle.std.specs.Ordering.{eq_by_cmp}
use Rattle.std.specs.FinMap as map
use Rattle.std.specs.FinSet as set
use Rattle.dep_types.specs.Maps.{Numbered, Numbers}
use Rattle.dep_types.specs.State.{expired, expires}
use Rattle.dep_types.proofs.Kept.{get-kept}
use Rattle.dep_types.proofs.TickLemmas.{get-unexpired}
use Rattle.dep_row_maps.specs.Laws.{TickedOneByOne}

turned : {X : Type 0} (a b : Bool) (x : Option X) → cond b None (cond a None x) ≡ cond (a || b) None x
turned true true x = refl
turned true false x = refl
turned false b x = refl

get-fold : {X : Type 0} (ks : List ℕ) (m : Numbered X) (q : ℕ) → map.get (fold map.remove m ks) q ≡ cond (list_any (eq_by_cmp nat_cmp q) ks) None (map.get m q)
get-fold [] m q = refl
get-fold (k ∷ ks) m q = get-fold ks (map.remove m k) q ∙ ap (cond (list_any (eq_by_cmp nat_cmp q) ks) None) (map.get-remove nat_cmp_total m k q) ∙ turned (eq_by_cmp nat_cmp q k) _ (map.get m q)

swapped : (a b c : Bool) → (b || (a || c)) ≡ ((a || b) || c)
swapped true true c = refl
swapped true false c = refl
swapped false b c = refl

contains-fold : (ks : List ℕ) (s : Numbers) (q : ℕ) → set.contains (fold set.insert s ks) q ≡ (list_any (eq_by_cmp nat_cmp q) ks || set.contains s q)
contains-fold [] s q = refl
contains-fold (k ∷ ks) s q =
    contains-fold ks (set.insert s k) q ∙ ap (λ b. list_any (eq_by_cmp nat_cmp q) ks || b) (set.contains-insert nat_cmp_total s k q) ∙ swapped (eq_by_cmp nat_cmp q k) (list_any (eq_by_cmp nat_cmp q) ks) (set.contains s q)

gone : {X : Type 0} (b : Bool) (x : Option X) → cond (is_some (cond b x None)) None x ≡ cond (not b) x None
gone true None = refl
gone true (Some y) = refl
gone false x = refl

either_way : (a b : Bool) → (a || b) ≡ (b || a)
either_way true true = refl
either_way true false = refl
either_way false true = refl
either_way false false = refl

pub ticked_one_by_one : TickedOneByOne
ticked_one_by_one config clock uploads numbers =
    let ids = map.keys (expired config clock uploads) in (
      map.same_map nat_cmp_total map.nat_cmp-IsAntisymmetric _ _ (λ q.
          get-fold ids uploads q
          ∙ ap (λ b. cond b None (map.get uploads q)) (sym (map.contains_key-keys (expired config clock uploads) q) ∙ ap is_some (get-kept uploads (expires config clock uploads) q))
          ∙ gone (expires config clock uploads q) (map.get uploads q) ∙ sym (get-unexpired config clock uploads q)),
      set.same_set nat_cmp_total map.nat_cmp-IsAntisymmetric _ _ (λ q.
          contains-fold ids numbers q ∙ either_way (list_any (eq_by_cmp nat_cmp q) ids) (set.contains numbers q)
          ∙ ap (λ b. set.contains numbers q || b) (sym (set.contains-from_list nat_cmp_total ids q)) ∙ sym (set.contains-union nat_cmp_total numbers (set.from_list ids) q)),
    )
