-- Entries of a map whose keys are numbers, in their order.
use Rattle.std.proofs.Common.{◌≡◌, ◌≢◌, ◌⊎◌, inl, inr, ℕ, ◌+◌, ◌<◌, ◌≤◌, Bool, true, false, ◌&&◌, T, List, [], ◌∷◌, length, cond, Some, None, refl, ap, ◌∙◌, nat_cmp, is_eq, is_lt, arith}
use Rattle.std.proofs.lemmas.Cmp.{nat_cmp_total, tied_itself}
use Rattle.std.proofs.lemmas.Bool.{cases_lt}
use Rattle.std.specs.FinMap.Entries as entries
use Rattle.dep_row_maps.proofs.Lens.{tied_not}
use Rattle.dep_row_maps.proofs.Blocks.{number_order}
use Rattle.dep_row_maps.proofs.Spreads.{less}

pub both : (a b : Bool) → T (a && b) → T a × T b
both true b h = (tt, h)
both false b h = absurd h

module _ {X : Type 0} where
  -- another key is looked for behind an entry
  pub passed : (q x : ℕ) (v : X) (es : List (ℕ × X)) → q ≢ x → entries.find nat_cmp q ((x, v) ∷ es) ≡ entries.find nat_cmp q es
  passed q x v es apart = ap (λ b. cond b (Some v) (entries.find nat_cmp q es)) (tied_not q x apart)

  -- no key is found that is not above the least bound
  pub none_below : (x q : ℕ) (es : List (ℕ × X)) → T (entries.below_all nat_cmp x es) → q ≤ x → entries.find nat_cmp q es ≡ None
  none_below x q [] h low = refl
  none_below x q (e ∷ es) h low =
      let parts = both (is_lt (nat_cmp x e.0)) (entries.below_all nat_cmp x es) h in
      let order : x < e.0 = number_order x e.0 (less (nat_cmp x e.0) parts.0) in
      passed q e.0 e.1 es (λ same. omega (arith, order, low, same)) ∙ none_below x q es parts.1 low

  -- so the keys of what is found are above it
  pub above_at : (k q : ℕ) (x : X) (es : List (ℕ × X)) → T (entries.below_all nat_cmp k es) → entries.find nat_cmp q es ≡ Some x → k < q
  above_at k q x es rising found = go (cases_lt k q)
    where
      go : (k < q) ⊎ (q ≤ k) → k < q
      go (inl above) = above
      go (inr low) = absurd (let none = none_below k q es rising low in cc)

  -- there are no more entries than numbers in the range of their keys
  pub no_more_than : (low high : ℕ) (es : List (ℕ × X)) → T (entries.is_sorted nat_cmp es) → ((q : ℕ) (x : X) → entries.find nat_cmp q es ≡ Some x → (low ≤ q) × (q < high)) → low ≤ high → low + length es ≤ high
  no_more_than low high [] sorted within start = omega (arith, start)
  no_more_than low high (e ∷ es) sorted within start =
      let parts = both (entries.below_all nat_cmp e.0 es) (entries.is_sorted nat_cmp es) sorted in
      let first = within e.0 e.1 (ap (λ b. cond b (Some e.1) (entries.find nat_cmp e.0 es)) (ap is_eq (tied_itself nat_cmp_total e.0))) in
      let rest = no_more_than (e.0 + 1) high es parts.1 (λ q x found.
      let later = above_at e.0 q x es parts.0 found in
      let there = within q x (passed q e.0 e.1 es (λ same. omega (arith, later, same)) ∙ found) in
      (omega (arith, later), there.1)) (omega (arith, first.1)) in
      omega (arith, first.0, rest)
