-- Answers in order.
use Rattle.std.proofs.Common.{◌≡◌, inl, inr, ◌≤◌, length, false, List, [], ◌∷◌, refl, sym, ap, ap₂, ◌∙◌, Ordering, Less, Equal, Greater, is_gt, is_eq, arith}
use Rattle.std.proofs.lemmas.List.Sorted.{length_permutation}
use Rattle.std.specs.Ordering.{ordering_reverse}
use Rattle.std.specs.Cmp.{IsTotalOrder}
use Rattle.std.specs.List.{AllByRecursion}
use Rattle.std.specs.List.Sorted.{IsPermutation, IsSorted}
use Rattle.sqlite_trees.specs.Tree.{IsAscending}
use Rattle.sqlite_trees.proofs.ListLemmas.{along_permutation, ascending_weaker}
use Rattle.sqlite_exec.proofs.PartitionLemmas.{ascending_from_sorted}
use Rattle.sqlite_rules.specs.Lists.{Has}
use Rattle.sqlite_rules.proofs.ListLemmas.{all_has, all_from}
use Rattle.sqlite.proofs.Callers.{one_permutation}

none_permutation : {X : Type 0} (ys : List X) → IsPermutation [] ys → ys ≡ []
none_permutation [] h = refl
none_permutation (y ∷ ys) h = absurd (omega (arith, length_permutation [] (y ∷ ys) h))

-- a list of at most one element has one order
pub short_permutation : {X : Type 0} (xs ys : List X) → length xs ≤ 1 → IsPermutation xs ys → ys ≡ xs
short_permutation [] ys short h = none_permutation ys h
short_permutation (x ∷ []) ys short h = one_permutation x ys h
short_permutation (x ∷ y ∷ xs) ys short h = absurd (omega arith)

-- two lists of the same elements, where each that is apart in one is apart in the other
module _ {X : Type 0} (cmp : X → X → Ordering) (total : IsTotalOrder cmp) where
  abbrev Apart : X → X → Type 0
  Apart a b = is_eq (cmp a b) ≡ false

  abbrev pub Below : X → X → Type 0
  Below a b = cmp a b ≡ Less

  abbrev AtMost : X → X → Type 0
  AtMost a b = is_gt (cmp a b) ≡ false

  -- one list has what the other has, and what is apart there is apart here
  abbrev Alike : List X → List X → Type 0
  Alike xs ys = ((x : X) → Has ys x → Has xs x) × ((x : X) → Has xs x → Has ys x) × (IsAscending Apart xs → IsAscending Apart ys)

  other_way : (a b : X) → Apart a b → Apart b a
  other_way a b h = ap is_eq (total.antisymm b a) ∙ go (cmp a b) h
    where
      go : (o : Ordering) → is_eq o ≡ false → is_eq (ordering_reverse o) ≡ false
      go Less h = refl
      go Equal h = h
      go Greater h = refl

  alike_skip : (x : X) (xs ys : List X) → Alike xs ys → Alike (x ∷ xs) (x ∷ ys)
  alike_skip x xs ys h = (
    λ y k. elim k [ inl e ↦ inl e | inr more ↦ inr (h.0 y more) ],
    λ y k. elim k [ inl e ↦ inl e | inr more ↦ inr (h.1 y more) ],
    λ up. (all_from (Apart x) ys (λ y k. all_has (Apart x) xs y up.0 (h.0 y k)), h.2 up.1),
  )

  turned : (x y : X) (xs : List X) (z : X) → Has (x ∷ y ∷ xs) z → Has (y ∷ x ∷ xs) z
  turned x y xs z (inl e) = inr (inl e)
  turned x y xs z (inr (inl e)) = inl e
  turned x y xs z (inr (inr more)) = inr (inr more)

  alike_turn : (x y : X) (xs : List X) → Alike (x ∷ y ∷ xs) (y ∷ x ∷ xs)
  alike_turn x y xs = (turned y x xs, turned x y xs, λ up. ((other_way x y up.0.0, up.1.0), (up.0.1, up.1.1)))

  alike : (xs ys : List X) → IsPermutation xs ys → Alike xs ys
  alike = along_permutation Alike (λ xs. (λ x h. h, λ x h. h, λ up. up)) alike_skip alike_turn (λ xs ys zs h k. (λ x m. h.0 x (k.0 x m), λ x m. k.1 x (h.1 x m), λ up. k.2 (h.2 up)))

  strictly : (xs : List X) → IsAscending AtMost xs → IsAscending Apart xs → IsAscending Below xs
  strictly [] up apart = tt
  strictly (x ∷ xs) up apart = (all_from (Below x) xs (λ y h. go (cmp x y) (all_has _ xs y up.0 h) (all_has _ xs y apart.0 h)), strictly xs up.1 apart.1)
    where
      go : (o : Ordering) → is_gt o ≡ false → is_eq o ≡ false → o ≡ Less
      go Less p q = refl
      go Equal p q = absurd cc
      go Greater p q = absurd cc

  never_both : (a b : X) → Below a b → Below b a → ⊥
  never_both a b p q = let e = total.antisymm a b ∙ ap ordering_reverse q in cc

  -- two lists that rise and have the same elements are one
  pub same_lists : (xs ys : List X) → IsAscending Below xs → IsAscending Below ys → ((r : X) → Has xs r → Has ys r) → ((r : X) → Has ys r → Has xs r) → xs ≡ ys
  same_lists [] [] p q a b = refl
  same_lists [] (y ∷ ys) p q a b = absurd (b y (inl refl))
  same_lists (x ∷ xs) [] p q a b = absurd (a x (inl refl))
  same_lists (x ∷ xs) (y ∷ ys) p q a b =
      let first : x ≡ y = elim (a x (inl refl)) [
        | inl e ↦ e
        | inr later ↦ elim (b y (inl refl)) [ inl e ↦ sym e | inr also ↦ absurd (never_both x y (all_has _ xs y p.0 also) (all_has _ ys x q.0 later)) ]
      ] in
      let past = λ (z : X) (zs : List X) (up : AllByRecursion (Below z) zs) (r : X) (h : Has zs r) (e : r ≡ z).
      let lower = rw e at (all_has _ zs r up h) in never_both z z lower lower in
      ap₂ ◌∷◌ first (same_lists xs ys p.1 q.1
      (λ r h. elim (a r (inr h)) [ inl e ↦ absurd (past x xs p.0 r h (e ∙ sym first)) | inr k ↦ k ])
      (λ r h. elim (b r (inr h)) [ inl e ↦ absurd (past y ys q.0 r h (e ∙ first)) | inr k ↦ k ]))

  -- a list whose elements rise has one sorted order, its own
  pub sorted_is : (xs ys : List X) → IsAscending Below xs → IsPermutation xs ys → IsSorted cmp ys → ys ≡ xs
  sorted_is xs ys up same sorted =
      let met = alike xs ys same in
      let apart = met.2 (ascending_weaker Below Apart (λ a b h. ap is_eq h) xs up) in
      same_lists ys xs (strictly ys (ascending_from_sorted cmp total ys sorted) apart) up met.0 met.1
