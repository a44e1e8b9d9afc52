-- Membership in lists that are mapped, filtered and permuted.
use Rattle.std.proofs.Common.{◌≡◌, inl, inr, Bool, true, false, not, ◌||◌, List, [], ◌∷◌, map, filter, refl, ap}
use Rattle.std.specs.List.{AllByRecursion}
use Rattle.std.specs.List.Sorted.{IsPermutation}
use Rattle.sqlite_rules.specs.Lists.{Has}
use Rattle.sqlite_rules.proofs.ListLemmas.{all_has, all_from}
use Rattle.sqlite_trees.proofs.ListLemmas.{all-permutation}

pub has_mapped : {A B : Type 0} (f : A → B) (xs : List A) (x : A) → Has xs x → Has (map f xs) (f x)
has_mapped f [] x h = absurd h
has_mapped f (y ∷ xs) x (inl same) = inl (ap f same)
has_mapped f (y ∷ xs) x (inr later) = inr (has_mapped f xs x later)

pub mapped_from : {A B : Type 0} (f : A → B) (xs : List A) (b : B) → Has (map f xs) b → (x : A) × Has xs x × (b ≡ f x)
mapped_from f [] b h = absurd h
mapped_from f (y ∷ xs) b (inl same) = (y, inl refl, same)
mapped_from f (y ∷ xs) b (inr later) = let found = mapped_from f xs b later in (found.0, inr found.1, found.2)

pub permuted_from : {A : Type 0} (xs ys : List A) (x : A) → IsPermutation xs ys → Has ys x → Has xs x
permuted_from xs ys x same h = all_has (Has xs) ys x (all-permutation (Has xs) xs ys same (all_from (Has xs) xs (λ y k. k))) h

-- a filter of what a filter left
pub filter_again : {A : Type 0} (p q : A → Bool) (xs : List A) → filter (λ x. not (q x)) (filter (λ x. not (p x)) xs) ≡ filter (λ x. not (p x || q x)) xs
filter_again p q [] = refl
filter_again p q (x ∷ xs) = go (p x) refl (filter_again p q xs)
  where
    go : (b : Bool) → p x ≡ b → filter (λ y. not (q y)) (filter (λ y. not (p y)) xs) ≡ filter (λ y. not (p y || q y)) xs
        → filter (λ y. not (q y)) (filter (λ y. not (p y)) (x ∷ xs)) ≡ filter (λ y. not (p y || q y)) (x ∷ xs)
    go true is more = rw is more
    go false is more = rw (is, more) refl

pub map_same : {A B : Type 0} (f g : A → B) (xs : List A) → AllByRecursion (λ x. f x ≡ g x) xs → map f xs ≡ map g xs
map_same f g [] h = refl
map_same f g (x ∷ xs) h = rw (h.0, map_same f g xs h.1)
