-- The segments that are waited for, number by number, while the received ones are passed.
use Rattle.std.proofs.Common.{◌≡◌, ◌≢◌, ◌∙◌, ◌+◌, ◌<◌, ◌≤◌, ◌==◌, ℕ, Bool, true, false, not, cond, List, [], ◌∷◌, ◌++◌, map, refl, sym, ap, subst, arith, ◌&&◌, nat_lt, append_assoc, append-nil}
use Rattle.std.specs.Prelude.{⊤, filter}
use Rattle.std.specs.List.{AllByRecursion, list_any, range_with_len}
use Rattle.std.proofs.lemmas.Bool.{ltb-true}
use Rattle.std.proofs.lemmas.Bool.Decides.{nat_tests}
use Rattle.std.proofs.lemmas.List.Folds.{list_any-append}
use Rattle.std.proofs.lemmas.List.FromFn.{filter_of_map_range_with_len_more}
use Rattle.dep_docs_out.specs.Documents.{expecting}
use Rattle.dep_docs_out.specs.Segments.{are_segments, rises_above}

-- each number is above the one before it, the first above n
abbrev Above : ℕ → List ℕ → Type 0
Above n [] = ⊤
Above n (x ∷ xs) = (n < x) × Above x xs

-- of the received numbers these are left once all up to a number were passed
pub record IsLeft (passed : ℕ) (received left : List ℕ) : Type 0 where
  pub front : List ℕ
  pub parts : received ≡ front ++ left
  pub below : AllByRecursion (λ j. j ≤ passed) front
  pub above : Above passed left

first-true : (a b : Bool) → (a && b) ≡ true → a ≡ true
first-true true b e = refl
first-true false b e = e

second-true : (a b : Bool) → (a && b) ≡ true → b ≡ true
second-true true b e = e
second-true false b e = cc

above : (n : ℕ) (xs : List ℕ) → rises_above n xs ≡ true → Above n xs
unfolding rises_above
above n [] e = tt
above n (x ∷ xs) e = (ltb-true n x (first-true (nat_lt n x) (rises_above x xs) e), above x xs (second-true (nat_lt n x) (rises_above x xs) e))

pub all_left : (received : List ℕ) → are_segments received ≡ true → IsLeft 0 received received
all_left received ordered = record {
  front = [];
  parts = refl;
  below = tt;
  above = above 0 received ordered;
}

not_above : (k n : ℕ) (xs : List ℕ) → k ≤ n → Above n xs → list_any (λ j. j == k) xs ≡ false
not_above k n [] h a = refl
not_above k n (x ∷ xs) h a =
    let later = not_above k x xs (omega (arith, a.0)) a.1 in
    let other : (x == k) ≡ false = grind (arith, nat_tests, a.0) in
    rw (other, later) refl

not_below : (k n : ℕ) (xs : List ℕ) → n < k → AllByRecursion (λ j. j ≤ n) xs → list_any (λ j. j == k) xs ≡ false
not_below k n [] h a = refl
not_below k n (x ∷ xs) h a =
    let later = not_below k n xs h a.1 in
    let other : (x == k) ≡ false = grind (arith, nat_tests, a.0) in
    rw (other, later) refl

more_below : (n m : ℕ) (xs : List ℕ) → n ≤ m → AllByRecursion (λ j. j ≤ n) xs → AllByRecursion (λ j. j ≤ m) xs
more_below n m [] h a = tt
more_below n m (x ∷ xs) h a = (omega (arith, a.0), more_below n m xs h a.1)

below_last : (n x : ℕ) (xs : List ℕ) → x ≤ n → AllByRecursion (λ j. j ≤ n) xs → AllByRecursion (λ j. j ≤ n) (xs ++ x ∷ [])
below_last n x [] h a = (h, tt)
below_last n x (y ∷ xs) h a = (a.0, below_last n x xs h a.1)

map_same : (xs : List ℕ) → map (λ x. x) xs ≡ xs
map_same [] = refl
map_same (x ∷ xs) = ap (λ ys. x ∷ ys) (map_same xs)

-- one more number, which is waited for or not
next : (n : ℕ) (received : List ℕ) → expecting (n + 1) received ≡ expecting n received ++ cond (not (list_any (λ j. j == n + 1) received)) ((n + 1) ∷ []) []
next n received =
    let p : ℕ → Bool = λ k. not (list_any (λ j. j == k) received) in
    ap (filter p) (sym (map_same (range_with_len 1 (n + 1))))
    ∙ filter_of_map_range_with_len_more p (λ x. x) 1 n (n + 1) (omega arith)
    ∙ ap (λ (ys : List ℕ). filter p ys ++ cond (p (n + 1)) ((n + 1) ∷ []) []) (map_same (range_with_len 1 n))

pub received_next : {n : ℕ} {received : List ℕ} (x : ℕ) (rest : List ℕ) → x ≡ n + 1 → IsLeft n received (x ∷ rest) → IsLeft (n + 1) received rest
received_next {n} {received} x rest is h = record {
  front = h.front ++ x ∷ [];
  parts = h.parts ∙ sym (append_assoc h.front (x ∷ []) rest);
  below = below_last (n + 1) x h.front (omega arith) (more_below n (n + 1) h.front (omega arith) h.below);
  above = subst (λ y. Above y rest) is h.above.1;
}

pub expecting_same : {n : ℕ} {received : List ℕ} (x : ℕ) (rest : List ℕ) → x ≡ n + 1 → IsLeft n received (x ∷ rest) → expecting (n + 1) received ≡ expecting n received
expecting_same {n} {received} x rest is h =
    let here : (x == n + 1) ≡ true = grind (arith, nat_tests) in
    let before = not_below (n + 1) n h.front (omega arith) h.below in
    let there : list_any (λ j. j == n + 1) received ≡ true =
    ap (list_any (λ j. j == n + 1)) h.parts ∙ list_any-append (λ j. j == n + 1) h.front (x ∷ rest) ∙ rw (before, here) refl in
    next n received ∙ rw there (append-nil (expecting n received))

-- the first number that is left isn't the next one
abbrev pub IsNotFirst : ℕ → List ℕ → Type 0
IsNotFirst k [] = ⊤
IsNotFirst k (x ∷ xs) = x ≢ k

above_next : (n : ℕ) (xs : List ℕ) → IsNotFirst (n + 1) xs → Above n xs → Above (n + 1) xs
above_next n [] other a = tt
above_next n (x ∷ xs) other a = (omega (arith, other, a.0), a.1)

pub expected_next : {n : ℕ} {received left : List ℕ} → IsNotFirst (n + 1) left → IsLeft n received left → IsLeft (n + 1) received left
expected_next {n} {received} {left} other h = record {
  front = h.front;
  parts = h.parts;
  below = more_below n (n + 1) h.front (omega arith) h.below;
  above = above_next n left other h.above;
}

pub expecting_more : {n : ℕ} {received left : List ℕ} → IsNotFirst (n + 1) left → IsLeft n received left → expecting (n + 1) received ≡ expecting n received ++ ((n + 1) ∷ [])
expecting_more {n} {received} {left} other h =
    let before = not_below (n + 1) n h.front (omega arith) h.below in
    let after = not_above (n + 1) (n + 1) left (omega arith) (above_next n left other h.above) in
    let gone : list_any (λ j. j == n + 1) received ≡ false =
    ap (list_any (λ j. j == n + 1)) h.parts ∙ list_any-append (λ j. j == n + 1) h.front left ∙ rw (before, after) refl in
    next n received ∙ rw gone refl
