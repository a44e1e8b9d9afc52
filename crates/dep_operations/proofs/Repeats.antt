-- Whether a number stands twice, as the numbers come.
use Rattle.std.proofs.Common.{◌≡◌, ◌∙◌, ◌==◌, ◌||◌, ℕ, Bool, true, false, not, cond, List, [], ◌∷◌, nat_eq, nat_cmp, refl, sym, ap}
use Rattle.std.specs.Ordering.{is_eq}
use Rattle.std.specs.List.{list_any}
use Rattle.dep_decisions.specs.Rules.{occurs_twice}
use Rattle.dep_operations.specs.Walks.{stands_again}
use Rattle.dep_operations.proofs.Tests.{test_is}

-- tests that agree at each number
again_same : (p q : ℕ → Bool) (us : List ℕ) → ((k : ℕ) → p k ≡ q k) → stands_again p us ≡ stands_again q us
unfolding stands_again
again_same p q [] e = refl
again_same p q (u ∷ us) e =
    ap (λ b. b || stands_again (λ k. p k || u == k) us) (e u)
    ∙ ap (λ b. q u || b) (again_same (λ k. p k || u == k) (λ k. q k || u == k) us (λ k. ap (λ b. b || u == k) (e k)))

any_either : (p : ℕ → Bool) (u : ℕ) (us : List ℕ) → list_any (λ k. p k || u == k) us ≡ (list_any p us || list_any (nat_eq u) us)
any_either p u [] = refl
any_either p u (k ∷ us) = ap (λ b. (p k || u == k) || b) (any_either p u us) ∙ shuffled (p k) (u == k) (list_any p us) (list_any (nat_eq u) us)
  where
    shuffled : (a b c d : Bool) → ((a || b) || (c || d)) ≡ ((a || c) || (b || d))
    shuffled false true true d = refl
    shuffled _ _ _ _ = refl

again_is : (p : ℕ → Bool) (us : List ℕ) → stands_again p us ≡ (list_any p us || occurs_twice us)
unfolding stands_again occurs_twice
again_is p [] = refl
again_is p (u ∷ us) =
    ap (λ b. p u || b) (again_is (λ k. p k || u == k) us ∙ ap (λ b. b || occurs_twice us) (any_either p u us))
    ∙ joined (p u) (list_any p us) (list_any (nat_eq u) us) (occurs_twice us)
  where
    joined : (a b c d : Bool) → (a || ((b || c) || d)) ≡ ((a || b) || (c || d))
    joined false true c d = refl
    joined _ _ _ _ = refl

nothing_before : (us : List ℕ) → list_any (λ k. false) us ≡ false
nothing_before [] = refl
nothing_before (u ∷ us) = nothing_before us

-- at the start nothing stands before
pub again_from_start : (p : ℕ → Bool) (us : List ℕ) → ((k : ℕ) → p k ≡ false) → occurs_twice us ≡ stands_again p us
again_from_start p us none =
    sym (again_same p (λ k. false) us none ∙ again_is (λ k. false) us ∙ ap (λ b. b || occurs_twice us) (nothing_before us))

pub again_empty : (p : ℕ → Bool) → stands_again p [] ≡ false
unfolding stands_again
again_empty p = refl

pub again_found : (p : ℕ → Bool) (u : ℕ) (us : List ℕ) → p u ≡ true → stands_again p (u ∷ us) ≡ true
unfolding stands_again
again_found p u us held = ap (λ b. b || stands_again (λ k. p k || u == k) us) held

one_more : (a b c : Bool) → c ≡ cond a true b → c ≡ (b || a)
one_more true true c e = e
one_more _ true c e = e
one_more _ _ c e = e

pub again_more : (p q : ℕ → Bool) (u : ℕ) (us : List ℕ) → p u ≡ false → ((k : ℕ) → q k ≡ cond (is_eq (nat_cmp u k)) true (p k))
    → stands_again p (u ∷ us) ≡ stands_again q us
unfolding stands_again
again_more p q u us new grown =
    ap (λ b. b || stands_again (λ k. p k || u == k) us) new
    ∙ again_same (λ k. p k || u == k) q us (λ k. sym (one_more (u == k) (p k) (q k) (grown k ∙ ap (λ b. cond b true (p k)) (test_is u k))))

pub not_false : (b : Bool) → false ≡ not b → b ≡ true
not_false true h = refl
not_false false h = cc h

pub not_true : (b : Bool) → true ≡ not b → b ≡ false
not_true true h = cc h
not_true false h = refl
