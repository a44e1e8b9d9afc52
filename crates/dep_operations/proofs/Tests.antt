-- Tests of numbers.
use Rattle.std.proofs.Common.{◌≡◌, ◌≢◌, ◌∙◌, ℕ, ◌==◌, true, false, nat_cmp, arith, eq-eqb, inl, inr, sym, ap}
use Rattle.std.proofs.lemmas.Bool.{cases_Bool}
use Rattle.std.proofs.lemmas.Bool.Decides.{nat_tests}
use Rattle.std.specs.Ordering.{is_eq}
use Rattle.std.specs.Cmp.{nat_cmp_total, tied_itself}
use Rattle.dep_types.proofs.Kept.{tied}

equal : (k q : ℕ) → (k == q) ≡ true → k ≡ q
equal k q h = grind (arith, nat_tests)

differs : (k q : ℕ) → (k == q) ≡ false → k ≢ q
differs k q h = λ same. let here : (k == q) ≡ true = eq-eqb k q same in cc (here, h)

-- what the order tells of two numbers
pub test_is : (u k : ℕ) → is_eq (nat_cmp u k) ≡ (u == k)
test_is u k = elim (cases_Bool (u == k)) [
  | inl here ↦ ap (λ n. is_eq (nat_cmp u n)) (sym (equal u k here)) ∙ ap is_eq (tied_itself nat_cmp_total u) ∙ sym here
  | inr apart ↦ tied u k (differs u k apart) ∙ sym apart
]
