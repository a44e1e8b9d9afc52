-- Whether a name stands twice, as the names come.
use Rattle.std.proofs.Common.{◌≡◌, ◌||◌, ◌∙◌, ℕ, Bool, true, false, List, [], ◌∷◌, ◌++◌, cond, bytes_eq, refl, inl, inr}
use Rattle.std.proofs.lemmas.Bool.{cases_Bool}
use Rattle.std.proofs.lemmas.Cmp.{nat_list_eq_equiv}
use Rattle.std.proofs.lemmas.List.Folds.{list_any-append}
use Rattle.std.proofs.lemmas.Map.Keys.{IsDistinct-push}
use Rattle.std.specs.List.{IsDistinct, AllByRecursion, list_any}
use Rattle.std.specs.Cmp.Lexicographic.{slice_cmp}
use Rattle.std.specs.Ordering.{nat_cmp, is_eq}
use Rattle.std.proofs.lemmas.Map.Text.{is_eq-slice_cmp}

pub distinct-nil : IsDistinct bytes_eq []
unfolding IsDistinct
distinct-nil = tt

pub distinct-more : (names : List (List ℕ)) (x : List ℕ) → IsDistinct bytes_eq names → list_any (λ n. bytes_eq x n) names ≡ false → IsDistinct bytes_eq (names ++ x ∷ [])
distinct-more names x h other = IsDistinct-push nat_list_eq_equiv names x h other

all_at : (P : List ℕ → Type 0) (front : List (List ℕ)) (x : List ℕ) (back : List (List ℕ)) → AllByRecursion P (front ++ x ∷ back) → P x
all_at P [] x back h = h.0
all_at P (y ∷ front) x back h = all_at P front x back h.1

pub not_distinct : (front : List (List ℕ)) (x : List ℕ) (back : List (List ℕ)) → list_any (λ n. bytes_eq x n) front ≡ true → IsDistinct bytes_eq (front ++ x ∷ back) → ⊥
unfolding IsDistinct
not_distinct [] x back h is = cc h
not_distinct (y ∷ front) x back h is = elim (cases_Bool (bytes_eq x y)) [
  | inl same ↦
      let other = all_at (λ n. bytes_eq y n ≡ false) front x back is.0 in
      let flipped = nat_list_eq_equiv.symm x y in
      cc (same, other, flipped)
  | inr apart ↦ not_distinct front x back (rw apart at h) is.1
]

either : (same any : Bool) → cond same true any ≡ (any || (same || false))
either true true = refl
either true false = refl
either false true = refl
either false false = refl

joined_any : (names : List (List ℕ)) (x k : List ℕ) → cond (bytes_eq x k) true (list_any (λ n. bytes_eq k n) names) ≡ list_any (λ n. bytes_eq k n) (names ++ x ∷ [])
joined_any names x k =
    rw (list_any-append (λ n. bytes_eq k n) names (x ∷ []), nat_list_eq_equiv.symm k x)
    (either (bytes_eq x k) (list_any (λ n. bytes_eq k n) names))

-- what an insertion of a name makes of the test whether one is held
pub held-more : (names : List (List ℕ)) (x k : List ℕ) (new old : Bool) → new ≡ cond (is_eq (slice_cmp nat_cmp x k)) true old
    → old ≡ list_any (λ n. bytes_eq k n) names → new ≡ list_any (λ n. bytes_eq k n) (names ++ x ∷ [])
held-more names x k new old h held = h ∙ rw (is_eq-slice_cmp x k, held) (joined_any names x k)
