-- Runs of octets at the front of a text.
use Rattle.std.proofs.Common.{◌≡◌, ◌+◌, ◌==◌, ◌&&◌, not, ℕ, Bool, true, false, List, [], ◌∷◌, ◌++◌, length, take, drop, cond, refl, sym, arith, inl, inr, ◌⊎◌, zero-add, add-zero}
use Rattle.std.proofs.Math.Numerals.{one-add}
use Rattle.std.proofs.Math.Seq.{drop-append-add}
use Rattle.std.proofs.lemmas.Bool.{cases_Bool}
use Rattle.std.proofs.lemmas.Bool.Decides.{nat_tests}
use Rattle.std.specs.List.{list_all, prefix_len}

pub and_both : (a b : Bool) → (a && b) ≡ true → (a ≡ true) × (b ≡ true)
and_both true b h = (refl, h)
and_both false b h = cc h

pub not_both : (b : Bool) → b ≡ true → b ≡ false → ⊥
not_both true h e = cc e
not_both false h e = cc h

pub not_is : (a : Bool) → not a ≡ true → a ≡ false
not_is true h = cc h
not_is false h = refl

pub same_number : (a b : ℕ) → (a == b) ≡ true → a ≡ b
same_number a b h = grind (arith, nat_tests)

pub chosen : {A : Type 0} (b : Bool) (x y z : A) → cond b x y ≡ z → ((b ≡ true) × (x ≡ z)) ⊎ ((b ≡ false) × (y ≡ z))
chosen true x y z h = inl (refl, h)
chosen false x y z h = inr (refl, h)

pub prefix_len-run : (p : ℕ → Bool) (run rest : List ℕ) → list_all p run ≡ true → prefix_len p (run ++ rest) ≡ length run + prefix_len p rest
prefix_len-run p [] rest h = sym (zero-add (prefix_len p rest))
prefix_len-run p (x ∷ run) rest h =
    let both = and_both (p x) (list_all p run) h in
    let later = prefix_len-run p run rest both.1 in
    rw (both.0, later) (omega arith)

pub drop-run : (p : ℕ → Bool) (run rest : List ℕ) → list_all p run ≡ true
    → drop (prefix_len p (run ++ rest)) (run ++ rest) ≡ drop (prefix_len p rest) rest
drop-run p run rest h = rw (prefix_len-run p run rest h) (drop-append-add run rest (prefix_len p rest))

pub prefix_len-stopped : (p : ℕ → Bool) (run rest : List ℕ) → list_all p run ≡ true → prefix_len p rest ≡ 0
    → prefix_len p (run ++ rest) ≡ length run
prefix_len-stopped p run rest h stops = rw (prefix_len-run p run rest h, stops) (add-zero (length run))

pub run-passes : (p : ℕ → Bool) (xs : List ℕ) → list_all p (take (prefix_len p xs) xs) ≡ true
run-passes p [] = refl
run-passes p (x ∷ xs) = elim (cases_Bool (p x)) [
  | inl passes ↦
      let later = run-passes p xs in
      rw (passes, one-add, passes) later
  | inr fails ↦ rw fails refl
]
