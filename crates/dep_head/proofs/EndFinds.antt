-- The first place where CR LF CR LF stands tells where a head ends.
use Rattle.std.proofs.Common.{◌≡◌, ℕ, suc, zero, ◌+◌, ◌<◌, ◌≤◌, true, false, List, [], ◌∷◌, length, get_or, take, Some, None, if◌then◌else◌, nat_eq, refl, sym, ap, ◌∙◌, arith, length-take, get_or-take, zero-add, inl, inr}
use Rattle.std.proofs.lemmas.Bool.{cases_Bool}
use Rattle.std.proofs.lemmas.Grind.{same_number_lists}
use Rattle.std.proofs.lemmas.Slice.Eq.{bytes_eq-Decides}
use Rattle.std.specs.List.{starts_with}
use Rattle.std.specs.Option.{option_map}
use Rattle.memchr.specs.Find.{OccursAt, FindsNeedle}
use Rattle.dep_head.specs.Head.{head_end, empty_line}

begins_at : (text : List ℕ) → OccursAt text empty_line 0 → starts_with nat_eq text empty_line ≡ true
begins_at text h =
    let fits : 4 ≤ length text = h.fits in
    let len : length (take 4 text) ≡ 4 = simp length-take (omega arith) in
    let same : take 4 text ≡ empty_line =
    same_number_lists _ _ len (λ j below. let b : j < 4 = omega (arith, len, below) in get_or-take 4 text j 0 b ∙ sym (ap (λ i. get_or text i 0) (zero-add j)) ∙ h.reads j b) in
    (bytes_eq-Decides empty_line (take 4 text)).1 (sym same)

occurs_here : (text : List ℕ) → starts_with nat_eq text empty_line ≡ true → OccursAt text empty_line 0
occurs_here text t =
    let same : empty_line ≡ take 4 text = (bytes_eq-Decides empty_line (take 4 text)).0 t in
    let len : 4 ≡ length (take 4 text) = ap length same in
    let least : 4 ≤ length text = omega (arith, simp length-take at len) in
    record {
      fits = least;
      reads = λ j below. ap (λ i. get_or text i 0) (zero-add j) ∙ sym (get_or-take 4 text j 0 below) ∙ ap (λ s. get_or s j 0) (sym same);
    }

occurs_later : (x : ℕ) (xs : List ℕ) (k : ℕ) → OccursAt (x ∷ xs) empty_line (suc k) → OccursAt xs empty_line k
occurs_later x xs k h = record {
  fits = omega (arith, h.fits);
  reads = λ j below. let e : suc k + j ≡ suc (k + j) = omega arith in sym (ap (λ i. get_or (x ∷ xs) i 0) e) ∙ h.reads j below;
}

occurs_shifted : (x : ℕ) (xs : List ℕ) (k : ℕ) → OccursAt xs empty_line k → OccursAt (x ∷ xs) empty_line (suc k)
occurs_shifted x xs k h = record {
  fits = omega (arith, h.fits);
  reads = λ j below. let e : suc k + j ≡ suc (k + j) = omega arith in ap (λ i. get_or (x ∷ xs) i 0) e ∙ h.reads j below;
}

end_here : (x : ℕ) (xs : List ℕ) → starts_with nat_eq (x ∷ xs) empty_line ≡ true → head_end (x ∷ xs) ≡ Some 4
unfolding head_end
end_here x xs t = ap (λ b. if b then Some 4 else option_map suc (head_end xs)) t

end_later : (x : ℕ) (xs : List ℕ) → starts_with nat_eq (x ∷ xs) empty_line ≡ false → head_end (x ∷ xs) ≡ option_map suc (head_end xs)
unfolding head_end
end_later x xs t = ap (λ b. if b then Some 4 else option_map suc (head_end xs)) t

pub end_nil : head_end [] ≡ None
unfolding head_end
end_nil = refl

-- CR LF CR LF stands first at k
pub end_found : (text : List ℕ) (k : ℕ) → OccursAt text empty_line k → ((m : ℕ) → m < k → ¬ OccursAt text empty_line m)
    → head_end text ≡ Some (k + 4)
end_found [] k h none = absurd (let f : k + 4 ≤ 0 = h.fits in omega arith)
end_found (x ∷ xs) zero h none = end_here x xs (begins_at (x ∷ xs) h)
end_found (x ∷ xs) (suc k) h none =
    elim (cases_Bool (starts_with nat_eq (x ∷ xs) empty_line)) [
      | inl t ↦ absurd (none 0 (omega arith) (occurs_here (x ∷ xs) t))
      | inr f ↦
          let later = end_found xs k (occurs_later x xs k h) (λ m below o. none (suc m) (omega arith) (occurs_shifted x xs m o)) in
          let e : suc (k + 4) ≡ suc k + 4 = omega arith in
          end_later x xs f ∙ ap (option_map suc) later ∙ ap Some e
    ]

-- CR LF CR LF stands nowhere
pub end_none : (text : List ℕ) → ((m : ℕ) → ¬ OccursAt text empty_line m) → head_end text ≡ None
end_none [] none = end_nil
end_none (x ∷ xs) none =
    elim (cases_Bool (starts_with nat_eq (x ∷ xs) empty_line)) [
      | inl t ↦ absurd (none 0 (occurs_here (x ∷ xs) t))
      | inr f ↦ end_later x xs f ∙ ap (option_map suc) (end_none xs (λ m o. none (suc m) (occurs_shifted x xs m o)))
    ]

pub found_end : (text : List ℕ) (k : ℕ) → FindsNeedle text empty_line 0 (Some k) → head_end text ≡ Some (k + 4)
found_end text k h = end_found text k h.1 (λ m below. h.0.before m (omega arith) below)

pub found_none : (text : List ℕ) → FindsNeedle text empty_line 0 None → head_end text ≡ None
found_none text h =
    end_none text (λ m o. let f : m + 4 ≤ length text = o.fits in h m (omega arith) (omega arith) o)
