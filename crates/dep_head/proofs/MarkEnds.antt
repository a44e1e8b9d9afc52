-- Where the first mark in bytes ends.
use Rattle.std.proofs.Common.{◌≡◌, ℕ, suc, ◌<◌, ◌≤◌, Bool, true, false, List, [], ◌∷◌, ◌++◌, take, length, Option, Some, None, if◌then◌else◌, nat_eq, refl, sym, ap, length-take, ◌∙◌, ◌⊎◌, inl, inr, arith}
use Rattle.std.proofs.lemmas.List.{take-append-le}
use Rattle.std.proofs.lemmas.Slice.Eq.{bytes_eq-Decides}
use Rattle.std.specs.List.{starts_with}
use Rattle.std.specs.Cmp.Lexicographic.{pointwise}
use Rattle.std.specs.Option.{option_map}
use Rattle.dep_head.specs.Marks.{mark_end}

pub some_suc : (o : Option ℕ) (n : ℕ) → option_map suc o ≡ Some n → (m : ℕ) × (o ≡ Some m) × (n ≡ suc m)
some_suc None n e = cc
some_suc (Some m) n e = (m, refl, cc)

pub none_suc : (o : Option ℕ) → option_map suc o ≡ None → o ≡ None
none_suc None e = refl
none_suc (Some m) e = cc

pub some_none : (n : ℕ) → Some n ≡ None → ⊥
some_none n e = cc

pub none_or : (o : Option ℕ) → ((m : ℕ) → o ≡ Some m → ⊥) → o ≡ None
none_or None f = refl
none_or (Some m) f = absurd (f m refl)

-- the choice of `mark_end`, for a test that is given
unfoldable pub end_if : Bool → List ℕ → List ℕ → Option ℕ
end_if b mark bytes = if b then Some (length mark) else option_map suc (mark_end mark bytes)

pub end_is : (mark : List ℕ) (x : ℕ) (bytes : List ℕ) → mark_end mark (x ∷ bytes) ≡ end_if (starts_with nat_eq (x ∷ bytes) mark) mark bytes
unfolding mark_end end_if
end_is mark x bytes = refl

-- as many bytes as the mark has decide whether it stands first
begins_more : (mark bytes more : List ℕ) → length mark ≤ length bytes → starts_with nat_eq (bytes ++ more) mark ≡ starts_with nat_eq bytes mark
begins_more mark bytes more fits = ap (λ l. pointwise nat_eq mark l) (take-append-le (length mark) bytes more fits)

begins_fits : (mark bytes : List ℕ) → starts_with nat_eq bytes mark ≡ true → length mark ≤ length bytes
begins_fits mark bytes t =
    let same : mark ≡ take (length mark) bytes = (bytes_eq-Decides mark (take (length mark) bytes)).0 t in
    let size : length mark ≡ length (take (length mark) bytes) = ap length same in
    omega (arith, simp length-take at size)

-- the end of the mark at the front, or one that stands later
pub ends_by : (mark : List ℕ) (x n : ℕ) (bytes : List ℕ) → mark_end mark (x ∷ bytes) ≡ Some n
    → ((starts_with nat_eq (x ∷ bytes) mark ≡ true) × (n ≡ length mark) × (length mark ≤ length (x ∷ bytes)))
    ⊎ ((m : ℕ) × (starts_with nat_eq (x ∷ bytes) mark ≡ false) × (mark_end mark bytes ≡ Some m) × (n ≡ suc m))
unfolding end_if
ends_by mark x n bytes e =
    by (starts_with nat_eq (x ∷ bytes) mark) refl (sym (end_is mark x bytes) ∙ e)
  where
    by : (t : Bool) → starts_with nat_eq (x ∷ bytes) mark ≡ t → end_if t mark bytes ≡ Some n
        → ((starts_with nat_eq (x ∷ bytes) mark ≡ true) × (n ≡ length mark) × (length mark ≤ length (x ∷ bytes)))
        ⊎ ((m : ℕ) × (starts_with nat_eq (x ∷ bytes) mark ≡ false) × (mark_end mark bytes ≡ Some m) × (n ≡ suc m))
    by true t f = inl (t, cc, begins_fits mark (x ∷ bytes) t)
    by false t f = let m = some_suc (mark_end mark bytes) n f in inr (m.0, t, m.1, m.2)

-- an end lies within the bytes, and no earlier than a mark's length
pub end_within : (mark bytes : List ℕ) (n : ℕ) → mark_end mark bytes ≡ Some n → (length mark ≤ n) × (n ≤ length bytes)
unfolding mark_end
end_within mark [] n e = absurd (some_none n (sym e))
end_within mark (x ∷ bytes) n e =
    elim (ends_by mark x n bytes e) [
      | inl h ↦ let same : n ≡ length mark = h.1 in let fits : length mark ≤ length (x ∷ bytes) = h.2 in (omega arith, omega arith)
      | inr h ↦
          let w = end_within mark bytes h.0 h.2 in
          let same : n ≡ suc h.0 = h.3 in
          (omega (arith, w.0), omega (arith, w.1))
    ]

-- what ends still ends there when more bytes come
pub end_more : (mark bytes more : List ℕ) (n : ℕ) → mark_end mark bytes ≡ Some n → mark_end mark (bytes ++ more) ≡ Some n
unfolding mark_end end_if
end_more mark [] more n e = absurd (some_none n (sym e))
end_more mark (x ∷ bytes) more n e =
    let fits : length mark ≤ length (x ∷ bytes) = let w = end_within mark (x ∷ bytes) n e in omega (arith, w.0, w.1) in
    elim (ends_by mark x n bytes e) [
      | inl h ↦ ap (λ t. end_if t mark (bytes ++ more)) (begins_more mark (x ∷ bytes) more fits ∙ h.0) ∙ ap Some (sym h.1)
      | inr h ↦
          ap (λ t. end_if t mark (bytes ++ more)) (begins_more mark (x ∷ bytes) more fits ∙ h.1)
          ∙ ap (option_map suc) (end_more mark bytes more h.0 h.2) ∙ ap Some (sym h.3)
    ]

-- an end that lies in a front is the front's
pub end_front : (mark bytes more : List ℕ) (n : ℕ) → 0 < length mark → mark_end mark (bytes ++ more) ≡ Some n → n ≤ length bytes → mark_end mark bytes ≡ Some n
unfolding mark_end end_if
end_front mark [] more n some e l = let w = end_within mark more n e in absurd (omega (arith, w.0, some, l))
end_front mark (x ∷ bytes) more n some e l =
    let fits : length mark ≤ length (x ∷ bytes) = let w = end_within mark (x ∷ bytes ++ more) n e in omega (arith, w.0, l) in
    elim (ends_by mark x n (bytes ++ more) e) [
      | inl h ↦ ap (λ t. end_if t mark bytes) (sym (begins_more mark (x ∷ bytes) more fits) ∙ h.0) ∙ ap Some (sym h.1)
      | inr h ↦
          ap (λ t. end_if t mark bytes) (sym (begins_more mark (x ∷ bytes) more fits) ∙ h.1)
          ∙ ap (option_map suc) (end_front mark bytes more h.0 some h.2 (omega (arith, l, h.3))) ∙ ap Some (sym h.3)
    ]
