-- The assembled bytes of a complete upload are as many as it said.
use Rattle.std.proofs.Common.{◌≡◌, ◌∙◌, ℕ, zero, suc, ◌+◌, ◌-◌, ◌*◌, ◌<◌, ◌≤◌, ◌==◌, nat_lt, nat_le, Bool, true, false, List, [], length, Option, Some, None, is_some, unwrap_or, refl, sym, ap, subst, arith, suc-mul, if◌then◌else◌}
use Rattle.std.proofs.lemmas.Bool.Decides.{nat_tests}
use Rattle.std.proofs.lemmas.List.{length-append}
use Rattle.std.specs.List.{flat_map, list_all, range_with_len}
use Rattle.std.specs.FinMap as map
use Rattle.dep_types.specs.State.{State, Upload}
use Rattle.dep_types.specs.Uploads.{assembled, has_segment, is_complete, segment_length}
use Rattle.dep_types.specs.Sound.{IsSoundUpload}
use Rattle.dep_params.proofs.Runs.{and_both}

-- pieces of one length, and a last one of its own
lengths_joined : (piece : ℕ → List ℕ) (one last m a : ℕ) → ((k : ℕ) → a ≤ k → k < a + m → length (piece k) ≡ one)
    → length (piece (a + m)) ≡ last → length (flat_map piece (range_with_len a (suc m))) ≡ m * one + last
lengths_joined piece one last zero a each end =
    length-append (piece a) []
    ∙ ap (λ n. n + 0) (ap (λ k. length (piece k)) (from_zero a) ∙ end)
    ∙ plain last where
      from_zero : (a : ℕ) → a ≡ a + 0
      from_zero a = omega arith

      plain : (n : ℕ) → n + 0 ≡ 0 * one + n
      plain n = omega arith
lengths_joined piece one last (suc m) a each end =
    length-append (piece a) (flat_map piece (range_with_len (a + 1) (suc m)))
    ∙ ap (λ n. n + length (flat_map piece (range_with_len (a + 1) (suc m)))) (each a (below a) (above a m))
    ∙ ap (λ n. one + n) (lengths_joined piece one last m (a + 1) (λ k low high. each k (lower a k low) (higher a m k high)) (ap (λ k. length (piece k)) (sym (shifted a m)) ∙ end))
    ∙ more m where
      below : (a : ℕ) → a ≤ a
      below a = omega arith

      above : (a m : ℕ) → a < a + suc m
      above a m = omega arith

      lower : (a k : ℕ) → a + 1 ≤ k → a ≤ k
      lower a k h = omega arith

      higher : (a m k : ℕ) → k < a + 1 + m → k < a + suc m
      higher a m k h = omega arith

      shifted : (a m : ℕ) → a + suc m ≡ a + 1 + m
      shifted a m = omega arith

      more : (m : ℕ) → one + (m * one + last) ≡ suc m * one + last
      more m = omega (arith, suc-mul m one)

all_hold : (p : ℕ → Bool) (m a k : ℕ) → list_all p (range_with_len a m) ≡ true → a ≤ k → k < a + m → p k ≡ true
all_hold p zero a k h low high = absurd (nothing a k low high) where
  nothing : (a k : ℕ) → a ≤ k → k < a + 0 → ⊥
  nothing a k low high = omega arith
all_hold p (suc m) a k h low high =
    let both = and_both (p a) (list_all p (range_with_len (a + 1) m)) h in
    elim (a == k) as (λ b. (a == k) ≡ b → p k ≡ true) [
      | true ↦ λ same. ap p (sym (is a k same)) ∙ both.0
      | false ↦ λ apart. all_hold p m (a + 1) k both.1 (behind a k low apart) (within a m k high)
    ] refl where
      is : (a k : ℕ) → (a == k) ≡ true → a ≡ k
      is a k h = grind (arith, nat_tests)

      behind : (a k : ℕ) → a ≤ k → (a == k) ≡ false → a + 1 ≤ k
      behind a k low h = grind (arith, nat_tests)

      within : (a m k : ℕ) → k < a + suc m → k < a + 1 + m
      within a m k h = omega arith

pub some_of : {X : Type 0} (o : Option X) → is_some o ≡ true → (x : X) × (o ≡ Some x)
some_of (Some x) h = (x, refl)
some_of None h = cc h

module _ (s : State) (n : ℕ) (u : Upload) (sound : IsSoundUpload s n u) (complete : is_complete u ≡ true) where
  piece : ℕ → List ℕ
  piece k = unwrap_or (map.get u.segments k) []

  below_count : (k m : ℕ) → k < 1 + m → k < 1 + suc m
  below_count k m h = omega arith

  piece_length : (m k : ℕ) → u.count ≡ suc m → 1 ≤ k → k < 1 + suc m → length (piece k) ≡ segment_length u k
  unfolding piece
  piece_length m k is low high =
      let has = all_hold (has_segment u) u.count 1 k complete low (subst (λ c. k < 1 + c) (sym is) high) in
      let bytes = some_of (map.get u.segments k) has in
      ap (λ (o : Option (List ℕ)). length (unwrap_or o [])) bytes.1 ∙ (sound.segments k bytes.0 bytes.1).2

  inner : (m k : ℕ) → u.count ≡ suc m → k < 1 + m → segment_length u k ≡ u.segment_size
  inner m k is high = ap (λ b. if b then u.size - (u.count - 1) * u.segment_size else u.segment_size) (not_last k u.count m is high) where
    not_last : (k count m : ℕ) → count ≡ suc m → k < 1 + m → (k == count) ≡ false
    not_last k count m is high = grind (arith, nat_tests)

  outer : (m : ℕ) → u.count ≡ suc m → segment_length u (1 + m) ≡ u.size - m * u.segment_size
  outer m is =
      ap (λ b. if b then u.size - (u.count - 1) * u.segment_size else u.segment_size) (the_last u.count m is)
      ∙ ap (λ c. u.size - c * u.segment_size) (one_less u.count m is) where
        the_last : (count m : ℕ) → count ≡ suc m → (1 + m == count) ≡ true
        the_last count m is = grind (arith, nat_tests)

        one_less : (count m : ℕ) → count ≡ suc m → count - 1 ≡ m
        one_less count m is = omega arith

  whole : (before size : ℕ) → before < size → before + (size - before) ≡ size
  whole before size h = omega arith

  starts : (m : ℕ) → u.count ≡ suc m → m * u.segment_size < u.size
  starts m is =
      let first = (and_both (nat_lt ((u.count - 1) * u.segment_size) u.size) (nat_le u.size (u.count * u.segment_size)) sound.sizes).0 in
      subst (λ c. c * u.segment_size < u.size) (one_less u.count m is) (said ((u.count - 1) * u.segment_size) u.size first) where
        one_less : (count m : ℕ) → count ≡ suc m → count - 1 ≡ m
        one_less count m is = omega arith

        said : (a b : ℕ) → nat_lt a b ≡ true → a < b
        said a b h = grind (arith, nat_tests)

  counted : (count : ℕ) → 1 ≤ count → (m : ℕ) × (count ≡ suc m)
  counted zero h = absurd (omega arith)
  counted (suc m) h = (m, refl)

  pub assembled_length : length (assembled u) ≡ u.size
  unfolding piece
  assembled_length =
      let m = counted u.count sound.counted in
      ap (λ c. length (flat_map piece (range_with_len 1 c))) m.1
      ∙ lengths_joined piece u.segment_size (u.size - m.0 * u.segment_size) m.0 1
      (λ k low high. piece_length m.0 k m.1 low (below_count k m.0 high) ∙ inner m.0 k m.1 high)
      (piece_length m.0 (1 + m.0) m.1 (at_least m.0) (at_most m.0) ∙ outer m.0 m.1)
      ∙ whole (m.0 * u.segment_size) u.size (starts m.0 m.1) where
        at_least : (m : ℕ) → 1 ≤ 1 + m
        at_least m = omega arith

        at_most : (m : ℕ) → 1 + m < 1 + suc m
        at_most m = omega arith
