-- A complete upload of a sound state is cut into segments of one size.
use Rattle.std.proofs.Common.{◌≡◌, ◌∙◌, ℕ, zero, suc, ◌+◌, ◌-◌, ◌*◌, ◌<◌, ◌≤◌, ◌==◌, nat_lt, nat_le, Bool, true, false, List, [], ◌++◌, length, take, drop, append-nil, Option, Some, None, unwrap_or, refl, sym, ap, subst, arith, suc-mul, if◌then◌else◌}
use Rattle.std.proofs.lemmas.Bool.Decides.{nat_tests}
use Rattle.std.proofs.lemmas.List.Folds.{list_all_at}
use Rattle.std.proofs.lemmas.List.FromFn.{get_or-range_with_len, length-range_with_len}
use Rattle.std.proofs.lemmas.List.{take_all, drop_all, drop-drop, take_at, drop_at}
use Rattle.std.specs.List.{flat_map, list_all, range_with_len}
use Rattle.std.specs.FinMap as map
use Rattle.dep_types.specs.State.{State, Upload}
use Rattle.dep_types.specs.Uploads.{has_segment, is_complete}
use Rattle.dep_types.specs.Sound.{IsSoundUpload}
use Rattle.dep_params.proofs.Runs.{and_both}
use Rattle.dep_decisions.proofs.Lengths.{some_of}
use Rattle.dep_row_maps.specs.Laws.{HasOneSize}

module _ (piece : ℕ → List ℕ) (size : ℕ) where
  record ArePieces (a n : ℕ) : Type 0 where
    most : (j : ℕ) → a ≤ j → j < a + n → length (piece j) ≤ size
    full : (j : ℕ) → a ≤ j → j + 1 < a + n → length (piece j) ≡ size
    none : (j : ℕ) → a + n ≤ j → piece j ≡ []

  later : (a n : ℕ) → ArePieces a (suc n) → ArePieces (a + 1) n
  later a n are = record {
    most = λ j low high. are.most j (omega (arith, low)) (omega (arith, high));
    full = λ j low high. are.full j (omega (arith, low)) (omega (arith, high));
    none = λ j low. are.none j (omega (arith, low));
  }

  whole : ℕ → ℕ → List ℕ
  whole a n = flat_map piece (range_with_len a n)

  -- the first piece, where others are behind it, or none
  first : (a n : ℕ) → ArePieces a (suc n) → take size (piece a ++ whole (a + 1) n) ≡ piece a
  unfolding whole
  first a zero are = ap (take size) (append-nil (piece a)) ∙ take_all size (piece a) (are.most a (omega arith) (omega arith))
  first a (suc n) are = take_at (piece a) (whole (a + 1) (suc n)) size (are.full a (omega arith) (omega arith))

  rest : (a n k : ℕ) → ArePieces a (suc n) → drop (size + k) (piece a ++ whole (a + 1) n) ≡ drop k (whole (a + 1) n)
  unfolding whole
  rest a zero k are =
      let short = are.most a (omega arith) (omega arith) in
      ap (drop (size + k)) (append-nil (piece a)) ∙ drop_all (size + k) (piece a) (omega (arith, short)) ∙ sym (drop_all k [] (omega arith))
  rest a (suc n) k are =
      let full = are.full a (omega arith) (omega arith) in
      sym (drop-drop k size (piece a ++ whole (a + 1) (suc n))) ∙ ap (drop k) (drop_at (piece a) (whole (a + 1) (suc n)) size full)

  cut : (a n k : ℕ) → ArePieces a n → take size (drop (k * size) (whole a n)) ≡ piece (a + k)
  unfolding whole
  cut a zero k are = ap (take size) (drop_all (k * size) [] (omega arith)) ∙ take_all size [] (omega arith) ∙ sym (are.none (a + k) (omega arith))
  cut a (suc n) zero are =
      let none : 0 * size ≡ 0 = omega arith in
      let here : a ≡ a + 0 = omega arith in
      ap (λ m. take size (drop m (piece a ++ whole (a + 1) n))) none ∙ first a n are ∙ ap piece here
  cut a (suc n) (suc k) are =
      let next : suc k * size ≡ size + k * size = omega (arith, suc-mul k size) in
      let there : a + 1 + k ≡ a + suc k = omega arith in
      ap (λ m. take size (drop m (piece a ++ whole (a + 1) n))) next ∙ ap (take size) (rest a n (k * size) are) ∙ cut (a + 1) n k (later a n are) ∙ ap piece there

all_hold : (p : ℕ → Bool) (m a k : ℕ) → list_all p (range_with_len a m) ≡ true → a ≤ k → k < a + m → p k ≡ true
all_hold p m a k h low high = by_test (p k) refl where
  within : k - a < m
  within = omega (arith, low, high)

  here : a + (k - a) ≡ k
  here = omega (arith, low)

  by_test : (b : Bool) → p k ≡ b → b ≡ true
  by_test true e = refl
  by_test false e =
      let below = subst (λ n. k - a < n) (sym (length-range_with_len a m)) within in
      let fails = list_all_at p (range_with_len a m) (k - a) 0 below (ap p (get_or-range_with_len a m (k - a) 0 within ∙ here) ∙ e) in
      absurd (cc)

-- the length of a segment that isn't the last, and of the last
segment : (k count size each : ℕ) → ℕ
segment k count size each = if k == count then size - (count - 1) * each else each

not_last : (k count size each : ℕ) → k < count → segment k count size each ≡ each
unfolding segment
not_last k count size each h = ap (λ b. if b then size - (count - 1) * each else each) (apart k count h) where
  apart : (k count : ℕ) → k < count → (k == count) ≡ false
  apart k count h = grind (arith, nat_tests)

at_most : (k count size each : ℕ) → 1 ≤ count → size ≤ count * each → segment k count size each ≤ each
unfolding segment
at_most k count size each some most = elim (k == count) as (λ b. (if b then size - (count - 1) * each else each) ≤ each) [
  | true ↦ last count some most
  | false ↦ omega arith
] where
  last : (count : ℕ) → 1 ≤ count → size ≤ count * each → size - (count - 1) * each ≤ each
  last zero some most = absurd (omega (arith, some))
  last (suc m) some most =
      let one : suc m - 1 ≡ m = omega arith in
      let more = suc-mul m each in
      rw one (omega (arith, most, more))

each_some : (count size each : ℕ) → 1 ≤ count → (count - 1) * each < size → size ≤ count * each → 0 < each
each_some zero size each some low most = absurd (omega (arith, some))
each_some (suc m) size each some low most =
    let more = suc-mul m each in
    let lower : m * each < size = subst (λ n. n * each < size) (one m) low in
    omega (arith, most, more, lower) where
      one : (m : ℕ) → suc m - 1 ≡ m
      one m = omega arith

said : (a b : ℕ) → nat_lt a b ≡ true → a < b
said a b h = grind (arith, nat_tests)

said_most : (a b : ℕ) → nat_le a b ≡ true → a ≤ b
said_most a b h = grind (arith, nat_tests)

module _ (s : State) (n : ℕ) (u : Upload) (sound : IsSoundUpload s n u) (complete : is_complete u ≡ true) where
  piece : ℕ → List ℕ
  piece k = unwrap_or (map.get u.segments k) []

  sizes : (nat_lt ((u.count - 1) * u.segment_size) u.size ≡ true) × (nat_le u.size (u.count * u.segment_size) ≡ true)
  sizes = and_both (nat_lt ((u.count - 1) * u.segment_size) u.size) (nat_le u.size (u.count * u.segment_size)) sound.sizes

  piece_length : (k : ℕ) → 1 ≤ k → k < 1 + u.count → length (piece k) ≡ segment k u.count u.size u.segment_size
  unfolding piece segment
  piece_length k low high =
      let bytes = some_of (map.get u.segments k) (all_hold (has_segment u) u.count 1 k complete low high) in
      ap (λ (o : Option (List ℕ)). length (unwrap_or o [])) bytes.1 ∙ (sound.segments k bytes.0 bytes.1).2

  beyond : (k : ℕ) → 1 + u.count ≤ k → piece k ≡ []
  unfolding piece
  beyond k high = go (map.get u.segments k) refl where
    go : (o : Option (List ℕ)) → map.get u.segments k ≡ o → unwrap_or o [] ≡ []
    go None at = refl
    go (Some bytes) at = let within = (sound.segments k bytes at).1 in absurd (omega (arith, high, within))

  pub has_one_size : HasOneSize u
  unfolding piece whole
  has_one_size =
      let low = said _ _ sizes.0 in
      let most = said_most _ _ sizes.1 in
      record {
        some = each_some u.count u.size u.segment_size sound.counted low most;
        cut = λ k.
            let next : 1 + k ≡ suc k = omega arith in
            ap piece (sym next) ∙ sym (cut piece u.segment_size 1 u.count k (record {
              most = λ j from to. subst (λ len. len ≤ u.segment_size) (sym (piece_length j from to)) (at_most j u.count u.size u.segment_size sound.counted most);
              full = λ j from to. piece_length j from (omega (arith, to)) ∙ not_last j u.count u.size u.segment_size (omega (arith, to));
              none = beyond;
            }));
      }
