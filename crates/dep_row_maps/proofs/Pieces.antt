-- Contents in blocks, and the segments of an upload joined.
use Rattle.std.proofs.Common.{◌≡◌, ℕ, zero, suc, ◌+◌, ◌*◌, ◌<◌, ◌≤◌, cond, T, List, [], ◌∷◌, ◌++◌, length, take, drop, Some, None, refl, sym, ap, subst, ◌∙◌, Ordering, Less, Equal, Greater, is_eq, is_lt, nat_cmp, length-append, length-drop, arith}
use Rattle.std.proofs.lemmas.List.{length-take}
use Rattle.std.specs.Prelude.{unwrap_or}
use Rattle.std.proofs.lemmas.List.{take-append-le, drop-append-le, take_all, drop_all, take-append-drop}
use Rattle.std.proofs.lemmas.Bool.Decides.{nat_tests}
use Rattle.std.proofs.lemmas.Cmp.{nat_cmp_total}
use Rattle.std.specs.List.{AllByRecursion, flat_map, range_with_len}
use Rattle.std.specs.FinMap as map
use Rattle.std.specs.FinMap.Entries.{find, below_all, is_sorted}
use Rattle.dep_types.specs.State.{Upload}
use Rattle.dep_types.specs.Uploads.{assembled}
use Rattle.dep_row_maps.specs.Owned.{placed}
use Rattle.dep_row_maps.specs.Stored.{pieces, blocks_of, block_size}
use Rattle.dep_row_maps.specs.TablesAre.{joined_parts}
use Rattle.dep_row_maps.proofs.Spreads.{both, missing}

pub placed-append : {X Y : Type 0} (f : ℕ → X → Y) (k : ℕ) (xs ys : List X) → placed f k (xs ++ ys) ≡ placed f k xs ++ placed f (k + length xs) ys
placed-append f k [] ys = ap (λ n. placed f n ys) (omega arith)
placed-append f k (x ∷ xs) ys =
    let next : k + 1 + length xs ≡ k + suc (length xs) = omega arith in
    ap (λ zs. f k x ∷ zs) (placed-append f (k + 1) xs ys ∙ ap (λ n. placed f (k + 1) xs ++ placed f n ys) next)

module _ {X : Type 0} (size : ℕ) (some : 1 ≤ size) where
  no_pieces : (m : ℕ) → pieces {X = X} m size [] ≡ []
  no_pieces zero = refl
  no_pieces (suc m) = refl

  -- the pieces join to the list
  pieces-joined : (m : ℕ) (xs : List X) → length xs ≤ m → flat_map (λ b. b) (pieces m size xs) ≡ xs
  pieces-joined zero [] h = refl
  pieces-joined zero (x ∷ xs) h = absurd (omega arith)
  pieces-joined (suc m) [] h = refl
  pieces-joined (suc m) (x ∷ xs) h =
      ap (λ ys. take size (x ∷ xs) ++ ys) (pieces-joined m (drop size (x ∷ xs)) (omega (arith, length-drop size (x ∷ xs)))) ∙ take-append-drop size (x ∷ xs)

  one_piece : (n : ℕ) (b : List X) → length b ≤ n → 1 ≤ length b → length b ≤ size → pieces n size b ≡ b ∷ []
  one_piece n [] h p q = absurd (omega arith)
  one_piece zero (y ∷ b) h p q = absurd (omega arith)
  one_piece (suc n) (y ∷ b) h p q = rw (take_all size (y ∷ b) q, drop_all size (y ∷ b) q, no_pieces n)

  -- one more piece behind full ones
  pieces-push : (m n k : ℕ) (xs b : List X) → length xs ≤ m → length xs + length b ≤ n → length xs ≡ k * size → 1 ≤ length b → length b ≤ size → pieces n size (xs ++ b) ≡ pieces m size xs ++ b ∷ []
  pieces-push m n k [] b h l full p q = one_piece n b (omega arith) p q ∙ ap (λ zs. zs ++ b ∷ []) (sym (no_pieces m))
  pieces-push zero n k (x ∷ xs) b h l full p q = absurd (omega arith)
  pieces-push (suc m) zero k (x ∷ xs) b h l full p q = absurd (omega arith)
  pieces-push (suc m) (suc n) zero (x ∷ xs) b h l full p q = absurd (omega arith)
  pieces-push (suc m) (suc n) (suc k) (x ∷ xs) b h l full p q =
      let whole : size ≤ length (x ∷ xs) = omega arith in
      let left = length-drop size (x ∷ xs) in
      let more = pieces-push m n k (drop size (x ∷ xs)) b (omega arith) (omega arith) (omega arith) p q in
      let first : take size ((x ∷ xs) ++ b) ≡ take size (x ∷ xs) = take-append-le size (x ∷ xs) b whole in
      let rest : drop size ((x ∷ xs) ++ b) ≡ drop size (x ∷ xs) ++ b = drop-append-le size (x ∷ xs) b whole in
      λ i. first i ∷ (ap (pieces n size) rest ∙ more) i

  pieces_sized : (m : ℕ) (xs : List X) → AllByRecursion (λ b. (1 ≤ length b) × (length b ≤ size)) (pieces m size xs)
  pieces_sized zero xs = tt
  pieces_sized (suc m) [] = tt
  pieces_sized (suc m) (x ∷ xs) =
      let count = length-take size (x ∷ xs) in
      ((omega arith, omega arith), pieces_sized m (drop size (x ∷ xs)))

  full_pieces : (m k : ℕ) (xs : List X) → length xs ≤ m → length xs ≡ k * size → length (pieces m size xs) ≡ k
  full_pieces m zero [] h full = ap length (no_pieces m)
  full_pieces m (suc k) [] h full = absurd (omega arith)
  full_pieces zero k (x ∷ xs) h full = absurd (omega arith)
  full_pieces (suc m) zero (x ∷ xs) h full = absurd (omega arith)
  full_pieces (suc m) (suc k) (x ∷ xs) h full =
      let left = length-drop size (x ∷ xs) in
      ap suc (full_pieces m k (drop size (x ∷ xs)) (omega arith) (omega arith))

pub blocks-sized : (content : List ℕ) → AllByRecursion (λ b. (1 ≤ length b) × (length b ≤ block_size)) (blocks_of content)
unfolding blocks_of
blocks-sized content = pieces_sized block_size (omega arith) (length content) content

pub blocks-joined : (content : List ℕ) → flat_map (λ b. b) (blocks_of content) ≡ content
unfolding blocks_of
blocks-joined content = pieces-joined block_size (omega arith) (length content) content (omega arith)

pub blocks-push : (place : ℕ) (content bytes : List ℕ) → length content ≡ place * block_size → 1 ≤ length bytes → length bytes ≤ block_size → blocks_of (content ++ bytes) ≡ blocks_of content ++ bytes ∷ []
unfolding blocks_of
blocks-push place content bytes full p q = pieces-push block_size (omega arith) (length content) (length (content ++ bytes)) place content bytes (omega arith) (omega (arith, length-append content bytes)) full p q

pub blocks-full : (place : ℕ) (content : List ℕ) → length content ≡ place * block_size → length (blocks_of content) ≡ place
unfolding blocks_of
blocks-full place content full = full_pieces block_size (omega arith) (length content) place content (omega arith) full

pub blocks-none : blocks_of [] ≡ []
unfolding blocks_of
blocks-none = refl

-- ---- the segments of an upload

abbrev at_or_none : List (ℕ × List ℕ) → ℕ → List ℕ
at_or_none es k = unwrap_or (find nat_cmp k es) []

order_of : (a b : ℕ) → a < b → nat_cmp a b ≡ Less
order_of a b h = grind (arith, nat_tests)

later_missing : (k : ℕ) (es : List (ℕ × List ℕ)) → AllByRecursion (λ e. k < e.0) es → find nat_cmp k es ≡ None
later_missing k [] h = refl
later_missing k (e ∷ es) h = rw (order_of k e.0 h.0) (later_missing k es h.1)

none_from : (a n : ℕ) → flat_map (at_or_none []) (range_with_len a n) ≡ []
none_from a zero = refl
none_from a (suc n) = none_from (a + 1) n

-- an entry before the range is not met
skipped : (e : ℕ × List ℕ) (es : List (ℕ × List ℕ)) (a n : ℕ) → e.0 < a → flat_map (at_or_none (e ∷ es)) (range_with_len a n) ≡ flat_map (at_or_none es) (range_with_len a n)
skipped e es a zero h = refl
skipped e es a (suc n) h =
    let above : nat_cmp a e.0 ≡ Greater = grind (arith, nat_tests) in
    let more = skipped e es (a + 1) n (omega arith) in
    rw (above, more) refl

less_is : (x y : ℕ) → T (is_lt (nat_cmp x y)) → x < y
less_is x y h = go (nat_cmp x y) refl h
  where
    go : (o : Ordering) → nat_cmp x y ≡ o → T (is_lt o) → x < y
    go Less is h = grind (arith, nat_tests)
    go Equal is h = absurd h
    go Greater is h = absurd h

all_below : (k : ℕ) (es : List (ℕ × List ℕ)) → T (below_all nat_cmp k es) → AllByRecursion (λ e. k < e.0) es
all_below k [] h = tt
all_below k (e ∷ es) h = (less_is k e.0 (both _ _ h).0, all_below k es (both _ _ h).1)

raised : (a b : ℕ) (es : List (ℕ × List ℕ)) → AllByRecursion (λ e. a < e.0) es → AllByRecursion (λ e. e.0 < b) es → AllByRecursion (λ e. (a + 1 ≤ e.0) × (e.0 < b)) es
raised a b [] p q = tt
raised a b (e ∷ es) p q = ((omega (arith, p.0), q.0), raised a b es p.1 q.1)

uppers : (a b : ℕ) (es : List (ℕ × List ℕ)) → AllByRecursion (λ e. (a ≤ e.0) × (e.0 < b)) es → AllByRecursion (λ e. e.0 < b) es
uppers a b [] h = tt
uppers a b (e ∷ es) h = (h.0.1, uppers a b es h.1)

higher : (a b : ℕ) (e : ℕ × List ℕ) (es : List (ℕ × List ℕ)) → a < e.0 → AllByRecursion (λ x. e.0 < x.0) es → AllByRecursion (λ x. a < x.0) (e ∷ es)
higher a b e es p q = (p, go es q)
  where
    go : (xs : List (ℕ × List ℕ)) → AllByRecursion (λ x. e.0 < x.0) xs → AllByRecursion (λ x. a < x.0) xs
    go [] q = tt
    go (x ∷ xs) q = (omega (arith, q.0), go xs q.1)

ranged : (a n b : ℕ) (es : List (ℕ × List ℕ)) → b ≡ a + n → T (is_sorted nat_cmp es) → AllByRecursion (λ e. (a ≤ e.0) × (e.0 < b)) es → flat_map (at_or_none es) (range_with_len a n) ≡ flat_map (λ e. e.1) es
ranged a n b [] is sorted within = none_from a n
ranged a zero b (e ∷ es) is sorted within = absurd (omega (arith, within.0))
ranged a (suc n) b (e ∷ es) is sorted within = go (nat_cmp a e.0) refl (λ xs. ranged (a + 1) n b xs (omega arith))
  where
    above : AllByRecursion (λ x. e.0 < x.0) es
    above = all_below e.0 es (both _ _ sorted).0

    go : (o : Ordering) → nat_cmp a e.0 ≡ o → ((xs : List (ℕ × List ℕ)) → T (is_sorted nat_cmp xs) → AllByRecursion (λ e. (a + 1 ≤ e.0) × (e.0 < b)) xs → flat_map (at_or_none xs) (range_with_len (a + 1) n) ≡ flat_map (λ e. e.1) xs)
        → flat_map (at_or_none (e ∷ es)) (range_with_len a (suc n)) ≡ e.1 ++ flat_map (λ e. e.1) es
    go Less t more =
        let lower : a < e.0 = grind (arith, nat_tests) in
        let none = later_missing a (e ∷ es) (higher a b e es lower above) in
        rw none (more (e ∷ es) sorted (raised a b (e ∷ es) (higher a b e es lower above) (uppers a b (e ∷ es) within)))
    go Equal t more =
        let same : a ≡ e.0 = map.nat_cmp-IsAntisymmetric a e.0 t in
        let later = subst (λ k. AllByRecursion (λ x. k < x.0) es) (sym same) above in
        let lower : e.0 < a + 1 = omega arith in
        rw (t, skipped e es (a + 1) n lower) (ap (λ ys. e.1 ++ ys) (more es (both _ _ sorted).1 (raised a b es later (uppers a b es within.1))))
    go Greater t more = absurd (let lower : e.0 < a = grind (arith, nat_tests) in omega (arith, within.0))

-- each entry of a map is found in it
module _ {X : Type 0} where
  pub all_found : (P : ℕ → X → Type 0) (es : List (ℕ × X)) → T (is_sorted nat_cmp es) → ((k : ℕ) (x : X) → find nat_cmp k es ≡ Some x → P k x) → AllByRecursion (λ e. P e.0 e.1) es
  all_found P [] sorted each = tt
  all_found P (e ∷ es) sorted each =
      let first = both _ _ sorted in
      (each e.0 e.1 (ap (λ o. cond (is_eq o) (Some e.1) (find nat_cmp e.0 es)) (tied e.0)), all_found P es first.1 (λ k x h. each k x (later k x h first.0)))
    where
      tied : (k : ℕ) → nat_cmp k k ≡ Equal
      tied k = grind (arith, nat_tests)

      later : (k : ℕ) (x : X) → find nat_cmp k es ≡ Some x → T (below_all nat_cmp e.0 es) → find nat_cmp k (e ∷ es) ≡ Some x
      later k x h lower = go (nat_cmp k e.0) refl
        where
          go : (o : Ordering) → nat_cmp k e.0 ≡ o → cond (is_eq (nat_cmp k e.0)) (Some e.1) (find nat_cmp k es) ≡ Some x
          go Less t = rw t h
          go Equal t = let same = map.nat_cmp-IsAntisymmetric k e.0 t in absurd (let none = missing nat_cmp_total e.0 es lower in let some = subst (λ q. find nat_cmp q es ≡ Some x) same h in cc)
          go Greater t = rw t h

-- the parts that an upload has received, joined, are what it assembles
pub assembled-joined : (u : Upload) → ((k : ℕ) (bytes : List ℕ) → map.get u.segments k ≡ Some bytes → (1 ≤ k) × (k ≤ u.count)) → joined_parts u.segments ≡ assembled u
assembled-joined u within =
    let es = map.entries u.segments in
    let all = all_found (λ k _. (1 ≤ k) × (k < 1 + u.count)) es (map.entries_sorted u.segments) (λ k x h. let w = within k x (map.get-entries u.segments k ∙ h) in (w.0, omega (arith, w.1))) in
    sym (looked (range_with_len 1 u.count) ∙ ranged 1 u.count (1 + u.count) es refl (map.entries_sorted u.segments) all)
  where
    looked : (ks : List ℕ) → flat_map (λ k. unwrap_or (map.get u.segments k) []) ks ≡ flat_map (at_or_none (map.entries u.segments)) ks
    looked [] = refl
    looked (k ∷ ks) = rw (map.get-entries u.segments k, looked ks)
