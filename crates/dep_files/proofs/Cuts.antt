-- A content cut into blocks.
use Rattle.std.proofs.Common.{◌≡◌, ◌⊎◌, inl, inr, ℕ, zero, suc, ◌+◌, ◌-◌, ◌*◌, ◌/◌, ◌%◌, ◌<◌, ◌≤◌, ◌^◌, min, List, [], ◌∷◌, ◌++◌, length, get_or, take, drop, refl, sym, ap, ◌∙◌, arith}
use Rattle.std.specs.Int.{div_ceil}
use Rattle.std.proofs.Math.Nat.{div-add-mod}
use Rattle.std.proofs.lemmas.Bool.{cases_lt}
use Rattle.std.proofs.lemmas.List.{append-nil, length-drop, drop-drop, take_min, take_more, take_all, take-append-drop}
use Rattle.std.proofs.lemmas.List.Concat.{flat_map-append}
use Rattle.std.specs.List.{flat_map}
use Rattle.dep_row_maps.specs.Stored.{pieces, blocks_of}

left : {X : Type 0} (most size : ℕ) (x : X) (xs : List X) → 0 < size → length xs + 1 ≤ most + 1 → length (drop size (x ∷ xs)) ≤ most
left most size x xs some h = let len = length-drop size (x ∷ xs) in omega (arith, len)

nothing : {X : Type 0} (size n : ℕ) → take {A = X} size (drop n []) ≡ []
nothing zero zero = refl
nothing zero (suc n) = refl
nothing (suc size) zero = refl
nothing (suc size) (suc n) = refl

-- the piece at a place, and nothing past the end
pub piece_at : {X : Type 0} (most size : ℕ) (xs : List X) (i : ℕ) → 0 < size → length xs ≤ most → get_or (pieces most size xs) i [] ≡ take size (drop (i * size) xs)
piece_at zero size [] i some h = sym (nothing size (i * size))
piece_at zero size (x ∷ xs) i some h = absurd (omega arith)
piece_at (suc most) size [] i some h = sym (nothing size (i * size))
piece_at (suc most) size (x ∷ xs) zero some h = let none : 0 * size ≡ 0 = omega arith in ap (λ n. take size (drop n (x ∷ xs))) (sym none)
piece_at (suc most) size (x ∷ xs) (suc i) some h =
    let next : (suc i) * size ≡ size + i * size = omega arith in
    piece_at most size (drop size (x ∷ xs)) i some (left most size x xs some (omega (arith, h))) ∙ ap (take size) (drop-drop (i * size) size (x ∷ xs)) ∙ ap (λ n. take size (drop n (x ∷ xs))) (sym next)

none_left : {X : Type 0} (most size : ℕ) (xs : List X) → length xs ≡ 0 → length (pieces most size xs) ≡ 0
none_left zero size xs e = refl
none_left (suc most) size [] e = refl
none_left (suc most) size (x ∷ xs) e = absurd (omega arith)

stepped : (k n size len : ℕ) → 0 < size → len ≡ (n + 1) - size → (len ≡ 0 → k ≡ 0) → k * size < len + size → (size + k * size) < (n + 1) + size
stepped k n size len some is none h = go (cases_lt n size)
  where
    go : (n < size) ⊎ (size ≤ n) → (size + k * size) < (n + 1) + size
    go (inl short) = let gone : k ≡ 0 = none (omega arith) in rw gone (omega arith)
    go (inr long) = omega (arith, is, h)

-- the pieces hold the list, and the last of them has an element
pub pieces_hold : {X : Type 0} (most size : ℕ) (xs : List X) → 0 < size → length xs ≤ most → (length xs ≤ length (pieces most size xs) * size) × (length (pieces most size xs) * size < length xs + size)
pieces_hold zero size [] some h = (omega arith, omega arith)
pieces_hold zero size (x ∷ xs) some h = absurd (omega arith)
pieces_hold (suc most) size [] some h = (omega arith, omega arith)
pieces_hold (suc most) size (x ∷ xs) some h =
    let rest = pieces_hold most size (drop size (x ∷ xs)) some (left most size x xs some (omega (arith, h))) in
    let dropped = length-drop size (x ∷ xs) in
    let len : length (drop size (x ∷ xs)) ≡ (length xs + 1) - size = omega (arith, dropped) in
    let k = length (pieces most size (drop size (x ∷ xs))) in
    let next : (suc k) * size ≡ size + k * size = omega arith in
    let above : (size + k * size) < (length xs + 1) + size = stepped k (length xs) size (length (drop size (x ∷ xs))) some len (none_left most size (drop size (x ∷ xs))) rest.1 in
    (omega (arith, rest.0, len, next), omega (arith, above, next))

pub block_at : (content : List ℕ) (i : ℕ) → get_or (blocks_of content) i [] ≡ take 65536 (drop (i * 65536) content)
unfolding blocks_of
block_at content i = piece_at (length content) 65536 content i (omega arith) (omega arith)

pub blocks_hold : (content : List ℕ) → (length content ≤ length (blocks_of content) * 65536) × (length (blocks_of content) * 65536 < length content + 65536)
unfolding blocks_of
blocks_hold content = pieces_hold (length content) 65536 content (omega arith) (omega arith)

counted : (n k : ℕ) → n ≤ k * 65536 → k * 65536 < n + 65536 → n / 65536 + min 1 (n % 65536) ≡ k
counted n k low high = let whole = div-add-mod n 65536 in omega (arith, whole, low, high)

pub block_count : (content : List ℕ) → div_ceil (length content) 65536 ≡ length (blocks_of content)
block_count content = let h = blocks_hold content in counted (length content) (length (blocks_of content)) h.0 h.1

pub few_blocks : (n : ℕ) → n < 2 ^ 64 → div_ceil n 65536 < 2 ^ 63
few_blocks n small = omega (arith, small)

-- a block begins before the end
pub before_end : (content : List ℕ) (i : ℕ) → i < length (blocks_of content) → i * 65536 < length content
before_end content i h = let held = blocks_hold content in omega (arith, held.1)

pub block_is : (content : List ℕ) (i end : ℕ) → i < length (blocks_of content) → end ≡ min (length content) (i * 65536 + 65536) → take (end - i * 65536) (drop (i * 65536) content) ≡ get_or (blocks_of content) i []
block_is content i end h is =
    let inside = before_end content i h in
    let len = length-drop (i * 65536) content in
    let fits : end - i * 65536 ≡ min 65536 (length (drop (i * 65536) content)) = omega (arith, is, inside, len) in
    ap (λ n. take n (drop (i * 65536) content)) fits ∙ take_min 65536 (drop (i * 65536) content) ∙ sym (block_at content i)

-- ---- block by block

pub one_block_more : (content : List ℕ) (i : ℕ) (block : List ℕ) → i < length (blocks_of content) → block ≡ get_or (blocks_of content) i []
    → flat_map (λ b. b) (take i (blocks_of content)) ++ block ≡ flat_map (λ b. b) (take (i + 1) (blocks_of content))
one_block_more content i block within is =
    ap (λ b. flat_map (λ (x : List ℕ). x) (take i (blocks_of content)) ++ b) (is ∙ sym (append-nil (get_or (blocks_of content) i [])))
    ∙ sym (flat_map-append (λ (x : List ℕ). x) (take i (blocks_of content)) (get_or (blocks_of content) i [] ∷ [])) ∙ ap (flat_map (λ (x : List ℕ). x)) (sym (take_more (blocks_of content) i [] within))

pieces_join : {X : Type 0} (most size : ℕ) (xs : List X) → 0 < size → length xs ≤ most → flat_map (λ b. b) (pieces most size xs) ≡ xs
pieces_join zero size [] some h = refl
pieces_join zero size (x ∷ xs) some h = absurd (omega arith)
pieces_join (suc most) size [] some h = refl
pieces_join (suc most) size (x ∷ xs) some h = ap (λ l. take size (x ∷ xs) ++ l) (pieces_join most size (drop size (x ∷ xs)) some (left most size x xs some (omega (arith, h)))) ∙ take-append-drop size (x ∷ xs)

pub blocks_join : (content : List ℕ) → flat_map (λ b. b) (blocks_of content) ≡ content
unfolding blocks_of
blocks_join content = pieces_join (length content) 65536 content (omega arith) (omega arith)

pub all_blocks : (content : List ℕ) (i : ℕ) → length (blocks_of content) ≤ i → flat_map (λ b. b) (take i (blocks_of content)) ≡ content
all_blocks content i past = ap (flat_map (λ (x : List ℕ). x)) (take_all i (blocks_of content) past) ∙ blocks_join content
