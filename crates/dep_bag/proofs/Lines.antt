-- The lines of a manifest, read back.
use Rattle.std.proofs.Common.{◌≡◌, ℕ, zero, suc, ◌+◌, ◌<◌, ◌==◌, Bool, true, false, cond, ◌&&◌, ◌||◌, List, [], ◌∷◌, ◌++◌, length, take, drop, map, Some, None, Ok, refl, sym, ap, subst, ◌∙◌, append_assoc, arith, codes}
use Rattle.std.specs.Prelude.{flat_map, nat_lt, slice_index, ◌/◌, ◌%◌, is_some}
use Rattle.std.specs.Int.{byte_at, bytes_high_first, to_be_bytes, w32, w64}
use Rattle.hex.specs.Hex.{IsBytes, lower_digits, encode_with}
use Rattle.hex.proofs.HexLemmas.{IsDigits-lower_digits, length-encode_with, decode_sized-encode_lower}
use Rattle.std.specs.List.{All, list_any, list_all, prefix_len, slice_split}
use Rattle.std.proofs.lemmas.List.Elements.{All-cons, All-nil, All-head, All-tail}
use Rattle.std.proofs.lemmas.List.Splits.{slice_split_at}
use Rattle.std.proofs.lemmas.Bool.{lt-ltb, eqb-true}
use Rattle.hex.specs.Hex.{encode_lower, is_hex_digit, decode_sized}
use Rattle.sha2.specs.Sha256.{sha256, digest_bytes}
use Rattle.sha2.specs.Sha512.{sha512, digest_bytes as digest_bytes512}
use Rattle.sha2.proofs.Facts256.{length-sha256}
use Rattle.sha2.proofs.Facts512.{length-sha512}
use Rattle.dep_types.specs.Sinks.{PathAndBytes}
use Rattle.dep_manifest.specs.Manifest.{Digest, IsDigest, digest_by, encoded_byte, encoded_path, manifest_of}
use Rattle.dep_manifest.specs.declared.algorithm.Algorithm.{Algorithm}
use Rattle.dep_manifest.specs.declared.algorithm.Algorithm.TheVariants.{Sha256, Sha512}
use Rattle.dep_bag.specs.Valid.{ManifestLine, lines_of, parts_read, line_read, lines_read, manifest_read, digits_len, blanks_len}

pub or-parts : (a b : Bool) → (a || b) ≡ false → (a ≡ false) × (b ≡ false)
or-parts true b e = absurd (cc)
or-parts false b e = (refl, e)

pub or-both : (a b : Bool) → a ≡ false → b ≡ false → (a || b) ≡ false
or-both true b e f = absurd (cc)
or-both false b e f = f

pub and-parts : (a b : Bool) → (a && b) ≡ true → (a ≡ true) × (b ≡ true)
and-parts true b e = (refl, e)
and-parts false b e = absurd (cc)

pub none-append : {X : Type 0} (p : X → Bool) (xs ys : List X) → list_any p xs ≡ false → list_any p ys ≡ false → list_any p (xs ++ ys) ≡ false
none-append p [] ys g h = h
none-append p (x ∷ xs) ys g h = let parts = or-parts (p x) (list_any p xs) g in or-both _ _ parts.0 (none-append p xs ys parts.1 h)

pub none-flat_map : {X Y : Type 0} (p : Y → Bool) (f : X → List Y) → ((x : X) → list_any p (f x) ≡ false) → (xs : List X) → list_any p (flat_map f xs) ≡ false
none-flat_map p f none [] = refl
none-flat_map p f none (x ∷ xs) = none-append p (f x) (flat_map f xs) (none x) (none-flat_map p f none xs)

pub All-none : {X : Type 0} (p : X → Bool) (xs : List X) → list_any p xs ≡ false → All (λ x. p x ≡ false) xs
All-none p [] h = All-nil (λ x. p x ≡ false)
All-none p (x ∷ xs) h = let parts = or-parts (p x) (list_any p xs) h in All-cons (λ x. p x ≡ false) x xs parts.0 (All-none p xs parts.1)

-- the first part ends where the test first passes
pub split_first : {X : Type 0} (p : X → Bool) (xs : List X) (y : X) (ys : List X) → list_any p xs ≡ false → p y ≡ true → slice_split p (xs ++ y ∷ ys) ≡ xs ∷ slice_split p ys
split_first p xs y ys none passes = slice_split_at p xs y ys (All-none p xs none) passes

pub prefix_first : {X : Type 0} (p : X → Bool) (xs : List X) (y : X) (ys : List X) → list_all p xs ≡ true → p y ≡ false → prefix_len p (xs ++ y ∷ ys) ≡ length xs
prefix_first p [] y ys all stops = ap (λ b. cond b (1 + prefix_len p ys) 0) stops
prefix_first p (x ∷ xs) y ys all stops =
    let parts = and-parts (p x) (list_all p xs) all in
    let rest = prefix_first p xs y ys parts.1 stops in
    ap (λ b. cond b (1 + prefix_len p (xs ++ y ∷ ys)) 0) parts.0 ∙ omega (arith, rest)

pub take_front : {X : Type 0} (xs ys : List X) → take (length xs) (xs ++ ys) ≡ xs
take_front [] ys = refl
take_front (x ∷ xs) ys = ap (λ l. x ∷ l) (take_front xs ys)

drop_front : {X : Type 0} (xs ys : List X) → drop (length xs) (xs ++ ys) ≡ ys
drop_front [] ys = refl
drop_front (x ∷ xs) ys = drop_front xs ys

-- digits, two blanks and a path that begins with no blank
pub line_read_back : (digits : List ℕ) (b : ℕ) (path : List ℕ) → list_all is_hex_digit digits ≡ true → 0 < length digits → (b == 32 || b == 9) ≡ false
    → line_read (digits ++ 32 ∷ 32 ∷ b ∷ path) ≡ Some (record { digits = digits; path = b ∷ path })
line_read_back digits b path all some stops =
    let len : digits_len (digits ++ 32 ∷ 32 ∷ b ∷ path) ≡ length digits = prefix_first is_hex_digit digits 32 (32 ∷ b ∷ path) all refl in
    let at = λ (n : ℕ). parts_read (take n (digits ++ 32 ∷ 32 ∷ b ∷ path)) (drop n (digits ++ 32 ∷ 32 ∷ b ∷ path)) in
    ap at len
    ∙ (λ i. parts_read (take_front digits (32 ∷ 32 ∷ b ∷ path) i) (drop_front digits (32 ∷ 32 ∷ b ∷ path) i))
    ∙ ap (λ t. cond (nat_lt 0 (length digits) && nat_lt 0 (1 + (1 + cond t (1 + blanks_len path) 0))) (Some (record { digits = digits; path = drop (1 + (1 + cond t (1 + blanks_len path) 0)) (32 ∷ 32 ∷ b ∷ path) })) None) stops
    ∙ ap (λ t. cond (t && true) (Some (record { digits = digits; path = b ∷ path })) None) (lt-ltb 0 (length digits) some)

-- a path as a manifest writes it has no LF
byte-no_lf : (b : ℕ) → list_any (λ x. x == 10) (encoded_byte b) ≡ false
byte-no_lf b = elim (b == 37) as (λ t. list_any (λ x. x == 10) (cond t (codes "%25") (cond (b == 10) (codes "%0A") (cond (b == 13) (codes "%0D") (b ∷ [])))) ≡ false) [
  | true ↦ refl
  | false ↦ elim (b == 10) as (λ t. (b == 10) ≡ t → list_any (λ x. x == 10) (cond t (codes "%0A") (cond (b == 13) (codes "%0D") (b ∷ []))) ≡ false) [
    | true ↦ λ e. refl
    | false ↦ λ e. elim (b == 13) as (λ t. list_any (λ x. x == 10) (cond t (codes "%0D") (b ∷ [])) ≡ false) [ true ↦ refl | false ↦ or-both _ _ e refl ]
  ] refl
]

pub encoded-no_lf : (path : List ℕ) → list_any (λ x. x == 10) (encoded_path path) ≡ false
encoded-no_lf path = none-flat_map (λ x. x == 10) encoded_byte byte-no_lf path

-- the line of a file, read
abbrev pub line_of : Digest → PathAndBytes → ManifestLine
line_of d f = record { digits = encode_lower (d.of f.1); path = encoded_path f.0 }

-- the line of a file, without its LF
abbrev body : Digest → PathAndBytes → List ℕ
body d f = encode_lower (d.of f.1) ++ 32 ∷ 32 ∷ encoded_path f.0

-- the path is written with a first byte that is no blank
pub record BeginsPlain (path : List ℕ) : Type 0 where
  pub first : ℕ
  pub rest : List ℕ
  pub is : encoded_path path ≡ first ∷ rest
  pub no_blank : (first == 32 || first == 9) ≡ false

nibble-hex : (d : ℕ) → d < 16 → is_hex_digit (slice_index lower_digits d) ≡ true
nibble-hex d h = ap is_some (IsDigits-lower_digits d h)

byte_at-below : (k n : ℕ) → byte_at k n < 256
byte_at-below zero n = omega arith
byte_at-below (suc k) n = omega arith

encode_lower-hex : (bytes : List ℕ) → IsBytes bytes → list_all is_hex_digit (encode_lower bytes) ≡ true
unfolding encode_with
encode_lower-hex [] h = refl
encode_lower-hex (b ∷ bytes) h =
    let fits : b < 256 = h 0 in
    let high : b / 16 < 16 = omega arith in
    let low : b % 16 < 16 = omega arith in
    rw (nibble-hex (b / 16) high, nibble-hex (b % 16) low) (encode_lower-hex bytes (λ k. h (suc k)))

hex-no_lf : (x : ℕ) → is_hex_digit x ≡ true → (x == 10) ≡ false
hex-no_lf x h = elim (x == 10) as (λ t. (x == 10) ≡ t → t ≡ false) [
  | true ↦ λ e. let same : is_hex_digit x ≡ false = ap is_hex_digit (eqb-true x 10 e) in absurd (cc)
  | false ↦ λ e. refl
] refl

all_hex-no_lf : (xs : List ℕ) → list_all is_hex_digit xs ≡ true → list_any (λ x. x == 10) xs ≡ false
all_hex-no_lf [] h = refl
all_hex-no_lf (x ∷ xs) h = let parts = and-parts (is_hex_digit x) (list_all is_hex_digit xs) h in or-both _ _ (hex-no_lf x parts.0) (all_hex-no_lf xs parts.1)

IsBytes-high_first : (k n : ℕ) → IsBytes (bytes_high_first k n)
IsBytes-high_first zero n i = omega arith
IsBytes-high_first (suc k) n zero = byte_at-below k n
IsBytes-high_first (suc k) n (suc i) = IsBytes-high_first k n i

IsBytes-append : (xs ys : List ℕ) → IsBytes xs → IsBytes ys → IsBytes (xs ++ ys)
IsBytes-append [] ys g h i = h i
IsBytes-append (x ∷ xs) ys g h zero = g 0
IsBytes-append (x ∷ xs) ys g h (suc i) = IsBytes-append xs ys (λ k. g (suc k)) h i

IsBytes-digest : (h : List ℕ) (n : ℕ) → IsBytes (digest_bytes h n)
unfolding digest_bytes
IsBytes-digest h zero i = omega arith
IsBytes-digest h (suc n) i = IsBytes-append (digest_bytes h n) (to_be_bytes w32 (slice_index h n)) (IsBytes-digest h n) (IsBytes-high_first 4 (slice_index h n)) i

IsBytes-sha256 : (m : List ℕ) → IsBytes (sha256 m)
unfolding sha256
IsBytes-sha256 m = IsBytes-digest _ 8

IsBytes-digest512 : (h : List ℕ) (n : ℕ) → IsBytes (digest_bytes512 h n)
unfolding digest_bytes512
IsBytes-digest512 h zero i = omega arith
IsBytes-digest512 h (suc n) i = IsBytes-append (digest_bytes512 h n) (to_be_bytes w64 (slice_index h n)) (IsBytes-digest512 h n) (IsBytes-high_first 8 (slice_index h n)) i

IsBytes-sha512 : (m : List ℕ) → IsBytes (sha512 m)
unfolding sha512
IsBytes-sha512 m = IsBytes-digest512 _ 8

pub IsDigest-digest_by : (a : Algorithm) → IsDigest (digest_by a)
IsDigest-digest_by Sha256 = record { some = omega arith; sized = length-sha256; bytes = IsBytes-sha256 }
IsDigest-digest_by Sha512 = record { some = omega arith; sized = length-sha512; bytes = IsBytes-sha512 }

-- digits, which read back as the digest
digest_digits : (d : Digest) → IsDigest d → (m : List ℕ) → list_all is_hex_digit (encode_lower (d.of m)) ≡ true
digest_digits d is m = encode_lower-hex (d.of m) (is.bytes m)

digest_some : (d : Digest) → IsDigest d → (m : List ℕ) → 0 < length (encode_lower (d.of m))
digest_some d is m =
    let len = length-encode_with lower_digits (d.of m) in
    let full = is.sized m in
    let some = is.some in
    omega (arith, len, full, some)

pub digest_read_back : (d : Digest) → IsDigest d → (m : List ℕ) → decode_sized (encode_lower (d.of m)) d.size ≡ Ok (d.of m)
digest_read_back d is m = decode_sized-encode_lower (d.of m) d.size (is.sized m) (is.bytes m)

body-no_lf : (d : Digest) → IsDigest d → (f : PathAndBytes) → list_any (λ x. x == 10) (body d f) ≡ false
body-no_lf d is f =
    none-append (λ x. x == 10) (encode_lower (d.of f.1)) (32 ∷ 32 ∷ encoded_path f.0)
    (all_hex-no_lf (encode_lower (d.of f.1)) (digest_digits d is f.1))
    (encoded-no_lf f.0)

body-read : (d : Digest) → IsDigest d → (f : PathAndBytes) → BeginsPlain f.0 → line_read (body d f) ≡ Some (line_of d f)
body-read d is f h =
    subst (λ p. line_read (encode_lower (d.of f.1) ++ 32 ∷ 32 ∷ p) ≡ Some (record { digits = encode_lower (d.of f.1); path = p })) (sym h.is)
    (line_read_back (encode_lower (d.of f.1)) h.first h.rest (digest_digits d is f.1) (digest_some d is f.1) h.no_blank)

regroup : (d p rest : List ℕ) → (((d ++ codes "  ") ++ p) ++ codes "\n") ++ rest ≡ (d ++ 32 ∷ 32 ∷ p) ++ 10 ∷ rest
regroup d p rest = simp append_assoc

lines_of-manifest : (d : Digest) → IsDigest d → (fs : List PathAndBytes) → lines_of (manifest_of d fs) ≡ map (body d) fs ++ [] ∷ []
lines_of-manifest d is [] = refl
lines_of-manifest d is (f ∷ fs) =
    ap lines_of (regroup (encode_lower (d.of f.1)) (encoded_path f.0) (manifest_of d fs))
    ∙ split_first (λ b. b == 10) (body d f) 10 (manifest_of d fs) (body-no_lf d is f) refl
    ∙ ap (λ l. body d f ∷ l) (lines_of-manifest d is fs)

lines_read_step : (line next : List ℕ) (more : List (List ℕ)) (first : ManifestLine) (rest : List ManifestLine)
    → line_read line ≡ Some first → lines_read (next ∷ more) ≡ Some rest → lines_read (line ∷ next ∷ more) ≡ Some (first ∷ rest)
unfolding lines_read
lines_read_step line next more first rest e g = rw (e, g) refl

bodies_read : (d : Digest) → IsDigest d → (fs : List PathAndBytes) → All (λ f. BeginsPlain f.0) fs → lines_read (map (body d) fs ++ [] ∷ []) ≡ Some (map (line_of d) fs)
unfolding lines_read
bodies_read d is [] h = refl
bodies_read d is (f ∷ []) h = lines_read_step (body d f) [] [] (line_of d f) [] (body-read d is f (All-head (λ f. BeginsPlain f.0) f [] h)) refl
bodies_read d is (f ∷ g ∷ fs) h =
    lines_read_step (body d f) (body d g) (map (body d) fs ++ [] ∷ []) (line_of d f) (map (line_of d) (g ∷ fs))
    (body-read d is f (All-head (λ f. BeginsPlain f.0) f (g ∷ fs) h))
    (bodies_read d is (g ∷ fs) (All-tail (λ f. BeginsPlain f.0) f (g ∷ fs) h))

-- a manifest reads as a line for each of its files
pub manifest_read_back : (d : Digest) → IsDigest d → (fs : List PathAndBytes) → All (λ f. BeginsPlain f.0) fs → manifest_read (manifest_of d fs) ≡ Some (map (line_of d) fs)
manifest_read_back d is fs h = ap lines_read (lines_of-manifest d is fs) ∙ bodies_read d is fs h
