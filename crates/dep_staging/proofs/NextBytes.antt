-- The next bytes of a content, by the part in which they stand.
use Rattle.std.proofs.Common.{◌≡◌, inl, inr, ℕ, zero, suc, ◌+◌, ◌-◌, ◌*◌, ◌/◌, ◌%◌, ◌<◌, ◌≤◌, ◌==◌, min, Bool, true, false, List, [], ◌∷◌, ◌++◌, length, take, drop, unwrap_or, Option, Some, None, suc-mul, refl, sym, ap, subst, ◌∙◌, append_assoc, arith}
use Rattle.std.specs.Prelude.{option_map, slice_get}
use Rattle.std.specs.FinMap as map
use Rattle.std.proofs.Math.Seq.{drop-append_seam, take-add}
use Rattle.std.proofs.lemmas.Bool.{cases_lt}
use Rattle.std.proofs.lemmas.Bool.Decides.{nat_tests}
use Rattle.std.proofs.lemmas.List.{append-nil, drop-drop, drop-take, drop_all, length-append, length-drop, length-take, take-append-drop, take-take, take_all}
use Rattle.std.proofs.lemmas.Nat.{div-add-mod', mod_below}
use Rattle.std.proofs.lemmas.Option.{unwrap_or-slice_get}
use Rattle.dep_types.specs.Maps.{Numbered}
use Rattle.dep_types.specs.State.{State}
use Rattle.dep_tables.specs.Tables.{Tables}
use Rattle.dep_row_maps.specs.Stored.{blocks_of}
use Rattle.dep_row_maps.specs.TablesAre.{TablesAre, IsCutBy}
use Rattle.dep_files.proofs.Cuts.{before_end, block_at, blocks_hold}
use Rattle.dep_staging.specs.declared.reading_on.ByteInPart.{ByteInPart}
use Rattle.dep_staging.specs.FileBlocks.{part_of}
use Rattle.dep_staging.specs.NextBytes.{AppendsBehind, GrowsBy, AreFirstBytes, AreNextBytes, IsReadBy, IsAtByte}
use Rattle.dep_staging.proofs.StoredBlocks.{got_by, within_by}

-- ---- fronts of lists

none_long : (xs : List ℕ) → length xs ≡ 0 → xs ≡ []
none_long [] e = refl
none_long (x ∷ xs) e = absurd (omega (arith, e))

empty_front : (m : ℕ) (ys : List ℕ) → 0 < m → take m ys ≡ [] → ys ≡ []
empty_front zero ys some e = absurd (omega (arith, some))
empty_front (suc m) [] some e = refl
empty_front (suc m) (y ∷ ys) some e = absurd (cc e)

take_itself : (m : ℕ) (xs : List ℕ) → take m xs ≡ take (length (take m xs)) xs
take_itself zero xs = refl
take_itself (suc m) [] = refl
take_itself (suc m) (x ∷ xs) = ap (λ l. x ∷ l) (take_itself m xs)

-- a prefix of a front, and what is behind it
front_of_front : (j m : ℕ) (ys front : List ℕ) → front ≡ take j (take m ys) → ys ≡ front ++ drop (length front) ys
front_of_front j m ys front e =
    let behind = drop j (take m ys) ++ drop m ys in
    let whole : ys ≡ front ++ behind =
    sym (take-append-drop m ys) ∙ (ap (λ l. l ++ drop m ys) (sym (take-append-drop j (take m ys)) ∙ ap (λ l. l ++ drop j (take m ys)) (sym e))
    ∙ append_assoc front (drop j (take m ys)) (drop m ys)) in
    whole ∙ ap (λ l. front ++ l) (sym (ap (drop (length front)) whole ∙ drop-append_seam front behind))

-- it is a front
front_twice : (m room : ℕ) (xs : List ℕ) → 0 < m → 0 < room → (n : ℕ) × (0 < n) × (n ≤ m) × (take m (take room xs) ≡ take n xs)
front_twice m room xs some more = elim (cases_lt m room) [
  | inl less ↦ (m, some, omega arith, take-take m room xs (omega (arith, less)))
  | inr most ↦ (room, more, most, take_all m (take room xs) (omega (arith, most, length-take room xs)))
]

-- the prefix of a part behind so many bytes is a prefix of the content
front_of_part : (size before within start : ℕ) (content : List ℕ) → start ≡ before * size + within → within < size
    → drop within (take size (drop (before * size) content)) ≡ take (size - within) (drop start content)
front_of_part size before within start content e l =
    let sum : size ≡ within + (size - within) = omega (arith, l) in
    ap (λ n. drop within (take n (drop (before * size) content))) sum
    ∙ (drop-take within (size - within) (drop (before * size) content)
    ∙ ap (take (size - within)) (drop-drop within (before * size) content ∙ ap (λ n. drop n content) (sym e)))

pub is_next : (all : List ℕ) (start : ℕ) (bytes : List ℕ) → AreFirstBytes (drop start all) bytes → AreNextBytes all start bytes
is_next all start bytes front = record {
  on = sym (take-append-drop (length bytes) (drop start all)) ∙ ap (λ l. l ++ drop (length bytes) (drop start all)) (sym front.are) ∙ ap (λ l. bytes ++ l) (drop-drop (length bytes) start all);
  none = front.none;
  few = front.few;
}

-- ---- what is appended

-- the block at a place has what the part has there
pub block_has : {X : Type 0} (items : X → List ℕ) (part : List ℕ) (place : ℕ) (found : Option X) → option_map items found ≡ slice_get (blocks_of part) place → unwrap_or (option_map items found) [] ≡ take 65536 (drop (place * 65536) part)
block_has items part place found is = ap (λ o. unwrap_or o []) is ∙ (unwrap_or-slice_get (blocks_of part) place [] ∙ block_at part place)

-- what a block has behind its first bytes
behind_block : (part : List ℕ) (behind : ℕ) → drop (behind % 65536) (take 65536 (drop (behind / 65536 * 65536) part)) ≡ take (65536 - behind % 65536) (drop behind part)
behind_block part behind =
    let less : behind % 65536 < 65536 = omega arith in
    let whole : behind ≡ behind / 65536 * 65536 + behind % 65536 = omega arith in
    front_of_part 65536 (behind / 65536) (behind % 65536) behind part whole less

-- the byte behind so many of all that is read stands so in its part
pub byte_in : {t : Tables} {s : State} (h : TablesAre t s) (file : ℕ) (size : Option ℕ) (all : List ℕ) (behind : ℕ) (at : ByteInPart) → IsReadBy t s file h size all → IsAtByte size behind at
    → (room : ℕ) × (0 < room) × (drop at.within (part_of h file at.part) ≡ take room (drop behind all))
byte_in h file None all behind at is stands = (
  suc (length all),
  omega arith,
  ap (drop at.within) (ap (λ k. part_of h file k) stands.0 ∙ sym is) ∙ ap (λ n. drop n all) stands.1 ∙ sym (take_all (suc (length all)) (drop behind all) (omega (arith, length-drop behind all))),
)
byte_in h file (Some size) all behind at is stands =
    let below : at.within < size = subst (λ n. n < size) (sym stands.2) (mod_below behind size stands.0) in
    let whole : behind ≡ behind / size * size + at.within = sym (ap (λ n. behind / size * size + n) stands.2 ∙ div-add-mod' behind size) in (
      size - at.within,
      omega (arith, below),
      ap (drop at.within) (ap (λ k. part_of h file k) stands.1 ∙ is.1 (behind / size)) ∙ front_of_part size (behind / size) at.within behind all whole below,
    )

pub grown_by_block : (all part block old new : List ℕ) (start within room : ℕ) (some : Bool) → 0 < room → drop within part ≡ take room (drop (start + length old) all)
    → block ≡ take 65536 (drop (within / 65536 * 65536) part) → AppendsBehind block (within % 65536) old new some → GrowsBy all start old new some
grown_by_block all part block old new start within room some positive stands has a =
    let skip = within % 65536 in
    let less : 0 < 65536 - skip = omega arith in
    let twice = front_twice (65536 - skip) room (drop (start + length old) all) less positive in
    let left : drop skip block ≡ take twice.0 (drop (start + length old) all) = ap (drop skip) has ∙ behind_block part within ∙ ap (take (65536 - skip)) stands ∙ twice.3 in
    let grows : new ≡ old ++ take twice.0 (drop (start + length old) all) = a.grows ∙ ap (λ l. old ++ l) left in
    record {
      most = twice.0;
      grows = grows;
      few = longest (length new) (length old) (length (take twice.0 (drop (start + length old) all))) twice.0 skip (length (drop (start + length old) all))
          (ap (λ l. length l) grows ∙ length-append old (take twice.0 (drop (start + length old) all))) (length-take twice.0 (drop (start + length old) all)) twice.2;
      none = λ e. empty_front twice.0 (drop (start + length old) all) twice.1 (sym left ∙ a.none e);
      more = a.more;
    }
  where
    longest : (long before taken n skip rest : ℕ) → long ≡ before + taken → taken ≡ min n rest → n ≤ 65536 - skip → long ≤ before + 65536
    longest long before taken n skip rest sum is most = omega (arith, sum, is, most)

pub not_grown : (all part old : List ℕ) (start within room : ℕ) → 0 < room → drop within part ≡ take room (drop (start + length old) all) → [] ≡ take 65536 (drop (within / 65536 * 65536) part) → GrowsBy all start old old false
not_grown all part old start within room positive stands has =
    grown_by_block all part [] old old start within room false positive stands has (record {
      grows = sym (ap (λ l. old ++ l) (drop_all (within % 65536) [] (omega arith)) ∙ append-nil old);
      none = λ e. drop_all (within % 65536) [] (omega arith);
      more = λ e. absurd (cc e);
    })

-- ---- what the loop keeps

-- a front that grows is a front
pub front_grows : (all : List ℕ) (start : ℕ) (old new : List ℕ) (some : Bool) → old ≡ take (length old) (drop start all) → GrowsBy all start old new some → new ≡ take (length new) (drop start all)
front_grows all start old new some are g =
    let rest = drop start all in
    let next : drop (start + length old) all ≡ drop (length old) rest = sym (drop-drop (length old) start all) in
    let is : new ≡ take (length old + g.most) rest =
    g.grows ∙ (ap (λ l. old ++ take g.most l) next ∙ (ap (λ l. l ++ take g.most (drop (length old) rest)) are ∙ sym (take-add (length old) g.most rest))) in
    is ∙ take_itself (length old + g.most) rest ∙ ap (λ l. take (length l) rest) (sym is)

-- nothing was read of it, and nothing is there
nothing_grown : (all : List ℕ) (start : ℕ) (old new : List ℕ) → GrowsBy all start old new false → new ≡ [] → drop start all ≡ []
nothing_grown all start old new g none =
    let empty = emptied old (take g.most (drop (start + length old) all)) (sym g.grows ∙ none) in
    let plain : start + length old ≡ start = ap (λ l. start + length l) empty ∙ zero_more start in
    ap (λ n. drop n all) (sym plain) ∙ g.none refl
  where
    zero_more : (n : ℕ) → n + 0 ≡ n
    zero_more n = omega arith

    emptied : (xs ys : List ℕ) → xs ++ ys ≡ [] → xs ≡ []
    emptied [] ys e = refl
    emptied (x ∷ xs) ys e = absurd (cc e)

pub some_front : (all bytes : List ℕ) → bytes ≡ take (length bytes) all → 0 < length bytes → length bytes ≤ 262144 → AreFirstBytes all bytes
some_front all bytes are some few = record { are = are; few = few; none = λ e. let len = ap (λ l. length l) e in absurd (omega (arith, len, some)) }

pub nothing_first : (all bytes : List ℕ) → bytes ≡ [] → (bytes ≡ take (length bytes) all) × (0 < 0 → 0 < length bytes)
nothing_first all bytes none = (none ∙ ap (λ l. take (length l) all) (sym none), λ no. absurd (omega (arith, no)))

pub longer : (all : List ℕ) (start : ℕ) (old new : List ℕ) (some : Bool) → some ≡ true → GrowsBy all start old new some → 0 < length new
longer all start old new some is g = let more = g.more is in omega (arith, more)

-- nothing was read any more
pub ended_front : (all : List ℕ) (start : ℕ) (old new : List ℕ) (some : Bool) → some ≡ false → old ≡ take (length old) (drop start all) → length old ≤ 196608 → GrowsBy all start old new some → AreFirstBytes (drop start all) new
ended_front all start old new some is are few g = record {
  are = front_grows all start old new some are g;
  few = let grown = g.few in omega (arith, few, grown);
  none = nothing_grown all start old new (subst (GrowsBy all start old new) is g);
}

-- ---- how many bytes a part has

pub sized_by_last : {X : Type 0} (items : X → List ℕ) (part : List ℕ) (last size : ℕ) (x : X) → Some (items x) ≡ slice_get (blocks_of part) last → length (blocks_of part) ≡ last + 1 → size ≡ last * 65536 + length (items x) → size ≡ length part
sized_by_last items part last size x is ends e =
    let below = within_by (blocks_of part) last (items x) (sym is) in
    let start = before_end part last below in
    let hold = blocks_hold part in
    let block : items x ≡ take 65536 (drop (last * 65536) part) = sym (got_by (blocks_of part) last (items x) [] (sym is)) ∙ block_at part last in
    let len : length (items x) ≡ min 65536 (length part - last * 65536) = ap (λ l. length l) block ∙ (length-take 65536 (drop (last * 65536) part) ∙ ap (min 65536) (length-drop (last * 65536) part)) in
    sum size last (length (items x)) (length part) (length (blocks_of part)) e len start hold.0 ends
  where
    sum : (size last block len count : ℕ) → size ≡ last * 65536 + block → block ≡ min 65536 (len - last * 65536) → last * 65536 < len → len ≤ count * 65536 → count ≡ last + 1 → size ≡ len
    sum size last block len count e is start hold ends = omega (arith, e, is, start, hold, ends)

pub sized_by_none : (part : List ℕ) → length (blocks_of part) ≡ 0 → 0 ≡ length part
sized_by_none part none = let hold = (blocks_hold part).0 in nothing (length (blocks_of part)) (length part) none hold
  where
    nothing : (count len : ℕ) → count ≡ 0 → len ≤ count * 65536 → 0 ≡ len
    nothing count len is hold = omega (arith, is, hold)

-- ---- contents

module _ (parts : Numbered (List ℕ)) (content : List ℕ) (size : ℕ) (some : 0 < size) (cut : IsCutBy size parts content) where
  abbrev first : List ℕ
  first = unwrap_or (map.get parts 1) []

  first_part : first ≡ take size content
  first_part = let none : 0 * size ≡ 0 = omega arith in cut 0 ∙ ap (λ n. take size (drop n content)) none

  length_first : length first ≡ min size (length content)
  length_first = ap (λ l. length l) first_part ∙ length-take size content

  -- the next bytes of part 1 are the content's
  pub first_next : (start : ℕ) (bytes : List ℕ) → AreFirstBytes (drop start first) bytes → 0 < length bytes → AreNextBytes content start bytes
  first_next start bytes front has = elim (cases_lt start size) [
    | inl within ↦
        let plain : start ≡ 0 * size + start = omega arith in
        let is : drop start first ≡ take (size - start) (drop start content) = ap (drop start) (cut 0) ∙ front_of_part size 0 start start content plain within in
        record {
          on = front_of_front (length bytes) (size - start) (drop start content) bytes (front.are ∙ ap (take (length bytes)) is) ∙ ap (λ l. bytes ++ l) (drop-drop (length bytes) start content);
          none = λ e. empty_front (size - start) (drop start content) (omega (arith, within)) (sym is ∙ front.none e);
          few = front.few;
        }
    | inr past ↦
        let all : drop start first ≡ [] = ap (drop start) first_part ∙ drop_all start (take size content) (omega (arith, length-take size content, past)) in
        let none = ap (λ l. length l) (front.are ∙ (ap (take (length bytes)) all ∙ take_all (length bytes) [] (omega arith))) in
        absurd (omega (arith, none, has))
  ]

  -- part 1 is empty
  pub none_next : (start : ℕ) → 0 ≡ length first → AreNextBytes content start []
  none_next start is =
      let len : length content ≡ 0 = omega (arith, is, length_first, some) in
      let nothing = none_long content len in
      let plain : start + 0 ≡ start = omega arith in
      record { on = ap (λ n. drop n content) (sym plain); none = λ e. ap (drop start) nothing ∙ drop_all start [] (omega arith); few = omega arith }

  -- the size of part 1 does as well
  pub cut_by_first : (n : ℕ) → n ≡ length first → 0 < n → IsCutBy n parts content
  cut_by_first n is positive = elim (cases_lt (length content) size) [
    | inr long ↦ subst (λ m. IsCutBy m parts content) (same size (length content) n (is ∙ length_first) long) cut
    | inl short ↦ whole (all size (length content) n (is ∙ length_first) short) short
  ]
    where
      same : (size len n : ℕ) → n ≡ min size len → size ≤ len → size ≡ n
      same size len n is long = omega (arith, is, long)

      all : (size len n : ℕ) → n ≡ min size len → len < size → n ≡ len
      all size len n is short = omega (arith, is, short)

      far : (k m len : ℕ) → len ≤ m → len ≤ suc k * m
      far k m len h = let next = suc-mul k m in omega (arith, next, h)

      whole : n ≡ length content → length content < size → IsCutBy n parts content
      whole n_is short zero =
          let none : 0 * n ≡ 0 = omega arith in
          first_part ∙ (take_all size content (omega (arith, short)) ∙ (sym (take_all n content (omega (arith, n_is))) ∙ ap (λ m. take n (drop m content)) (sym none)))
      whole n_is short (suc k) =
          cut (suc k) ∙ (ap (take size) (drop_all (suc k * size) content (far k size (length content) (omega (arith, short)))) ∙ (take_all size [] (omega arith) ∙ (sym (take_all n [] (omega arith))
          ∙ ap (take n) (sym (drop_all (suc k * n) content (far k n (length content) (omega (arith, n_is))))))))

-- ---- what the code tests

pub some_if : (items : List ℕ) (len : ℕ) (b : Bool) → b ≡ (len == 0) → b ≡ false → len ≡ length items → 0 < length items
some_if items len b is empty long = grind (arith, nat_tests)

pub none_if : (items : List ℕ) (len : ℕ) (b : Bool) → b ≡ (len == 0) → b ≡ true → len ≡ length items → items ≡ []
none_if items len b is empty long = none_long items (zero_of (length items) len b is empty long)
  where
    zero_of : (n len : ℕ) (b : Bool) → b ≡ (len == 0) → b ≡ true → len ≡ n → n ≡ 0
    zero_of n len b is empty long = grind (arith, nat_tests)
