-- The text of a value is UTF-8, where its texts and names are.
use Rattle.std.proofs.Common.{◌≡◌, ◌/◌, ◌%◌, ◌==◌, ℕ, zero, suc, Bool, true, false, cond, List, [], ◌∷◌, ◌++◌, decimal, IsUtf8, refl, arith}
use Rattle.std.specs.Prelude.{⊤}
use Rattle.std.specs.Bool.{OnFalse}
use Rattle.std.specs.Fmt.{digits, digits_onto, digit_glyph}
use Rattle.std.proofs.lemmas.Bool.{false≢true}
use Rattle.std.proofs.lemmas.Str.{IsUtf8-append, IsUtf8-nil}
use Rattle.json.proofs.Printed.Utf8.{IsUtf8-are_ascii, IsUtf8-boolean, IsUtf8-quoted, are_ascii}
use Rattle.serde_json.specs.Data.{Num, unsigned, negative, float, Data, null, boolean, number, string, array, object, Items, no_items, item, Members, no_members, member}
use Rattle.serde_json.specs.Written.{number_text, comma_if, compact_text, items_text, members_text}
use Rattle.dep_docs_out.proofs.ReadingBack.{is_plain, are_plain, members_are_plain, is_whole, item_parts, member_parts}

-- a text of UTF-8; nothing has to be shown of ASCII
abbrev pub IsText : List ℕ → Type 0
IsText s = OnFalse (are_ascii s) (IsUtf8 s)

pub is_text : (s : List ℕ) → IsUtf8 s → IsText s
is_text s h = elim (are_ascii s) as (λ b. OnFalse b (IsUtf8 s)) [ true ↦ tt | false ↦ h ]

utf8 : (s : List ℕ) → IsText s → IsUtf8 s
utf8 s h = elim (are_ascii s) as (λ b. are_ascii s ≡ b → OnFalse b (IsUtf8 s) → IsUtf8 s) [ true ↦ λ e t. IsUtf8-are_ascii s e | false ↦ λ e t. t ] refl h

abbrev mutual
  pub HasUtf8 : Data → Type 0
  HasUtf8 null = ⊤
  HasUtf8 (boolean b) = ⊤
  HasUtf8 (number m) = ⊤
  HasUtf8 (string s) = IsText s
  HasUtf8 (array ds) = ItemsHaveUtf8 ds
  HasUtf8 (object ms) = MembersHaveUtf8 ms

  pub ItemsHaveUtf8 : Items → Type 0
  ItemsHaveUtf8 no_items = ⊤
  ItemsHaveUtf8 (item d ds) = HasUtf8 d × ItemsHaveUtf8 ds

  pub MembersHaveUtf8 : Members → Type 0
  MembersHaveUtf8 no_members = ⊤
  MembersHaveUtf8 (member k d ms) = IsText k × HasUtf8 d × MembersHaveUtf8 ms

-- ---- digits

byte_more : (b : ℕ) (bs : List ℕ) → are_ascii (b ∷ []) ≡ true → IsUtf8 bs → IsUtf8 (b ∷ bs)
byte_more b bs small h = IsUtf8-append (b ∷ []) bs (IsUtf8-are_ascii (b ∷ []) small) h

glyph_small : (n : ℕ) → are_ascii (digit_glyph false (n % 10) ∷ []) ≡ true
glyph_small n = grind arith

digits_utf8 : (k n : ℕ) (acc : List ℕ) → IsUtf8 acc → IsUtf8 (digits_onto k 10 false n acc)
digits_utf8 zero n acc h = h
digits_utf8 (suc k) n acc h =
    let more = byte_more (digit_glyph false (n % 10)) acc (glyph_small n) h in
    elim (n / 10 == 0) as (λ b. IsUtf8 (cond b (digit_glyph false (n % 10) ∷ acc) (digits_onto k 10 false (n / 10) (digit_glyph false (n % 10) ∷ acc)))) [
      | true ↦ more
      | false ↦ digits_utf8 k (n / 10) (digit_glyph false (n % 10) ∷ acc) more
    ]

pub decimal_utf8 : (n : ℕ) → IsUtf8 (decimal n)
unfolding digits
decimal_utf8 n = digits_utf8 64 n [] IsUtf8-nil

-- ---- the text of a value

comma_utf8 : (later : Bool) → IsUtf8 (comma_if later)
comma_utf8 true = IsUtf8-are_ascii (44 ∷ []) refl
comma_utf8 false = IsUtf8-nil

number_utf8 : (m : Num) → is_whole m ≡ true → IsUtf8 (number_text m)
number_utf8 (unsigned n) h = decimal_utf8 n
number_utf8 (negative z) h = absurd (false≢true h)
number_utf8 (float x) h = absurd (false≢true h)

mutual
  pub text_utf8 : (d : Data) (n : ℕ) → is_plain d n ≡ true → HasUtf8 d → IsUtf8 (compact_text d)
  text_utf8 null n h t = IsUtf8-are_ascii (compact_text null) refl
  text_utf8 (boolean b) n h t = IsUtf8-boolean b
  text_utf8 (number m) n h t = number_utf8 m h
  text_utf8 (string s) n h t = IsUtf8-quoted s (utf8 s t)
  text_utf8 (array ds) zero h t = absurd (false≢true h)
  text_utf8 (array ds) (suc n) h t = byte_more 91 (items_text false ds) refl (items_utf8 false ds n h t)
  text_utf8 (object ms) zero h t = absurd (false≢true h)
  text_utf8 (object ms) (suc n) h t = byte_more 123 (members_text false ms) refl (members_utf8 false ms n h t)

  items_utf8 : (later : Bool) (ds : Items) (n : ℕ) → are_plain ds n ≡ true → ItemsHaveUtf8 ds → IsUtf8 (items_text later ds)
  items_utf8 later no_items n h t = IsUtf8-are_ascii (93 ∷ []) refl
  items_utf8 later (item d ds) n h t =
      let p = item_parts d ds n h in
      let rest = IsUtf8-append (compact_text d) (items_text true ds) (text_utf8 d n p.0 t.0) (items_utf8 true ds n p.1 t.1) in
      IsUtf8-append (comma_if later) (compact_text d ++ items_text true ds) (comma_utf8 later) rest

  members_utf8 : (later : Bool) (ms : Members) (n : ℕ) → members_are_plain ms n ≡ true → MembersHaveUtf8 ms → IsUtf8 (members_text later ms)
  members_utf8 later no_members n h t = IsUtf8-are_ascii (125 ∷ []) refl
  members_utf8 later (member k d ms) n h t =
      let p = member_parts k d ms n h in
      let rest = IsUtf8-append (compact_text d) (members_text true ms) (text_utf8 d n p.0 t.1) (members_utf8 true ms n p.2 t.2) in
      let named = byte_more 58 (compact_text d ++ members_text true ms) refl rest in
      IsUtf8-append (comma_if later) _ (comma_utf8 later) (IsUtf8-append _ (58 ∷ (compact_text d ++ members_text true ms)) (IsUtf8-quoted k (utf8 k t.0)) named)
