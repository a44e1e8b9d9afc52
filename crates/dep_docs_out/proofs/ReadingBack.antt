-- A value whose numbers are whole and whose names rise is read back from its text.
use Rattle.std.proofs.Common.{◌≡◌, ◌∙◌, ◌≤◌, ◌^◌, ℕ, zero, suc, Bool, true, false, List, [], Some, option_map, option_and_then, Ordering, Less, Greater, ◌&&◌, nat_lt, refl, sym, ap, arith, append-nil, nat_cmp, ltb-true}
use Rattle.std.specs.Prelude.{⊤}
use Rattle.std.specs.Ordering.{is_lt, ordering_reverse}
use Rattle.std.specs.Cmp.Lexicographic.{slice_cmp}
use Rattle.std.proofs.lemmas.Cmp.{nat_list_cmp_total}
use Rattle.std.proofs.lemmas.Bool.{and_parts, false≢true}
use Rattle.json.specs.Lex.{tokens}
use Rattle.json.specs.Json as json
use Rattle.json.specs.Tree as tree
use Rattle.json.proofs.Printed.Decimals.{IsNumber-decimal}
use Rattle.json.proofs.Printed.Tokens.{tokens-print}
use Rattle.json.proofs.Printed.Trees.{value-json_tokens, ArePrintable-json_tokens}
use Rattle.serde_json.specs.Data.{Num, unsigned, negative, float, Data, null, boolean, number, string, array, object, Items, no_items, item, Members, no_members, member, put}
use Rattle.serde_json.specs.Read.{read, of_json, of_items, of_members, max_depth}
use Rattle.serde_json.specs.Written.{outline, items_outline, members_outline, compact_text}
use Rattle.serde_json.proofs.Numbers.{number_of-decimal}
use Rattle.serde_json.proofs.Texts.{print-outline}

-- ---- values that are read back: numbers of 64 bits, names that rise, nested at most n deep

abbrev pub is_whole : Num → Bool
is_whole (unsigned n) = nat_lt n (2 ^ 64)
is_whole (negative z) = false
is_whole (float x) = false

-- the name is below the first one
abbrev pub is_below : List ℕ → Members → Bool
is_below k no_members = true
is_below k (member l d ms) = is_lt (slice_cmp nat_cmp k l)

abbrev mutual
  pub is_plain : Data → ℕ → Bool
  is_plain null n = true
  is_plain (boolean b) n = true
  is_plain (number m) n = is_whole m
  is_plain (string s) n = true
  is_plain (array ds) zero = false
  is_plain (array ds) (suc n) = are_plain ds n
  is_plain (object ms) zero = false
  is_plain (object ms) (suc n) = members_are_plain ms n

  pub are_plain : Items → ℕ → Bool
  are_plain no_items n = true
  are_plain (item d ds) n = is_plain d n && are_plain ds n

  pub members_are_plain : Members → ℕ → Bool
  members_are_plain no_members n = true
  members_are_plain (member k d ms) n = (is_plain d n && is_below k ms) && members_are_plain ms n

less : (o : Ordering) → is_lt o ≡ true → o ≡ Less
less Less h = refl
less _ h = absurd (false≢true h)

pub member_parts : (k : List ℕ) (d : Data) (ms : Members) (n : ℕ) → members_are_plain (member k d ms) n ≡ true
    → (is_plain d n ≡ true) × (is_below k ms ≡ true) × (members_are_plain ms n ≡ true)
member_parts k d ms n h =
    let whole = and_parts (is_plain d n && is_below k ms) (members_are_plain ms n) h in
    let front = and_parts (is_plain d n) (is_below k ms) whole.0 in
    (front.0, front.1, whole.1)

pub item_parts : (d : Data) (ds : Items) (n : ℕ) → are_plain (item d ds) n ≡ true → (is_plain d n ≡ true) × (are_plain ds n ≡ true)
item_parts d ds n h = and_parts (is_plain d n) (are_plain ds n) h

-- ---- members that are put one after another stay in their order

abbrev before : Members → Members → Members
before no_members ms = ms
before (member k d found) ms = member k d (before found ms)

abbrev AreBelow : Members → List ℕ → Type 0
AreBelow no_members k = ⊤
AreBelow (member l d found) k = (slice_cmp nat_cmp l k ≡ Less) × AreBelow found k

abbrev AreBelowFirst : Members → Members → Type 0
AreBelowFirst found no_members = ⊤
AreBelowFirst found (member k d ms) = AreBelow found k

put_last : (k : List ℕ) (d : Data) (found : Members) → AreBelow found k → put k d found ≡ before found (member k d no_members)
put_last k d no_members h = refl
put_last k d (member l e found) h =
    let above : slice_cmp nat_cmp k l ≡ Greater = nat_list_cmp_total.antisymm k l ∙ ap ordering_reverse h.0 in
    rw above (ap (member l e) (put_last k d found h.1))

below_more : (found : Members) (k l : List ℕ) (d : Data) → AreBelow found k → slice_cmp nat_cmp k l ≡ Less → AreBelow (before found (member k d no_members)) l
below_more no_members k l d h less = (less, tt)
below_more (member j e found) k l d h less = (nat_list_cmp_total.trans j k l h.0 less, below_more found k l d h.1 less)

below_next : (found : Members) (k : List ℕ) (d : Data) (ms : Members) → AreBelow found k → is_below k ms ≡ true → AreBelowFirst (before found (member k d no_members)) ms
below_next found k d no_members h below = tt
below_next found k d (member l e ms) h below = below_more found k l d h (less _ below)

before_none : (found : Members) → before found no_members ≡ found
before_none no_members = refl
before_none (member k d found) = ap (member k d) (before_none found)

before_more : (found : Members) (k : List ℕ) (d : Data) (ms : Members) → before (before found (member k d no_members)) ms ≡ before found (member k d ms)
before_more no_members k d ms = refl
before_more (member l e found) k d ms = ap (member l e) (before_more found k d ms)

-- ---- what the outline of a value is read as

number_read : (m : Num) → is_whole m ≡ true → of_json (outline (number m)) ≡ Some (number m)
number_read (unsigned n) h = ap (option_map number) (number_of-decimal n (ltb-true _ _ h))
number_read _ h = absurd (false≢true h)

mutual
  data_read : (d : Data) (n : ℕ) → is_plain d n ≡ true → of_json (outline d) ≡ Some d
  data_read (number m) n h = number_read m h
  data_read (array ds) zero h = absurd (false≢true h)
  data_read (array ds) (suc n) h = ap (option_map array) (items_read ds n h)
  data_read (object ms) zero h = absurd (false≢true h)
  data_read (object ms) (suc n) h = ap (option_map object) (members_read ms no_members n h (nothing_below ms))
  data_read _ n h = refl

  items_read : (ds : Items) (n : ℕ) → are_plain ds n ≡ true → of_items (items_outline ds) ≡ Some ds
  items_read no_items n h = refl
  items_read (item d ds) n h =
      let p = item_parts d ds n h in
      ap (option_and_then (λ e. option_map (item e) (of_items (items_outline ds)))) (data_read d n p.0) ∙ ap (option_map (item d)) (items_read ds n p.1)

  members_read : (ms found : Members) (n : ℕ) → members_are_plain ms n ≡ true → AreBelowFirst found ms → of_members (members_outline ms) found ≡ Some (before found ms)
  members_read no_members found n h below = ap Some (sym (before_none found))
  members_read (member k d ms) found n h below =
      let p = member_parts k d ms n h in
      ap (option_and_then (λ e. of_members (members_outline ms) (put k e found))) (data_read d n p.0)
      ∙ ap (of_members (members_outline ms)) (put_last k d found below)
      ∙ members_read ms (before found (member k d no_members)) n p.2 (below_next found k d ms below p.1)
      ∙ ap Some (before_more found k d ms)

  nothing_below : (ms : Members) → AreBelowFirst no_members ms
  nothing_below no_members = tt
  nothing_below (member k d ms) = tt

-- ---- its depth and its numbers

mutual
  shallow : (d : Data) (n : ℕ) → is_plain d n ≡ true → tree.depth (outline d) ≤ n
  shallow (array ds) zero h = absurd (false≢true h)
  shallow (array ds) (suc n) h = omega (arith, items_shallow ds n h)
  shallow (object ms) zero h = absurd (false≢true h)
  shallow (object ms) (suc n) h = omega (arith, members_shallow ms n h)
  shallow _ n h = omega arith

  items_shallow : (ds : Items) (n : ℕ) → are_plain ds n ≡ true → tree.items_depth (items_outline ds) ≤ n
  items_shallow no_items n h = omega arith
  items_shallow (item d ds) n h = let p = item_parts d ds n h in omega (arith, shallow d n p.0, items_shallow ds n p.1)

  members_shallow : (ms : Members) (n : ℕ) → members_are_plain ms n ≡ true → tree.members_depth (members_outline ms) ≤ n
  members_shallow no_members n h = omega arith
  members_shallow (member k d ms) n h = let p = member_parts k d ms n h in omega (arith, shallow d n p.0, members_shallow ms n p.2)

number_numeral : (m : Num) → is_whole m ≡ true → tree.HasNumbers (outline (number m))
number_numeral (unsigned n) h = IsNumber-decimal n (ltb-true _ _ h)
number_numeral _ h = absurd (false≢true h)

mutual
  numerals : (d : Data) (n : ℕ) → is_plain d n ≡ true → tree.HasNumbers (outline d)
  numerals (number m) n h = number_numeral m h
  numerals (array ds) zero h = absurd (false≢true h)
  numerals (array ds) (suc n) h = items_numerals ds n h
  numerals (object ms) zero h = absurd (false≢true h)
  numerals (object ms) (suc n) h = members_numerals ms n h
  numerals _ n h = tt

  items_numerals : (ds : Items) (n : ℕ) → are_plain ds n ≡ true → tree.ItemsHaveNumbers (items_outline ds)
  items_numerals no_items n h = tt
  items_numerals (item d ds) n h = let p = item_parts d ds n h in (numerals d n p.0, items_numerals ds n p.1)

  members_numerals : (ms : Members) (n : ℕ) → members_are_plain ms n ≡ true → tree.MembersHaveNumbers (members_outline ms)
  members_numerals no_members n h = tt
  members_numerals (member k d ms) n h = let p = member_parts k d ms n h in (numerals d n p.0, members_numerals ms n p.2)

-- ---- the text of such a value

tokens_of : (d : Data) (n : ℕ) → is_plain d n ≡ true → tokens (compact_text d) ≡ tree.json_tokens (outline d)
tokens_of d n h = ap tokens (sym (print-outline d)) ∙ tokens-print (tree.json_tokens (outline d)) (ArePrintable-json_tokens (outline d) (numerals d n h))

pub read_back : (d : Data) (n : ℕ) → n ≤ max_depth → is_plain d n ≡ true → read (compact_text d) ≡ Some d
read_back d n small h =
    ap (λ ts. option_and_then of_json (option_and_then (λ p. json.if_last p.0 p.1) (json.value max_depth ts))) (tokens_of d n h ∙ sym (append-nil _))
    ∙ ap (λ o. option_and_then of_json (option_and_then (λ p. json.if_last p.0 p.1) o)) (value-json_tokens (outline d) max_depth [] (omega (arith, small, shallow d n h)))
    ∙ data_read d n h
