-- Values and parameters are read where they are written, and as they are written.
use Rattle.std.proofs.Common.{◌≡◌, ◌==◌, ◌∙◌, not, nat_lt, ℕ, Bool, true, false, List, [], ◌∷◌, ◌++◌, length, take, drop, map, Option, Some, None, refl, sym, ap, subst, arith, inl, inr, append_assoc, ne_eqb}
use Rattle.std.proofs.Math.Seq.{drop-append_seam, take-append_seam}
use Rattle.std.proofs.lemmas.Bool.Decides.{nat_tests}
use Rattle.std.proofs.lemmas.List.{take-append-drop}
use Rattle.std.proofs.lemmas.List.Folds.{length-prefix_len}
use Rattle.std.specs.List.{list_all, flat_map, prefix_len}
use Rattle.std.specs.Str.{str_to_ascii_lowercase}
use Rattle.dep_octets.specs.Octets.{is_token, is_token_octet}
use Rattle.dep_params.specs.Grammar.{NamedValue, QuotedOctet, Plain, Escaped, is_quoted_octet, quoted_octet_text, octet_of, is_control, is_bare_octet, Value, Bare, Quoted, is_value, value_text, value_octets}
use Rattle.dep_params.specs.Reading.{quoted, with_octet, is_plain_octet, bare, value_read, behind_name, named, token_len, parameter_read}
use Rattle.dep_params.proofs.Runs.{and_both, not_is, same_number, chosen, prefix_len-stopped, run-passes}

-- the text is quoted octets, a quotation mark and the rest
pub record IsQuoted (text octets rest : List ℕ) : Type 0 where
  pub between : List QuotedOctet
  pub good : list_all is_quoted_octet between ≡ true
  pub written : text ≡ flat_map quoted_octet_text between ++ 34 ∷ rest
  pub reported : octets ≡ map octet_of between

with_octet_some : (b : ℕ) (read : Option (List ℕ × List ℕ)) (x : List ℕ × List ℕ) → with_octet b read ≡ Some x
    → (y : List ℕ × List ℕ) × (read ≡ Some y) × (x.0 ≡ b ∷ y.0) × (x.1 ≡ y.1)
with_octet_some b None x h = cc h
with_octet_some b (Some y) x h =
    let same : x ≡ (b ∷ y.0, y.1) = cc h in
    (y, refl, ap (λ z. z.0) same, ap (λ z. z.1) same)

abbrev Found : Bool → List ℕ → List ℕ × List ℕ → Type 0
Found false text x = IsQuoted text x.0 x.1
Found true text x = (c : ℕ) × (rest : List ℕ) × (octets : List ℕ) × (text ≡ c ∷ rest) × (is_control c ≡ false) × (x.0 ≡ c ∷ octets) × IsQuoted rest octets x.1

quoted-sound : (text : List ℕ) (escaped : Bool) (x : List ℕ × List ℕ) → quoted escaped text ≡ Some x → Found escaped text x
unfolding quoted
quoted-sound [] escaped x h = cc h
quoted-sound (b ∷ rest) true x h = elim (chosen (is_control b) None (with_octet b (quoted false rest)) (Some x) h) [
  | inl bad ↦ cc (bad.1)
  | inr good ↦
      let read = with_octet_some b (quoted false rest) x good.1 in
      let found = quoted-sound rest false read.0 read.1 in
      (b, rest, read.0.0, refl, good.0, read.2, subst (λ (r : List ℕ). IsQuoted rest read.0.0 r) (sym read.3) found)
]
quoted-sound (b ∷ rest) false x h = elim (chosen (b == 34) _ _ (Some x) h) [
  | inl quote ↦
      let same : x ≡ ([], rest) = cc (quote.1) in
      record {
        between = [];
        good = refl;
        written = rw (same_number b 34 quote.0, same) refl;
        reported = ap (λ z. z.0) same;
      }
  | inr other ↦ elim (chosen (b == 92) _ _ (Some x) other.1) [
    | inl backslash ↦
        let found = quoted-sound rest true x backslash.1 in
        let inner = found.6 in
        record {
          between = Escaped found.0 ∷ inner.between;
          good = rw (found.4, inner.good) refl;
          written = rw (same_number b 92 backslash.0, found.3, inner.written) refl;
          reported = found.5 ∙ ap (λ o. found.0 ∷ o) inner.reported;
        }
    | inr plain ↦ elim (chosen (is_plain_octet b) _ _ (Some x) plain.1) [
      | inl good ↦
          let read = with_octet_some b (quoted false rest) x good.1 in
          let inner = quoted-sound rest false read.0 read.1 in
          record {
            between = Plain b ∷ inner.between;
            good = rw (good.0, inner.good) refl;
            written = ap (λ t. b ∷ t) (inner.written ∙ ap (λ r. flat_map quoted_octet_text inner.between ++ 34 ∷ r) (sym read.3));
            reported = read.2 ∙ ap (λ o. b ∷ o) inner.reported;
          }
      | inr bad ↦ cc (bad.1)
    ]
  ]
]

pub quoted-complete : (between : List QuotedOctet) (tail : List ℕ) → list_all is_quoted_octet between ≡ true
    → quoted false (flat_map quoted_octet_text between ++ 34 ∷ tail) ≡ Some (map octet_of between, tail)
unfolding quoted
quoted-complete [] tail h = refl
quoted-complete (Plain b ∷ between) tail h =
    let both = and_both (is_plain_octet b) (list_all is_quoted_octet between) h in
    let parts = and_both _ _ both.0 in
    let others = and_both _ _ parts.0 in
    let quote = not_is (b == 34) others.1 in
    let backslash = not_is (b == 92) parts.1 in
    rw (both.0, quote, backslash, quoted-complete between tail both.1) refl
quoted-complete (Escaped b ∷ between) tail h =
    let both = and_both (not (is_control b)) (list_all is_quoted_octet between) h in
    rw (not_is (is_control b) both.0, quoted-complete between tail both.1) refl

bare-run : (run tail : List ℕ) → nat_lt 0 (length run) ≡ true → list_all is_bare_octet run ≡ true → prefix_len is_bare_octet tail ≡ 0
    → bare (run ++ tail) ≡ Some (run, tail)
bare-run run tail some all stops =
    let other : length run ≡ 0 → ⊥ = λ h. grind (arith, nat_tests) in
    rw (prefix_len-stopped is_bare_octet run tail all stops, ne_eqb (length run) 0 other, take-append_seam run tail, drop-append_seam run tail) refl

value_read-bare : (b : ℕ) (rest : List ℕ) → (b == 34) ≡ false → value_read (b ∷ rest) ≡ bare (b ∷ rest)
unfolding value_read
value_read-bare b rest h = rw h refl

pub value_read-complete : (v : Value) (tail : List ℕ) → is_value v ≡ true → prefix_len is_bare_octet tail ≡ 0
    → value_read (value_text v ++ tail) ≡ Some (value_octets v, tail)
unfolding value_read
value_read-complete (Bare []) tail h stops = cc h
value_read-complete (Bare (b ∷ run)) tail h stops =
    let both = and_both (nat_lt 0 (length (b ∷ run))) (list_all is_bare_octet (b ∷ run)) h in
    let first = and_both (is_bare_octet b) (list_all is_bare_octet run) both.1 in
    let quote = not_is (b == 34) (and_both _ _ first.0).1 in
    value_read-bare b (run ++ tail) quote ∙ bare-run (b ∷ run) tail both.0 both.1 stops
value_read-complete (Quoted between) tail h stops =
    rw (append_assoc (flat_map quoted_octet_text between) (34 ∷ []) tail) (quoted-complete between tail h)

-- the text is a value and the rest
pub record IsValue (text octets rest : List ℕ) : Type 0 where
  pub value : Value
  pub good : is_value value ≡ true
  pub written : text ≡ value_text value ++ rest
  pub reported : octets ≡ value_octets value

pub is_some : (n : ℕ) → (n == 0) ≡ false → nat_lt 0 n ≡ true
is_some n h = grind (arith, nat_tests)

bare-sound : (text : List ℕ) (x : List ℕ × List ℕ) → bare text ≡ Some x → IsValue text x.0 x.1
bare-sound text x h = elim (chosen (prefix_len is_bare_octet text == 0) _ _ (Some x) h) [
  | inl none ↦ cc (none.1)
  | inr found ↦
      let n = prefix_len is_bare_octet text in
      let same : x ≡ (take n text, drop n text) = cc (found.1) in
      let some : nat_lt 0 (length (take n text)) ≡ true = rw length-prefix_len (is_some n found.0) in
      record {
        value = Bare (take n text);
        good = rw (some, run-passes is_bare_octet text) refl;
        written = rw same (sym (take-append-drop n text));
        reported = ap (λ z. z.0) same;
      }
]

pub value_read-sound : (text : List ℕ) (x : List ℕ × List ℕ) → value_read text ≡ Some x → IsValue text x.0 x.1
unfolding value_read
value_read-sound [] x h = cc h
value_read-sound (b ∷ rest) x h = elim (chosen (b == 34) _ _ (Some x) h) [
  | inl quote ↦
      let found = quoted-sound rest false x quote.1 in
      record {
        value = Quoted found.between;
        good = found.good;
        written = ap (λ n. n ∷ rest) (same_number b 34 quote.0) ∙ ap (λ t. 34 ∷ t) (found.written ∙ sym (append_assoc (flat_map quoted_octet_text found.between) (34 ∷ []) x.1));
        reported = found.reported;
      }
  | inr other ↦ bare-sound (b ∷ rest) x other.1
]

-- the text is a parameter and the rest
pub record IsParameter (text : List ℕ) (p : NamedValue) (rest : List ℕ) : Type 0 where
  pub name : List ℕ
  pub value : Value
  pub token : is_token name ≡ true
  pub good : is_value value ≡ true
  pub written : text ≡ name ++ (61 ∷ (value_text value ++ rest))
  pub reported : p ≡ record { name = str_to_ascii_lowercase name; value = value_octets value }

pub parameter_read-complete : (name : List ℕ) (v : Value) (tail : List ℕ) → is_token name ≡ true → is_value v ≡ true → prefix_len is_bare_octet tail ≡ 0
    → parameter_read (name ++ (61 ∷ (value_text v ++ tail))) ≡ Some (record { name = str_to_ascii_lowercase name; value = value_octets v }, tail)
unfolding parameter_read
parameter_read-complete name v tail token good stops =
    let both = and_both (nat_lt 0 (length name)) (list_all is_token_octet name) token in
    let size : token_len (name ++ (61 ∷ (value_text v ++ tail))) ≡ length name = prefix_len-stopped is_token_octet name (61 ∷ (value_text v ++ tail)) both.1 refl in
    rw (size, take-append_seam name (61 ∷ (value_text v ++ tail)), drop-append_seam name (61 ∷ (value_text v ++ tail)), value_read-complete v tail good stops) refl

behind_name-sound : (text : List ℕ) (y : List ℕ × List ℕ) → behind_name text ≡ Some y → (r : List ℕ) × (text ≡ 61 ∷ r) × (value_read r ≡ Some y)
behind_name-sound [] y h = cc h
behind_name-sound (b ∷ r) y h = elim (chosen (b == 61) _ _ (Some y) h) [
  | inl equals ↦ (r, ap (λ n. n ∷ r) (same_number b 61 equals.0), equals.1)
  | inr other ↦ cc (other.1)
]

named_some : (name : List ℕ) (read : Option (List ℕ × List ℕ)) (x : NamedValue × List ℕ) → named name read ≡ Some x
    → (y : List ℕ × List ℕ) × (read ≡ Some y) × (x.0 ≡ record { name = str_to_ascii_lowercase name; value = y.0 }) × (x.1 ≡ y.1)
named_some name None x h = cc h
named_some name (Some y) x h =
    let same : x ≡ (record { name = str_to_ascii_lowercase name; value = y.0 }, y.1) = cc h in
    (y, refl, ap (λ z. z.0) same, ap (λ z. z.1) same)

pub parameter_read-sound : (text : List ℕ) (x : NamedValue × List ℕ) → (token_len text ≡ 0 → ⊥) → parameter_read text ≡ Some x → IsParameter text x.0 x.1
unfolding parameter_read
parameter_read-sound text x named h =
    let n = token_len text in
    let read = named_some (take n text) (behind_name (drop n text)) x h in
    let behind = behind_name-sound (drop n text) read.0 read.1 in
    let found = value_read-sound behind.0 read.0 behind.2 in
    let some : nat_lt 0 (length (take n text)) ≡ true = rw length-prefix_len (is_some n (ne_eqb n 0 named)) in
    record {
      name = take n text;
      value = found.value;
      token = rw (some, run-passes is_token_octet text) refl;
      good = found.good;
      written = sym (take-append-drop n text) ∙ ap (λ d. take n text ++ d) (behind.1 ∙ ap (λ r. 61 ∷ r) (found.written ∙ ap (λ t. value_text found.value ++ t) (sym read.3)));
      reported = read.2 ∙ ap (λ (o : List ℕ). let p : NamedValue = record { name = str_to_ascii_lowercase (take n text); value = o } in p) found.reported;
    }
