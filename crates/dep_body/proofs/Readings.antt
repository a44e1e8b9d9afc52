-- What the reading of a line's bytes says of the line.
use Rattle.std.proofs.Common.{◌≡◌, ℕ, suc, ◌+◌, ◌*◌, ◌==◌, Bool, true, false, ◌&&◌, cond, nat_lt, nat_le, List, [], ◌∷◌, take, drop, Option, Some, None, if◌then◌else◌, one-add, lt-ltb, refl, sym, ap, subst, ◌∙◌, arith, inl, inr}
use Rattle.std.proofs.lemmas.Bool.{cases_Bool}
use Rattle.std.proofs.lemmas.Bool.Decides.{nat_tests}
use Rattle.std.specs.List.{fold, list_all, prefix_len}
use Rattle.std.specs.Char.{digit_value}
use Rattle.std.specs.Str.Parse.{digits_value, digits_value_after}
use Rattle.dep_octets.specs.Octets.{capped, is_token_octet}
use Rattle.dep_body.specs.Lines.{line_size, is_hex_octet, begins_extension, is_extension_octet, is_extension, is_trailer_line, is_trailer_value, is_trailer_octet}
use Rattle.dep_body.specs.Reading.{with_digit, size_after, size_reading, SaysSize, trailer_after, trailer_reading, ReportsTrailer}
use Rattle.dep_body.specs.declared.size.SizeReading.TheVariants.{Digits, Extension, Malformed}
use Rattle.dep_body.specs.declared.trailers.TrailerReading as T
use Rattle.dep_body.specs.declared.trailers.TrailerReading.TheVariants as V

-- a number past the greatest stays past it
capped_digit : (most n d : ℕ) → with_digit most (capped most n) d ≡ capped most (n * 16 + d)
capped_digit most n d =
    elim (cases_Bool (nat_le n most)) [
      | inl t ↦ rw t refl
      | inr f ↦
          let over : nat_le (n * 16 + d) most ≡ false = grind (arith, nat_tests) in
          rw (f, over) refl
    ]

-- the value of a line that begins with digits for n
size_from : ℕ → List ℕ → Option ℕ
size_from n line =
    let digits = prefix_len is_hex_octet line in
    if is_extension (drop digits line) then Some (digits_value_after 16 n (take digits line)) else None

malformed_stays : (most : ℕ) (line : List ℕ) → fold (size_after most) Malformed line ≡ Malformed
malformed_stays most [] = refl
malformed_stays most (b ∷ line) = malformed_stays most line

extension_from : (most : ℕ) (value : Option ℕ) (line : List ℕ)
    → fold (size_after most) (Extension value) line ≡ (if list_all is_extension_octet line then Extension value else Malformed)
extension_from most value [] = refl
extension_from most value (b ∷ line) =
    elim (cases_Bool (is_extension_octet b)) [
      | inl t ↦ rw t (extension_from most value line)
      | inr f ↦ rw f (malformed_stays most line)
    ]

-- the same, where the number of digits is given
size_at : ℕ → ℕ → List ℕ → Option ℕ
size_at n digits line = if is_extension (drop digits line) then Some (digits_value_after 16 n (take digits line)) else None

-- the run of octets at the front, by the first one
count_more : (p : ℕ → Bool) (b : ℕ) (line : List ℕ) → p b ≡ true → prefix_len p (b ∷ line) ≡ suc (prefix_len p line)
count_more p b line t = ap (λ (c : Bool). cond c (1 + prefix_len p line) 0) t ∙ one-add _

count_none : (p : ℕ → Bool) (b : ℕ) (line : List ℕ) → p b ≡ false → prefix_len p (b ∷ line) ≡ 0
count_none p b line f = ap (λ (c : Bool). cond c (1 + prefix_len p line) 0) f

size_from-digit : (n b : ℕ) (line : List ℕ) → is_hex_octet b ≡ true → size_from n (b ∷ line) ≡ size_from (n * 16 + digit_value b) line
unfolding size_from size_at
size_from-digit n b line t = ap (λ k. size_at n k (b ∷ line)) (count_more is_hex_octet b line t)

size_from-other : (n b : ℕ) (line : List ℕ) → is_hex_octet b ≡ false → size_from n (b ∷ line) ≡ (if is_extension (b ∷ line) then Some n else None)
unfolding size_from size_at
size_from-other n b line f = ap (λ k. size_at n k (b ∷ line)) (count_none is_hex_octet b line f)

-- a reading that goes on behind the digits for n with a byte that is none
other_from : (most n : ℕ) (b : ℕ) (line : List ℕ) (begun : Bool) → begins_extension b ≡ begun
    → SaysSize most (fold (size_after most) (if begun then Extension (capped most n) else Malformed) line)
    (if begun && list_all is_extension_octet line then Some n else None)
other_from most n b line false e = subst (λ r. SaysSize most r None) (sym (malformed_stays most line)) refl
other_from most n b line true e =
    let goes = extension_from most (capped most n) line in
    elim (cases_Bool (list_all is_extension_octet line)) [
      | inl t ↦ rw (goes, t) (n, refl, refl)
      | inr f ↦ rw (goes, f) refl
    ]

digits_from : (most n : ℕ) (line : List ℕ) → SaysSize most (fold (size_after most) (Digits (capped most n)) line) (size_from n line)
unfolding size_from
digits_from most n [] = (n, refl, refl)
digits_from most n (b ∷ line) =
    elim (cases_Bool (is_hex_octet b)) [
      | inl t ↦ rw (size_from-digit n b line t, t, capped_digit most n (digit_value b)) (digits_from most (n * 16 + digit_value b) line)
      | inr f ↦ rw (size_from-other n b line f, f) (other_from most n b line (begins_extension b) refl)
    ]

line_size-nil : line_size [] ≡ None
unfolding line_size
line_size-nil = refl

-- the choice of `line_size`, where the number of digits is given
line_at : ℕ → List ℕ → Option ℕ
line_at digits line = if nat_lt 0 digits && is_extension (drop digits line) then Some (digits_value 16 (take digits line)) else None

line_size-digit : (b : ℕ) (line : List ℕ) → is_hex_octet b ≡ true → line_size (b ∷ line) ≡ size_from (0 * 16 + digit_value b) line
unfolding line_size size_from line_at
line_size-digit b line t =
    ap (λ k. line_at k (b ∷ line)) (count_more is_hex_octet b line t)
    ∙ ap (λ (c : Bool). if c && is_extension (drop (prefix_len is_hex_octet line) line) then Some (digits_value 16 (b ∷ take (prefix_len is_hex_octet line) line)) else None)
    (lt-ltb 0 (suc (prefix_len is_hex_octet line)) (omega arith))

line_size-other : (b : ℕ) (line : List ℕ) → is_hex_octet b ≡ false → line_size (b ∷ line) ≡ None
unfolding line_size line_at
line_size-other b line f = ap (λ k. line_at k (b ∷ line)) (count_none is_hex_octet b line f)

-- the reading of a line says its value
pub size_said : (most : ℕ) (line : List ℕ) → SaysSize most (size_reading most line) (line_size line)
size_said most [] = line_size-nil
size_said most (b ∷ line) =
    elim (cases_Bool (is_hex_octet b)) [
      | inl t ↦ rw (line_size-digit b line t, t) (digits_from most (0 * 16 + digit_value b) line)
      | inr f ↦ rw (line_size-other b line f, f, malformed_stays most line) refl
    ]

-- what is still wanted behind a token
abbrev NameSays : T.TrailerReading → List ℕ → Type 0
NameSays V.Empty line = ⊥
NameSays V.Name line = is_trailer_value (drop (prefix_len is_token_octet line) line) ≡ false
NameSays V.Value line = is_trailer_value (drop (prefix_len is_token_octet line) line) ≡ true
NameSays V.Broken line = is_trailer_value (drop (prefix_len is_token_octet line) line) ≡ false

broken_stays : (line : List ℕ) → fold trailer_after V.Broken line ≡ V.Broken
broken_stays [] = refl
broken_stays (b ∷ line) = broken_stays line

value_from : (line : List ℕ) → fold trailer_after V.Value line ≡ (if list_all is_trailer_octet line then V.Value else V.Broken)
value_from [] = refl
value_from (b ∷ line) =
    elim (cases_Bool (is_trailer_octet b)) [
      | inl t ↦ rw t (value_from line)
      | inr f ↦ rw f (broken_stays line)
    ]

-- the reading behind a token, by what is behind its name
name_by : (r : T.TrailerReading) (line : List ℕ) (good : Bool) → r ≡ (if good then V.Value else V.Broken)
    → is_trailer_value (drop (prefix_len is_token_octet line) line) ≡ good → NameSays r line
name_by r line true e is = subst (λ q. NameSays q line) (sym e) is
name_by r line false e is = subst (λ q. NameSays q line) (sym e) is

no_token_from : (b : ℕ) (line : List ℕ) (colon : Bool) → (b == 58) ≡ colon
    → fold trailer_after (if colon then V.Value else V.Broken) line ≡ (if colon && list_all is_trailer_octet line then V.Value else V.Broken)
no_token_from b line true e = value_from line
no_token_from b line false e = broken_stays line

name_step : (r : T.TrailerReading) (b : ℕ) (line : List ℕ) → is_token_octet b ≡ true → NameSays r line → NameSays r (b ∷ line)
name_step V.Empty b line t h = h
name_step V.Name b line t h = ap (λ k. is_trailer_value (drop k (b ∷ line))) (count_more is_token_octet b line t) ∙ h
name_step V.Value b line t h = ap (λ k. is_trailer_value (drop k (b ∷ line))) (count_more is_token_octet b line t) ∙ h
name_step V.Broken b line t h = ap (λ k. is_trailer_value (drop k (b ∷ line))) (count_more is_token_octet b line t) ∙ h

name_from : (line : List ℕ) → NameSays (fold trailer_after V.Name line) line
name_from [] = refl
name_from (b ∷ line) =
    elim (cases_Bool (is_token_octet b)) [
      | inl t ↦ rw t (name_step _ b line t (name_from line))
      | inr f ↦
          rw f
          (name_by _ (b ∷ line) (b == 58 && list_all is_trailer_octet line) (no_token_from b line (b == 58) refl)
          (ap (λ k. is_trailer_value (drop k (b ∷ line))) (count_none is_token_octet b line f)))
    ]

-- the choice of `is_trailer_line`, where the length of the name is given
trailer_at : ℕ → List ℕ → Bool
trailer_at name line = nat_lt 0 name && is_trailer_value (drop name line)

trailer-token : (b : ℕ) (line : List ℕ) → is_token_octet b ≡ true → is_trailer_line (b ∷ line) ≡ is_trailer_value (drop (prefix_len is_token_octet line) line)
unfolding is_trailer_line trailer_at
trailer-token b line t =
    ap (λ k. trailer_at k (b ∷ line)) (count_more is_token_octet b line t)
    ∙ ap (λ (c : Bool). c && is_trailer_value (drop (prefix_len is_token_octet line) line)) (lt-ltb 0 (suc (prefix_len is_token_octet line)) (omega arith))

trailer-no_token : (b : ℕ) (line : List ℕ) → is_token_octet b ≡ false → is_trailer_line (b ∷ line) ≡ false
unfolding is_trailer_line trailer_at
trailer-no_token b line f = ap (λ k. trailer_at k (b ∷ line)) (count_none is_token_octet b line f)

trailer-nil : is_trailer_line [] ≡ false
unfolding is_trailer_line
trailer-nil = refl

name_reports : (r : T.TrailerReading) (b : ℕ) (line : List ℕ) → is_token_octet b ≡ true → NameSays r line → ReportsTrailer r (b ∷ line)
name_reports V.Empty b line t h = absurd h
name_reports V.Name b line t h = (omega arith, trailer-token b line t ∙ h)
name_reports V.Value b line t h = (omega arith, trailer-token b line t ∙ h)
name_reports V.Broken b line t h = (omega arith, trailer-token b line t ∙ h)

-- the reading of a trailer line tells whether it is one
pub trailer_reported : (line : List ℕ) → ReportsTrailer (trailer_reading line) line
trailer_reported [] = (refl, trailer-nil)
trailer_reported (b ∷ line) =
    elim (cases_Bool (is_token_octet b)) [
      | inl t ↦ rw t (name_reports _ b line t (name_from line))
      | inr f ↦ rw (f, broken_stays line) (omega arith, trailer-no_token b line f)
    ]
