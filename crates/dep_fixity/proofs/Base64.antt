-- Base64 of n octets, read into room for n.
use Rattle.std.proofs.Common.{◌≡◌, ◌≤◌, ◌+◌, ◌/◌, Bool, true, false, cond, nat_lt, ℕ, ◌∙◌, refl, sym, ap, List, length, Option, Some, None, Result, Ok, Err, arith, length-append, le-ltb, lt-ltb, inl, inr, replicate, eq-eqb, ne_eqb}
use Rattle.std.proofs.lemmas.Bool.{cases_lt}
use Rattle.std.proofs.lemmas.List.{length-replicate}
use Rattle.base64.specs.declared.decode.DecodeError.{DecodeError}
use Rattle.base64.specs.declared.decode.DecodeSliceError.{DecodeSliceError}
use Rattle.base64.specs.declared.decode.DecodeSliceError.TheVariants.{OutputSliceTooSmall}
use Rattle.base64.specs.Decode.{decode_outcome, or_error, or_else, bytes_fit, groups_before_last}
use Rattle.base64.specs.GeneralPurpose.{IsBytes, IsStrict, encode_of, decode_of, decoded_of, decoded_bytes_of, decode_slice_of}
use Rattle.base64.specs.Engines.{standard}
use Rattle.base64.specs.Rfc4648.{encode_symbols, padding_len, unpadded_len}
use Rattle.base64.proofs.EngineFacts.{decode_of_strict}
use Rattle.base64.proofs.RoundTrip.{length-encode_symbols}
use Rattle.std.specs.Result.{result_ok}
use Rattle.dep_fixity.specs.Fixity.{octets_of_base64, just_so_many}

is_strict : IsStrict standard
is_strict = (refl, refl)

-- what reading into room for n answers: an error of a lone symbol, or that the room is too small for the groups before
-- the last, or another error, or whether the octets fit
abbrev answer : Option DecodeError → Bool → Option DecodeError → List ℕ → ℕ → Result ℕ DecodeSliceError
answer lone small other octets n =
    or_error lone (cond small (Err OutputSliceTooSmall) (or_error other (bytes_fit (length octets) n)))

record IsAnswer (text : List ℕ) (n : ℕ) : Type 0 where
  lone : Option DecodeError
  other : Option DecodeError
  whole : decode_of standard text ≡ decode_outcome (or_else lone other) (decoded_bytes_of standard text)
  into : decode_slice_of standard text n ≡ answer lone (nat_lt (n / 3) (groups_before_last (length text))) other (decoded_bytes_of standard text) n

answer_is : (text : List ℕ) (n : ℕ) → IsAnswer text n
answer_is text n = record { lone = _; other = _; whole = refl; into = refl }

-- octets that fit are just so many
fits : (lone other : Option DecodeError) (small : Bool) (octets : List ℕ) (n : ℕ) → answer lone small other octets n ≡ Ok n
    → (just_so_many n (result_ok (decode_outcome (or_else lone other) octets)) ≡ Some octets) × (length octets ≡ n)
fits (Some e) other small octets n h = cc h
fits None other true octets n h = cc h
fits None (Some e) false octets n h = cc h
fits None None false octets n h = elim (cases_lt n (length octets)) [
  | inl long ↦ let bad = rw (lt-ltb n (length octets) long) at h in cc bad
  | inr short ↦
      let counted = rw (le-ltb n (length octets) short) at h in
      let same : length octets ≡ n = cc counted in
      (rw (eq-eqb _ _ same) refl, same)
]

answer_fits : (small : Bool) (octets : List ℕ) (n : ℕ) → small ≡ false → length octets ≡ n → answer None small None octets n ≡ Ok n
answer_fits small octets n large same = rw (large, same, le-ltb n n (omega arith)) refl

fits_not : (lone other : Option DecodeError) (small : Bool) (octets : List ℕ) (n : ℕ) → (answer lone small other octets n ≡ Ok n → ⊥)
    → (decode_outcome (or_else lone other) octets ≡ Ok octets → length octets ≡ n → small ≡ false)
    → just_so_many n (result_ok (decode_outcome (or_else lone other) octets)) ≡ None
fits_not (Some e) other small octets n h room = refl
fits_not None (Some e) small octets n h room = refl
fits_not None None small octets n h room =
    let differs : length octets ≡ n → ⊥ = λ same. h (answer_fits small octets n (room refl same) same) in
    rw (ne_eqb _ _ differs) refl

encoded_length : (octets : List ℕ) → length (encode_of standard octets) ≡ unpadded_len (length octets) + padding_len (length octets)
encoded_length octets =
    length-append (encode_symbols standard.encode_table octets) (replicate (padding_len (length octets)) 61)
    ∙ rw (length-encode_symbols, length-replicate) refl

groups_fit : (n : ℕ) → groups_before_last (unpadded_len n + padding_len n) ≤ n / 3
groups_fit n = omega arith

-- the room is large enough for the text of n octets
room_for : (text octets : List ℕ) (n : ℕ) → IsBytes text → decode_of standard text ≡ Ok octets → length octets ≡ n
    → nat_lt (n / 3) (groups_before_last (length text)) ≡ false
room_for text octets n small ok size =
    let spelled = decode_of_strict standard text octets is_strict small ok in
    let long : length text ≡ unpadded_len n + padding_len n = rw size at (ap length spelled ∙ encoded_length octets) in
    rw long (le-ltb _ _ (groups_fit n))

pub octets_of_base64-read : (text : List ℕ) (n : ℕ) → decode_slice_of standard text n ≡ Ok n
    → (octets_of_base64 n text ≡ Some (decoded_bytes_of standard text)) × (length (decoded_bytes_of standard text) ≡ n)
unfolding decoded_of
octets_of_base64-read text n ok =
    let is = answer_is text n in
    let found = fits is.lone is.other _ (decoded_bytes_of standard text) n (sym is.into ∙ ok) in
    (rw is.whole found.0, found.1)

pub octets_of_base64-refused : (text : List ℕ) (n : ℕ) → IsBytes text → (decode_slice_of standard text n ≡ Ok n → ⊥)
    → octets_of_base64 n text ≡ None
unfolding decoded_of
octets_of_base64-refused text n small bad =
    let is = answer_is text n in
    let none = fits_not is.lone is.other _ (decoded_bytes_of standard text) n (λ h. bad (is.into ∙ h))
    (λ ok size. room_for text _ n small (is.whole ∙ ok) size) in
    rw is.whole none
