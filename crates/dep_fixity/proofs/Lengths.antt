-- A digest that is read has its length.
use Rattle.std.proofs.Common.{◌≡◌, ◌∙◌, ◌*◌, ◌==◌, ℕ, List, [], ◌∷◌, Bool, true, false, length, map, Option, Some, None, Result, Ok, Err, refl, sym, ap, subst, arith, inl, inr, ◌⊎◌, cond, codes, IfSome, is_some}
use Rattle.std.proofs.lemmas.Bool.Decides.{nat_tests}
use Rattle.std.specs.List.{list_all, filter_map}
use Rattle.std.specs.Option.{option_or}
use Rattle.std.specs.Result.{result_ok}
use Rattle.base64.specs.Engines.{standard}
use Rattle.base64.specs.GeneralPurpose.{decoded_of}
use Rattle.hex.specs.Hex.{decode_sized}
use Rattle.hex.specs.declared.error.FromHexError.{FromHexError}
use Rattle.hex.proofs.HexLemmas.{decode_sized-ok, decode_sized-twice, decode_of-ok}
use Rattle.dep_octets.specs.Octets.{members}
use Rattle.dep_fixity.specs.Fixity.{digest_field, digest_under, is_just, just_so_many, name_and_value, octets_of, octets_of_base64, octets_of_hex, one_digest, paired, value_under}
use Rattle.dep_fixity.specs.declared.field.DigestList.{DigestList}

chosen : {A : Type 0} (b : Bool) (x y z : A) → cond b x y ≡ z → ((b ≡ true) × (x ≡ z)) ⊎ ((b ≡ false) × (y ≡ z))
chosen true x y z h = inl (refl, h)
chosen false x y z h = inr (refl, h)

half : (a n m : ℕ) → a ≡ 2 * n → a ≡ 2 * m → m ≡ n
half a n m e f = omega (arith, e, f)

hex-long : (n : ℕ) (text digest : List ℕ) (r : Result (List ℕ) FromHexError) → decode_sized text n ≡ r → result_ok r ≡ Some digest → length digest ≡ n
hex-long n text digest (Err e) is h = cc h
hex-long n text digest (Ok bytes) is h =
    let same : bytes ≡ digest = cc h in
    let double = decode_sized-ok text n bytes is in
    let whole = decode_of-ok text bytes (sym (decode_sized-twice text n double) ∙ is) in
    subst (λ (d : List ℕ). length d ≡ n) same (half (length text) n (length bytes) double whole.2)

equal : (a b : ℕ) → (a == b) ≡ true → a ≡ b
equal a b h = grind (arith, nat_tests)

so_many-long : (n : ℕ) (digest : List ℕ) (o : Option (List ℕ)) → just_so_many n o ≡ Some digest → length digest ≡ n
so_many-long n digest None h = cc h
so_many-long n digest (Some bytes) h = elim (chosen (length bytes == n) _ _ (Some digest) h) [
  | inl is ↦ let same : bytes ≡ digest = cc (is.1) in subst (λ (d : List ℕ). length d ≡ n) same (equal _ n is.0)
  | inr not_so ↦ cc (not_so.1)
]

either-long : (n : ℕ) (text digest : List ℕ) (o : Option (List ℕ)) → octets_of_hex n text ≡ o → option_or o (octets_of_base64 n text) ≡ Some digest → length digest ≡ n
either-long n text digest None is h = so_many-long n digest (decoded_of standard text) h
either-long n text digest (Some bytes) is h = hex-long n text digest (decode_sized text n) refl (is ∙ h)

pub octets-long : (n : ℕ) (text digest : List ℕ) → octets_of n text ≡ Some digest → length digest ≡ n
unfolding octets_of
octets-long n text digest h = either-long n text digest (octets_of_hex n text) refl h

first-long : (n : ℕ) (text digest : List ℕ) (more : List (Option (List ℕ))) (o : Option (List ℕ)) → octets_of n text ≡ o → one_digest (o ∷ more) ≡ Some (Some digest) → length digest ≡ n
first-long n text digest more None is h = cc h
first-long n text digest more (Some bytes) is h = elim (chosen (list_all (is_just bytes) more) _ _ (Some (Some digest)) h) [
  | inl all ↦ let same : bytes ≡ digest = cc (all.1) in octets-long n text digest (is ∙ ap Some same)
  | inr none ↦ cc (none.1)
]

one-long : (n : ℕ) (texts : List (List ℕ)) (digest : List ℕ) → one_digest (map (octets_of n) texts) ≡ Some (Some digest) → length digest ≡ n
one-long n [] digest h = cc h
one-long n (text ∷ texts) digest h = first-long n text digest (map (octets_of n) texts) (octets_of n text) refl h

abbrev pub IsLong : DigestList → Type 0
IsLong promised = IfSome promised.sha256 (λ digest. length digest ≡ 32)
    × IfSome promised.sha512 (λ digest. length digest ≡ 64)

under-long : (n : ℕ) (name : List ℕ) (list : List (List ℕ)) (promise : Option (List ℕ)) → digest_under n name list ≡ Some promise
    → IfSome promise (λ digest. length digest ≡ n)
under-long n name list None h = tt
under-long n name list (Some digest) h = elim (chosen (list_all (λ member. is_some (name_and_value member)) list) _ _ (Some (Some digest)) h) [
  | inl all ↦ one-long n (filter_map (value_under name) list) digest all.1
  | inr none ↦ cc (none.1)
]

both : (short long : Option (Option (List ℕ))) (promised : DigestList) → paired short long ≡ Some promised
    → (short ≡ Some promised.sha256) × (long ≡ Some promised.sha512)
both None long promised h = cc h
both (Some a) None promised h = cc h
both (Some a) (Some b) promised h =
    let same : record { sha256 = a; sha512 = b } ≡ promised = cc h in
    (ap (λ (list : DigestList). Some list.sha256) same, ap (λ (list : DigestList). Some list.sha512) same)

pub field-long : (text : List ℕ) (promised : DigestList) → digest_field text ≡ Some promised → IsLong promised
field-long text promised h =
    let list = members text in
    let read = both (digest_under 32 (codes "SHA-256") list) (digest_under 64 (codes "SHA-512") list) promised h in
    (under-long 32 (codes "SHA-256") list promised.sha256 read.0, under-long 64 (codes "SHA-512") list promised.sha512 read.1)
