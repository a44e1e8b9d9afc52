-- Digests that a Digest field promises, and the digests of a message (RFC 3230, RFC 5843).
use Rattle.std.specs.Prelude.{ℕ, ◌+◌, ◌==◌, ◌&&◌, ◌||◌, Bool, true, false, List, [], ◌∷◌, length, take, drop, map, codes, bytes_eq, Option, Some, None, is_some, option_map, option_and_then, if◌then◌else◌}
use Rattle.std.specs.List.{list_all, filter_map, position}
use Rattle.std.specs.Option.{option_or}
use Rattle.std.specs.Result.{result_ok}
use Rattle.std.specs.Str.{str_eq_ignore_ascii_case}
use Rattle.base64.specs.Engines.{standard}
use Rattle.base64.specs.GeneralPurpose.{decoded_of}
use Rattle.hex.specs.Hex.{decode_sized}
use Rattle.sha2.specs.Sha256.{sha256}
use Rattle.sha2.specs.Sha512.{sha512}
use Rattle.sha2.specs.Hashers.{Holds256, Holds512}
use Rattle.dep_octets.specs.Octets.{members}
use Rattle.dep_fixity.specs.declared.hasher.Digests.{Digests}
use Rattle.dep_fixity.specs.declared.hasher.Hasher.{Hasher}
use Rattle.dep_fixity.specs.declared.field.DigestList.{DigestList}

-- the octets, where there are n
abbrev pub just_so_many : ℕ → Option (List ℕ) → Option (List ℕ)
just_so_many n octets = option_and_then (λ list. if length list == n then Some list else None) octets

-- the n octets that a text spells in hexadecimal digits
abbrev pub octets_of_hex : ℕ → List ℕ → Option (List ℕ)
octets_of_hex n text = result_ok (decode_sized text n)

-- the n octets that a text spells in base64
abbrev pub octets_of_base64 : ℕ → List ℕ → Option (List ℕ)
octets_of_base64 n text = just_so_many n (decoded_of standard text)

-- the n octets that a text spells in hexadecimal digits, or else in base64
unfoldable pub octets_of : ℕ → List ℕ → Option (List ℕ)
octets_of n text = option_or (octets_of_hex n text) (octets_of_base64 n text)

-- what stands before the first `=` of a member, and after it
abbrev pub name_and_value : List ℕ → Option (List ℕ × List ℕ)
name_and_value member =
    option_map (λ i. (take i member, drop (i + 1) member)) (position (λ b. b == 61) member)

-- the value of a member with this name, in any letter case
abbrev pub value_under : List ℕ → List ℕ → Option (List ℕ)
value_under name member =
    option_and_then (λ cut. if str_eq_ignore_ascii_case cut.0 name then Some cut.1 else None)
    (name_and_value member)

-- whether the value spells just this digest
abbrev pub is_just : List ℕ → Option (List ℕ) → Bool
is_just digest None = false
is_just digest (Some other) = bytes_eq digest other

-- the digest that all values spell: none without a value, and nothing where one spells none or another
abbrev pub one_digest : List (Option (List ℕ)) → Option (Option (List ℕ))
one_digest [] = Some None
one_digest (None ∷ more) = None
one_digest (Some digest ∷ more) = if list_all (is_just digest) more then Some (Some digest) else None

-- what the values of the members of this name spell, of n octets each
abbrev pub spelled_under : ℕ → List ℕ → List (List ℕ) → List (Option (List ℕ))
spelled_under n name list = map (octets_of n) (filter_map (value_under name) list)

-- the digest that the members of this name spell, of n octets, where each member has an `=`
abbrev pub digest_under : ℕ → List ℕ → List (List ℕ) → Option (Option (List ℕ))
digest_under n name list =
    if list_all (λ member. is_some (name_and_value member)) list
    then one_digest (spelled_under n name list)
    else None

-- the promise of both digests, where both can be read
abbrev pub paired : Option (Option (List ℕ)) → Option (Option (List ℕ)) → Option DigestList
paired short long =
    option_and_then (λ a. option_map (λ b. record { sha256 = a; sha512 = b }) long) short

-- what members promise
abbrev pub promise_of : List (List ℕ) → Option DigestList
promise_of list =
    paired (digest_under 32 (codes "SHA-256") list) (digest_under 64 (codes "SHA-512") list)

-- what the value of a Digest field promises, if it can be read
abbrev pub digest_field : List ℕ → Option DigestList
digest_field text = promise_of (members text)

-- the promise of nothing
abbrev pub none_promised : DigestList
none_promised = record { sha256 = None; sha512 = None }

-- whether some digest is promised
abbrev pub promises : DigestList → Bool
promises promised = is_some promised.sha256 || is_some promised.sha512

-- a digest, unless another one was promised before
abbrev pub joined_digest : Option (List ℕ) → Option (List ℕ) → Option (List ℕ)
joined_digest before None = None
joined_digest None (Some digest) = Some digest
joined_digest (Some other) (Some digest) = if bytes_eq other digest then Some digest else None

-- whether a digest is the one that is promised, if one is
abbrev pub is_kept : Option (List ℕ) → List ℕ → Bool
is_kept None actual = true
is_kept (Some promised) actual = bytes_eq promised actual

-- whether each digest that is promised is the actual one
abbrev pub keeps : DigestList → Digests → Bool
keeps promised actual =
    is_kept promised.sha256 actual.sha256 && is_kept promised.sha512 actual.sha512

-- the digests of a message
abbrev pub digests_of : List ℕ → Digests
digests_of message = record { sha256 = sha256 message; sha512 = sha512 message }

-- the pieces that the hasher was given make this message
pub record HashesMessage (hasher : Hasher) (message : List ℕ) : Type 0 where
  pub sha256 : Holds256 hasher.sha256 message
  pub sha512 : Holds512 hasher.sha512 message
