-- What a configuration gives for its fields (RFC 8259).
use Rattle.std.specs.Prelude.{◌≡◌, ◌⊎◌, ℕ, nat_le, Bool, false, IsSomeAnd, List, [], ◌∷◌, Option, Some, None, option_map, if◌then◌else◌}
use Rattle.std.specs.Option.{option_map_or}
use Rattle.std.specs.Net.Grammar.{IsIpText}
use Rattle.std.specs.declared.net.ip_addr.IpAddr.{IpAddr}
use Rattle.std.specs.declared.net.ip_addr.IpAddr.TheVariants.{V4}
use Rattle.json.specs.Json.{Json}
use Rattle.json.specs.Find.{get, as_bool, as_number, as_str}
use Rattle.dep_octets.specs.Octets.{decimal_number}
use Rattle.dep_octets.specs.declared.numbers.Number.{Number}
use Rattle.dep_octets.specs.declared.numbers.Number.TheVariants.{NotDigits, Above, Value}
use Rattle.dep_types.specs.Maps.{◌>>=◌, optional}
use Rattle.dep_configuration.specs.Fields.{configuration_key, bounds_of}
use Rattle.dep_configuration.specs.declared.field.ConfigurationField.{ConfigurationField}
use Rattle.dep_configuration.specs.declared.field.ConfigurationField.TheVariants as Name
use Rattle.dep_configuration.specs.declared.field.Bounds.{Bounds}

-- what a field is given as
abbrev pub given_field : ConfigurationField → Json → Option Json
given_field field j = get (configuration_key field) j

-- the text that it is given as
abbrev pub given_text : ConfigurationField → Json → Option (List ℕ)
given_text field j = given_field field j >>= as_str

-- a text that isn't empty
abbrev pub nonempty : List ℕ → Option (List ℕ)
nonempty [] = None
nonempty (b ∷ text) = Some (b ∷ text)

-- a number that is large enough
abbrev pub at_least : ℕ → Number → Option ℕ
at_least least (Value n) = if nat_le least n then Some n else None
at_least least NotDigits = None
at_least least Above = None

-- the number that a value is, where it is one within these bounds
unfoldable pub number_within : Bounds → Json → Option ℕ
number_within b v = as_number v >>= (λ text. at_least b.least (decimal_number text b.most))

-- the truth value and the number that a field is given as
abbrev pub given_flag : ConfigurationField → Json → Option Bool
given_flag field j = given_field field j >>= as_bool

abbrev pub given_number : ConfigurationField → Json → Option ℕ
given_number field j = given_field field j >>= number_within (bounds_of field)

-- a field with a default
abbrev pub text_or_default : ConfigurationField → List ℕ → Json → Option (List ℕ)
text_or_default field default j = option_map_or as_str (given_field field j) (Some default)

abbrev pub flag_of : ConfigurationField → Json → Option Bool
flag_of field j = option_map_or as_bool (given_field field j) (Some false)

abbrev pub number_or_default : ConfigurationField → ℕ → Json → Option ℕ
number_or_default field default j =
    option_map_or (number_within (bounds_of field)) (given_field field j) (Some default)

-- a number without a default
abbrev pub optional_number_of : ConfigurationField → Json → Option (Option ℕ)
optional_number_of field j = optional (number_within (bounds_of field)) (given_field field j)

-- a field that has to be given, and not to be empty
abbrev pub filled_text_of : ConfigurationField → Json → Option (List ℕ)
filled_text_of field j = given_text field j >>= nonempty

-- the address that is given, or 127.0.0.1
abbrev pub IsAddressOf : Json → IpAddr → Type 0
IsAddressOf j a =
    ((given_field Name.Address j ≡ None) × (a ≡ V4 record { octets = 127 ∷ 0 ∷ 0 ∷ 1 ∷ [] }))
    ⊎ IsSomeAnd (given_text Name.Address j) (λ text. IsIpText text a)
