-- The names that a configuration gives (RFC 8259), and which of them are refused.
use Rattle.std.specs.Prelude.{◌≡◌, ℕ, Bool, false, IsTrue, IsSomeAnd, List, ◌∷◌, ◌++◌, All, Contains, string_bytes, bytes_eq}
use Rattle.std.specs.List.{list_any}
use Rattle.json.specs.Json.{Json}
use Rattle.json.specs.Find.{as_object}
use Rattle.json.specs.Strict.{keys, AreDistinct}
use Rattle.dep_configuration.specs.Fields.{configuration_key}
use Rattle.dep_configuration.specs.declared.field.TheConstants.{FIELDS}
use Rattle.dep_configuration.specs.declared.fault.ConfigurationFault.{ConfigurationFault}
use Rattle.dep_configuration.specs.declared.fault.ConfigurationFault.TheVariants.{Malformed, NotObject, Unknown, Repeated, Missing, Invalid, Memory}

-- there is a field of this name
abbrev pub is_field_name : List ℕ → Bool
is_field_name name = list_any (λ field. bytes_eq (configuration_key field) name) FIELDS

-- each is the name of a field, and none stands twice
pub record AreFieldNames (names : List (List ℕ)) : Type 0 where
  pub known : All (λ name. IsTrue (is_field_name name)) names
  pub once : AreDistinct names

-- a value is an object that gives fields alone, each of them once
abbrev pub GivesFields : Json → Type 0
GivesFields j = IsSomeAnd (as_object j) (λ members. AreFieldNames (keys members))

-- a name stands behind these, which are all in order
pub record StandsBehind (front : List (List ℕ)) (name : List ℕ) (names : List (List ℕ)) : Type 0 where
  pub behind : List (List ℕ)
  pub stands : names ≡ front ++ name ∷ behind
  pub before : AreFieldNames front

-- why names are refused: by the first of them that is no field's, or that stood before
abbrev pub IsFaultOfNames : ConfigurationFault → List (List ℕ) → Type 0
IsFaultOfNames Malformed names = ⊥
IsFaultOfNames NotObject names = ⊥
IsFaultOfNames (Unknown name) names =
    ((front : List (List ℕ)) × StandsBehind front (string_bytes name) names)
    × (is_field_name (string_bytes name) ≡ false)
IsFaultOfNames (Repeated name) names =
    (front : List (List ℕ)) × StandsBehind front (string_bytes name) names
    × Contains front (string_bytes name)
IsFaultOfNames (Missing field) names = ⊥
IsFaultOfNames (Invalid field) names = ⊥
IsFaultOfNames Memory names = ⊥
