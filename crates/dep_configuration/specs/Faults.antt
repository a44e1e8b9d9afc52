-- Why the fields of a configuration are refused, and which fault is returned of several.
use Rattle.std.specs.Prelude.{◌≡◌, ◌⊎◌, Bool, true, false, IsTrue, IsSome, IsSomeAnd, MatchOption, List, ◌∷◌, ◌++◌, All, Option, None}
use Rattle.std.specs.Net.Grammar.{IsIpText}
use Rattle.std.specs.declared.net.ip_addr.IpAddr.{IpAddr}
use Rattle.json.specs.Json.{Json}
use Rattle.json.specs.Find.{as_bool, as_object, as_str}
use Rattle.json.specs.Strict.{keys}
use Rattle.json.specs.declared.error.Error.{Error}
use Rattle.json.specs.declared.error.Error.TheVariants.{OutOfMemory}
use Rattle.dep_types.specs.Base.{IsBase}
use Rattle.dep_types.specs.Maps.{◌>>=◌}
use Rattle.dep_configuration.specs.Fields.{wanted_of}
use Rattle.dep_configuration.specs.Names.{GivesFields, IsFaultOfNames}
use Rattle.dep_configuration.specs.Readings.{nonempty, given_field, given_text, number_within}
use Rattle.dep_configuration.specs.declared.field.TheConstants.{FIELDS}
use Rattle.dep_configuration.specs.declared.field.ConfigurationField.{ConfigurationField}
use Rattle.dep_configuration.specs.declared.field.ConfigurationField.TheVariants as Name
use Rattle.dep_configuration.specs.declared.field.Wanted.{Wanted}
use Rattle.dep_configuration.specs.declared.field.Wanted.TheVariants.{AnyText, FilledText, Flag, Address, Base, WholeNumber}
use Rattle.dep_configuration.specs.declared.fault.ConfigurationFault.{ConfigurationFault}
use Rattle.dep_configuration.specs.declared.fault.ConfigurationFault.TheVariants.{Malformed, NotObject, Unknown, Repeated, Missing, Invalid, Memory}

-- these fields have to be given
abbrev pub is_required : Wanted → Bool
is_required FilledText = true
is_required Base = true
is_required _ = false

-- a value is what is wanted; of a base, a text
abbrev pub Suits : Wanted → Json → Type 0
Suits AnyText v = IsSome (as_str v)
Suits FilledText v = IsSome (as_str v >>= nonempty)
Suits Flag v = IsSome (as_bool v)
Suits Address v = (a : IpAddr) × IsSomeAnd (as_str v) (λ text. IsIpText text a)
Suits Base v = IsSome (as_str v)
Suits (WholeNumber b) v = IsSome (number_within b v)

-- a field is given as what is wanted, or isn't given and need not be
abbrev pub IsReadable : ConfigurationField → Json → Type 0
IsReadable field j =
    MatchOption (given_field field j) (is_required (wanted_of field) ≡ false) (Suits (wanted_of field))

abbrev pub AreReadable : Json → Type 0
AreReadable j = (field : ConfigurationField) → IsReadable field j

-- all fields are readable, and this one is one of which that is wanted
pub record GivesField (field : ConfigurationField) (wants : Wanted) (j : Json) : Type 0 where
  pub readable : AreReadable j
  pub wanted : wanted_of field ≡ wants

-- a fault is this field's: it isn't given and has to be, or is given as something else
abbrev pub IsFaultOf : ConfigurationField → ConfigurationFault → Json → Type 0
IsFaultOf field Malformed j = ⊥
IsFaultOf field NotObject j = ⊥
IsFaultOf field (Unknown name) j = ⊥
IsFaultOf field (Repeated name) j = ⊥
IsFaultOf field (Missing reported) j =
    (reported ≡ field) × (given_field field j ≡ None) × IsTrue (is_required (wanted_of field))
IsFaultOf field (Invalid reported) j =
    (reported ≡ field) × IsSomeAnd (given_field field j) (λ v. ¬ Suits (wanted_of field) v)
IsFaultOf field Memory j = ⊥

-- a fault is that of the first field which can't be read, as the example has them
pub record IsFirstOfFields (e : ConfigurationFault) (j : Json) : Type 0 where
  pub front : List ConfigurationField
  pub field : ConfigurationField
  pub behind : List ConfigurationField
  pub stands : FIELDS ≡ front ++ field ∷ behind
  pub before : All (λ f. IsReadable f j) front
  pub fault : IsFaultOf field e j

-- whether the text of the base is a base is looked at when all fields can be read
pub record IsFaultOfBase (e : ConfigurationFault) (j : Json) : Type 0 where
  pub reported : e ≡ Invalid Name.Base
  pub readable : AreReadable j
  pub cause : IsSomeAnd (given_text Name.Base j) (λ text. ¬ IsBase text)

-- why a value is refused, unless out of memory: of several faults the first one in this order
abbrev pub IsFirstFault : ConfigurationFault → Json → Type 0
IsFirstFault e j =
    MatchOption (as_object j) (e ≡ NotObject) (λ members. IsFaultOfNames e (keys members))
    ⊎ (GivesFields j × (IsFirstOfFields e j ⊎ IsFaultOfBase e j))

-- why a text is refused, of which this is the value
abbrev pub IsRefusedBy : ConfigurationFault → Option Json → Type 0
IsRefusedBy e document = (e ≡ Memory) ⊎ MatchOption document (e ≡ Malformed) (IsFirstFault e)

-- an error of the text as JSON
abbrev pub fault_of_json : Error → ConfigurationFault
fault_of_json OutOfMemory = Memory
fault_of_json _ = Malformed
