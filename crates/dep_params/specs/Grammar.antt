-- The grammar of Content-Disposition (RFC 6266, section 4.1).
use Rattle.std.specs.Prelude.{◌≡◌, ℕ, ◌==◌, ◌&&◌, ◌||◌, not, nat_le, nat_lt, Bool, true, List, [], ◌∷◌, ◌++◌, length, Option, Some, None, option_map, find, map, bytes_eq}
use Rattle.std.specs.List.{list_all, flat_map, filter_map, AllByRecursion, IsDistinct}
use Rattle.std.specs.Str.{str_to_ascii_lowercase, str_eq_ignore_ascii_case}
use Rattle.dep_octets.specs.Octets.{is_token, is_blank}

-- a parameter: its name in lower case, and its value
pub record NamedValue : Type 0 where
  pub name : List ℕ
  pub value : List ℕ

-- what a disposition says: its type in lower case, and its parameters in their order
pub record DispositionValue : Type 0 where
  pub form : List ℕ
  pub parameters : List NamedValue

-- the controls of ASCII
abbrev pub is_control : ℕ → Bool
is_control b = nat_lt b 32 || b == 127

-- an octet of a quoted string, which represents itself, or behind a backslash
pub data QuotedOctet : Type 0 where
  Plain : ℕ → QuotedOctet
  Escaped : ℕ → QuotedOctet

abbrev pub is_quoted_octet : QuotedOctet → Bool
is_quoted_octet (Plain b) = (not (is_control b) || b == 9) && not (b == 34) && not (b == 92)
is_quoted_octet (Escaped b) = not (is_control b)

abbrev pub quoted_octet_text : QuotedOctet → List ℕ
quoted_octet_text (Plain b) = b ∷ []
quoted_octet_text (Escaped b) = 92 ∷ b ∷ []

abbrev pub octet_of : QuotedOctet → ℕ
octet_of (Plain b) = b
octet_of (Escaped b) = b

-- what a bare value is made of
abbrev pub is_bare_octet : ℕ → Bool
is_bare_octet b = nat_le 33 b && nat_le b 126 && not (b == 59) && not (b == 34)

-- a value as it is written
pub data Value : Type 0 where
  Bare : List ℕ → Value
  Quoted : List QuotedOctet → Value

abbrev pub is_value : Value → Bool
is_value (Bare text) = nat_lt 0 (length text) && list_all is_bare_octet text
is_value (Quoted between) = list_all is_quoted_octet between

abbrev pub value_text : Value → List ℕ
value_text (Bare text) = text
value_text (Quoted between) = 34 ∷ flat_map quoted_octet_text between ++ 34 ∷ []

abbrev pub value_octets : Value → List ℕ
value_octets (Bare text) = text
value_octets (Quoted between) = map octet_of between

-- a semicolon with the blanks about it, and behind it a parameter or nothing
pub data ParameterSlot : Type 0 where
  Empty : (before after : List ℕ) → ParameterSlot
  Holds : (before after name : List ℕ) → Value → ParameterSlot

abbrev pub are_blanks : List ℕ → Bool
are_blanks text = list_all is_blank text

abbrev pub IsSlot : ParameterSlot → Type 0
IsSlot (Empty before after) = (are_blanks before ≡ true) × (are_blanks after ≡ true)
IsSlot (Holds before after name value) =
    (are_blanks before ≡ true) × (are_blanks after ≡ true) × (is_token name ≡ true)
    × (is_value value ≡ true)

abbrev pub slot_text : ParameterSlot → List ℕ
slot_text (Empty before after) = before ++ 59 ∷ after
slot_text (Holds before after name value) = before ++ 59 ∷ after ++ name ++ 61 ∷ value_text value

abbrev pub slot_parameter : ParameterSlot → Option NamedValue
slot_parameter (Empty before after) = None
slot_parameter (Holds before after name value) =
    Some (record { name = str_to_ascii_lowercase name; value = value_octets value })

-- the text is slots and then blanks, and holds these parameters
pub record AreParameters (text : List ℕ) (parameters : List NamedValue) : Type 0 where
  pub slots : List ParameterSlot
  pub last : List ℕ
  pub well_formed : AllByRecursion IsSlot slots
  pub blank : are_blanks last ≡ true
  pub written : text ≡ flat_map slot_text slots ++ last
  pub reported : parameters ≡ filter_map slot_parameter slots

-- the text is a type and then parameters, and says this
pub record IsDisposition (text : List ℕ) (reading : DispositionValue) : Type 0 where
  pub form : List ℕ
  pub rest : List ℕ
  pub token : is_token form ≡ true
  pub written : text ≡ form ++ rest
  pub reported : reading.form ≡ str_to_ascii_lowercase form
  pub parameters : AreParameters rest reading.parameters

-- the names of its parameters
abbrev pub names_of : DispositionValue → List (List ℕ)
names_of reading = map (λ p. p.name) reading.parameters

-- no two parameters have one name
abbrev pub HasDistinctNames : DispositionValue → Type 0
HasDistinctNames reading = IsDistinct bytes_eq (names_of reading)

-- the value of the parameter with this name, in any letter case
abbrev pub parameter_value : List ℕ → DispositionValue → Option (List ℕ)
parameter_value name reading =
    option_map (λ p. p.value) (find (λ p. str_eq_ignore_ascii_case p.name name) reading.parameters)
