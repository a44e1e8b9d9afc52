-- The head of a request as a text, and its parts (RFC 9112, sections 2, 3 and 5).
use Rattle.std.specs.Prelude.{◌≡◌, ℕ, suc, ◌≤◌, List, [], ◌∷◌, length, map, filter, codes, Option, None, Some, nat_eq, if◌then◌else◌, Bool}
use Rattle.std.specs.List.{starts_with}
use Rattle.std.specs.Option.{option_map}
use Rattle.std.specs.Str.{str_eq_ignore_ascii_case}
use Rattle.httparse.specs.Grammar.{RequestHead, ReadsRequest}
use Rattle.httparse.specs.Spans.{name_and_value}
use Rattle.http_uri.specs.Uri.{Spells, uri_path}
use Rattle.http_uri.specs.declared.uri.Uri.{Uri}

-- how many bytes a head has at most, its end included
abbrev pub head_limit : ℕ
head_limit = 16384

-- how many fields a head has at most
abbrev pub field_limit : ℕ
field_limit = 64

-- CR LF CR LF
abbrev pub empty_line : List ℕ
empty_line = 13 ∷ 10 ∷ 13 ∷ 10 ∷ []

-- the length of the shortest front that ends with CR LF CR LF
unfoldable pub head_end : List ℕ → Option ℕ
head_end [] = None
head_end (b ∷ bytes) =
    if starts_with nat_eq (b ∷ bytes) empty_line then Some 4 else option_map suc (head_end bytes)

-- the text ends with CR LF CR LF, and has none before
abbrev pub EndsOnce : List ℕ → Type 0
EndsOnce text = head_end text ≡ Some (length text)

-- the parts of a head: each field is its name and its value without the white space around it
pub record HeadParts : Type 0 where
  pub method : List ℕ
  pub path : List ℕ
  pub minor : ℕ
  pub fields : List (List ℕ × List ℕ)

-- the field has this name, in any letter case
abbrev pub is_named : List ℕ → List ℕ × List ℕ → Bool
is_named name field = str_eq_ignore_ascii_case field.0 name

-- the values of the fields with this name, in any letter case, in their order
unfoldable pub values_of : List (List ℕ × List ℕ) → List ℕ → List (List ℕ)
values_of fields name = map (λ field. field.1) (filter (is_named name) fields)

-- HTTP/1.1 has exactly one Host field, and HTTP/1.0 at most one
pub record IsHostCount (minor count : ℕ) : Type 0 where
  pub most : count ≤ 1
  pub wanted : minor ≡ 1 → count ≡ 1

-- the text is a request's head that has these parts
pub record IsHeadText (text : List ℕ) (parts : HeadParts) : Type 0 where
  pub ends : EndsOnce text
  pub small : length text ≤ head_limit
  pub head : RequestHead
  pub reads : ReadsRequest text head []
  pub room : length head.fields ≤ field_limit
  pub uri : Uri
  pub spelled : Spells head.target uri
  pub method_is : parts.method ≡ head.method
  pub path_is : parts.path ≡ uri_path uri
  pub minor_is : parts.minor ≡ head.minor
  pub fields_are : parts.fields ≡ map name_and_value head.fields
  pub hosts : IsHostCount parts.minor (length (values_of parts.fields (codes "Host")))

-- the text is a request's head but perhaps for its target
pub record IsHeadButForTarget (text : List ℕ) (head : RequestHead) : Type 0 where
  pub ends : EndsOnce text
  pub small : length text ≤ head_limit
  pub reads : ReadsRequest text head []
  pub room : length head.fields ≤ field_limit
  pub hosts : IsHostCount head.minor (length (values_of (map name_and_value head.fields) (codes "Host")))

-- the text is some head's, but perhaps for its target
abbrev pub IsHeadOfAnyTarget : List ℕ → Type 0
IsHeadOfAnyTarget text = (head : RequestHead) × IsHeadButForTarget text head
