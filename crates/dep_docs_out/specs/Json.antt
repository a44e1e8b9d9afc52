-- JSON data by plain lists, and the tokens that a writer gives it as.
use Rattle.std.specs.Prelude.{◌≡◌, ℕ, Bool, false, List, [], ◌∷◌, ◌++◌, flat_map, map, refl}
use Rattle.std.specs.Coded.{Coded, code_by, coded×, coded_bool}
use Rattle.json.specs.Token.{Token, tokens_code}
use Rattle.json.specs.Tree.{json_tokens}
use Rattle.serde_json.specs.Data.{Data, number, unsigned, string, array, object, Items, no_items, item, Members, no_members, member}
use Rattle.serde_json.specs.Written.{outline}

abbrev pub text : List ℕ → Data
text s = string s

abbrev pub whole_number : ℕ → Data
whole_number n = number (unsigned n)

abbrev pub items : List Data → Items
items [] = no_items
items (d ∷ ds) = item d (items ds)

abbrev pub list : List Data → Data
list ds = array (items ds)

-- lists of texts, and of whole numbers
abbrev pub text_list : List (List ℕ) → Data
text_list ss = list (map text ss)

abbrev pub number_list : List ℕ → Data
number_list ns = list (map whole_number ns)

-- a list of one text
abbrev pub only : List ℕ → Data
only s = list (text s ∷ [])

abbrev pub members_from : List (List ℕ × Data) → Members
members_from [] = no_members
members_from (m ∷ ms) = member m.0 m.1 (members_from ms)

-- an object with these members, which stand in the order of their names' bytes
abbrev pub sorted_object : List (List ℕ × Data) → Data
sorted_object ms = object (members_from ms)

-- the tokens of a value
abbrev pub value_tokens : Data → List Token
value_tokens d = json_tokens (outline d)

-- the tokens of members, without the braces about them
abbrev pub member_tokens : List (List ℕ × Data) → List Token
member_tokens [] = []
member_tokens (m ∷ ms) = Token.key m.0 ∷ (value_tokens m.1 ++ member_tokens ms)

-- the tokens of items, without the brackets about them
abbrev pub item_tokens : List Data → List Token
item_tokens ds = flat_map value_tokens ds

-- a document that is being written: whether a part could not be written, and the tokens that were
pub record Draft : Type 0 where
  pub has_failed : Bool
  pub tokens : List Token

-- it is stored as the pair of its fields
abbrev pub draft_code : Coded Draft
draft_code = code_by (Bool × List Token) (coded× coded_bool tokens_code)
    (λ d. (d.has_failed, d.tokens)) (λ p. record { has_failed = p.0; tokens = p.1 }) (λ _. refl)

-- one in which nothing stands
abbrev pub nothing : Draft
nothing = record { has_failed = false; tokens = [] }

-- where nothing has failed, these tokens were written behind the old ones
pub record AddsTokens (old new : Draft) (added : List Token) : Type 0 where
  pub is : new.has_failed ≡ false
      → (old.has_failed ≡ false) × (new.tokens ≡ old.tokens ++ added)

-- these members of an object were
pub record AddsMembers (old new : Draft) (ms : List (List ℕ × Data)) : Type 0 where
  pub is : AddsTokens old new (member_tokens ms)

-- this member of an object was
abbrev pub AddsMember : (old new : Draft) (name : List ℕ) → Data → Type 0
AddsMember old new name d = AddsMembers old new ((name, d) ∷ [])

-- these items of a list were
pub record AddsItems (old new : Draft) (ds : List Data) : Type 0 where
  pub is : AddsTokens old new (item_tokens ds)
