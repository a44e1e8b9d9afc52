-- Decimal numbers, tokens, white space and comma lists, as functions of the whole text.
use Rattle.std.specs.Prelude.{ℕ, ◌+◌, ◌-◌, ◌==◌, ◌&&◌, ◌||◌, Bool, false, nat_le, nat_lt, List, [], ◌∷◌, Option, Some, None, length, take, drop, map, filter, codes, if◌then◌else◌}
use Rattle.std.specs.List.{prefix_len, suffix_len, slice_split, list_all, list_any}
use Rattle.std.specs.Char.{is_ascii_digit, is_ascii_alphanumeric}
use Rattle.std.specs.Str.Parse.{digits_value}
use Rattle.dep_octets.specs.declared.numbers.Number.{Number}
use Rattle.dep_octets.specs.declared.numbers.Number.TheVariants.{NotDigits, Above, Value}

-- one or more digits, and nothing else
abbrev pub is_digits : List ℕ → Bool
is_digits text = nat_lt 0 (length text) && list_all is_ascii_digit text

-- the number that the digits write, up to a greatest one
abbrev pub decimal_number : List ℕ → ℕ → Number
decimal_number text most =
    if is_digits text then
    (if nat_le (digits_value 10 text) most then Value (digits_value 10 text) else Above)
    else NotDigits

-- the number, if there is one
abbrev pub value_of : Number → Option ℕ
value_of (Value n) = Some n
value_of _ = None

abbrev pub begins_with_zero : List ℕ → Bool
begins_with_zero [] = false
begins_with_zero (b ∷ text) = b == 48

-- a number from 1 up to a greatest one that is written without a leading zero
abbrev pub positive_number : (text : List ℕ) → (most : ℕ) → Option ℕ
positive_number text most =
    if begins_with_zero text then None else value_of (decimal_number text most)

-- n, unless it is past the greatest
abbrev pub capped : ℕ → ℕ → Option ℕ
capped most n = if nat_le n most then Some n else None

-- what a token is made of
abbrev pub is_token_octet : ℕ → Bool
is_token_octet b = is_ascii_alphanumeric b || list_any (λ c. b == c) (codes "!#$%&'*+-.^_`|~")

-- a token (RFC 9110, section 5.6.2), which has one octet at least
abbrev pub is_token : List ℕ → Bool
is_token text = nat_lt 0 (length text) && list_all is_token_octet text

-- a space or a tab
abbrev pub is_blank : ℕ → Bool
is_blank b = b == 32 || b == 9

-- the text without the blanks at its front
abbrev pub trim_start : List ℕ → List ℕ
trim_start text = drop (prefix_len is_blank text) text

-- the text without the blanks at its end
abbrev pub trim_end : List ℕ → List ℕ
trim_end text = take (length text - suffix_len is_blank text) text

-- the text without the blanks at its front and at its end
unfoldable pub trimmed : List ℕ → List ℕ
trimmed text = trim_end (trim_start text)

-- the texts between the commas
abbrev pub parts : List ℕ → List (List ℕ)
parts text = slice_split (λ b. b == 44) text

-- the parts without the blanks at their ends, those passed over that are empty then
abbrev pub members_of : List (List ℕ) → List (List ℕ)
members_of ps = filter (λ m. nat_lt 0 (length m)) (map trimmed ps)

-- the members of a comma list
abbrev pub members : List ℕ → List (List ℕ)
members text = members_of (parts text)

-- the parts of what is left of a text, if anything is
abbrev pub parts_left : Option (List ℕ) → List (List ℕ)
parts_left None = []
parts_left (Some text) = parts text

-- how many octets are left, and one more for the text itself
abbrev pub octets_left : Option (List ℕ) → ℕ
octets_left None = 0
octets_left (Some text) = length text + 1
