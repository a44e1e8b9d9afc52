-- The tags that If-Match names (RFC 9110, section 13.1.1).
use Rattle.std.specs.Prelude.{ℕ, ◌||◌, Bool, List, [], ◌∷◌, ◌++◌, Option, Some, None, codes, bytes_eq, decimal}
use Rattle.std.specs.List.{join_with_byte, list_any}
use Rattle.dep_octets.specs.Octets.{members}
use Rattle.dep_head.specs.Head.{values_of}
use Rattle.dep_types.specs.Numbers.{quoted_tag}

-- the members of one comma list, where a field is there
abbrev pub members_in : List (List ℕ) → Option (List (List ℕ))
members_in [] = None
members_in (text ∷ more) = Some (members (join_with_byte 44 (text ∷ more)))

-- the members of If-Match
abbrev pub tags_of : List (List ℕ × List ℕ) → List (List ℕ)
tags_of fields = members (join_with_byte 44 (values_of fields (codes "If-Match")))

-- the members of If-Match, where it is there
abbrev pub if_match_of : List (List ℕ × List ℕ) → Option (List (List ℕ))
if_match_of fields = members_in (values_of fields (codes "If-Match"))

-- a text in quotation marks
abbrev pub in_quotation_marks : List ℕ → List ℕ
in_quotation_marks text = 34 ∷ text ++ 34 ∷ []

-- a member that the tag meets: `*`, the tag, or the tag in quotation marks
abbrev pub is_met : ℕ → List ℕ → Bool
is_met tag member =
    bytes_eq member (codes "*") || bytes_eq member (decimal tag) || bytes_eq member (quoted_tag tag)

-- some member of If-Match is met by the tag (RFC 9110, section 13.1.1)
abbrev pub holds : List (List ℕ) → ℕ → Bool
holds list tag = list_any (is_met tag) list
