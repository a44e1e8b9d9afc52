-- The lines of a head, and heads whose texts break none (RFC 9112, section 2.1).
use Rattle.std.specs.Prelude.{ℕ, ◌==◌, ◌&&◌, not, Bool, IsTrue, IfSome, List, [], ◌∷◌, ◌++◌, Option, Some, None, option_map, codes, decimal, if◌then◌else◌}
use Rattle.std.specs.List.{list_all}
use Rattle.dep_moment.specs.Civil.{http_text}
use Rattle.dep_types.specs.Numbers.{quoted_tag}
use Rattle.dep_reply.specs.Head.{ReplyHead, status_and_phrase, field_text, connection}

-- neither CR nor LF
abbrev pub is_unbroken : List ℕ → Bool
is_unbroken text = list_all (λ b. not (b == 13) && not (b == 10)) text

-- the texts that stand in a head as they are break no line
pub record IsUnbroken (r : ReplyHead) : Type 0 where
  pub content_type : IfSome r.content_type (λ text. IsTrue (is_unbroken text))
  pub location : IfSome r.location (λ text. IsTrue (is_unbroken text))
  pub allow : IfSome r.allow (λ text. IsTrue (is_unbroken text))

-- a field's line, where there is a value
abbrev pub field_lines : (name : List ℕ) → Option (List ℕ) → List (List ℕ)
field_lines name None = []
field_lines name (Some value) = field_text name value ∷ []

-- the lines of a head: its status, each field that it has, and the empty line
abbrev pub head_lines : ReplyHead → List (List ℕ)
head_lines r =
    status_and_phrase r.status
    ∷ field_lines (codes "Date") (Some (http_text r.date))
    ++ field_lines (codes "Content-Type") r.content_type
    ++ field_lines (codes "Content-Length") (option_map decimal r.content_length)
    ++ field_lines (codes "ETag") (option_map quoted_tag r.tag)
    ++ field_lines (codes "Location") r.location
    ++ field_lines (codes "Allow") r.allow
    ++ field_lines (codes "Connection") (connection r.closes)
    ++ [] ∷ []

-- the lines of a text as they are read: each ends at the first CR LF; what is behind the last is left out
abbrev pub lines_behind : (front text : List ℕ) → List (List ℕ)
lines_behind front [] = []
lines_behind front (b ∷ []) = []
lines_behind front (b ∷ c ∷ text) =
    if b == 13 && c == 10 then front ∷ lines_behind [] text
    else lines_behind (front ++ b ∷ []) (c ∷ text)

-- its lines
unfoldable pub lines_in : List ℕ → List (List ℕ)
lines_in text = lines_behind [] text
