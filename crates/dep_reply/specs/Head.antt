-- The bytes of a reply's head (RFC 9110, RFC 9112).
use Rattle.std.specs.Prelude.{◌≡◌, ℕ, ◌==◌, Bool, List, [], ◌++◌, Option, Some, None, option_map, codes, decimal, if◌then◌else◌}
use Rattle.dep_types.specs.Numbers.{quoted_tag}
use Rattle.dep_moment.specs.Civil.{http_text}

-- what a head says, with the date in seconds since 1970
pub record ReplyHead : Type 0 where
  pub status : ℕ
  pub date : ℕ
  pub content_type : Option (List ℕ)
  pub content_length : Option ℕ
  pub tag : Option ℕ
  pub location : Option (List ℕ)
  pub allow : Option (List ℕ)
  pub closes : Bool

-- the reason phrase of a status
abbrev pub phrase : ℕ → List ℕ
phrase status =
    if status == 200 then codes "OK"
    else if status == 201 then codes "Created"
    else if status == 204 then codes "No Content"
    else if status == 400 then codes "Bad Request"
    else if status == 404 then codes "Not Found"
    else if status == 405 then codes "Method Not Allowed"
    else if status == 410 then codes "Gone"
    else if status == 412 then codes "Precondition Failed"
    else if status == 413 then codes "Content Too Large"
    else if status == 415 then codes "Unsupported Media Type"
    else if status == 507 then codes "Insufficient Storage"
    else []

-- a line with its end
abbrev pub line : List ℕ → List ℕ
line text = text ++ codes "\r\n"

abbrev pub status_and_phrase : ℕ → List ℕ
status_and_phrase status = codes "HTTP/1.1 " ++ decimal status ++ codes " " ++ phrase status

unfoldable pub status_line : ℕ → List ℕ
status_line status = line (status_and_phrase status)

abbrev pub field_text : (name value : List ℕ) → List ℕ
field_text name value = name ++ codes ": " ++ value

abbrev pub field : (name value : List ℕ) → List ℕ
field name value = line (field_text name value)

-- a field, where there is a value
abbrev pub optional_field : (name : List ℕ) → Option (List ℕ) → List ℕ
optional_field name None = []
optional_field name (Some value) = field name value

-- a field whose value is a number, in decimal digits
abbrev pub number_field : (name : List ℕ) → Option ℕ → List ℕ
number_field name value = optional_field name (option_map decimal value)

-- the field of an entity tag
abbrev pub tag_field : Option ℕ → List ℕ
tag_field tag = optional_field (codes "ETag") (option_map quoted_tag tag)

-- the head's bytes are these, with some behind them
abbrev pub GrowsByBytes : (old new more : List ℕ) → Type 0
GrowsByBytes old new more = new ≡ old ++ more

abbrev pub connection : Bool → Option (List ℕ)
connection closes = if closes then Some (codes "close") else None

-- the head, with its empty line
unfoldable pub head_text : ReplyHead → List ℕ
head_text r =
    status_line r.status
    ++ field (codes "Date") (http_text r.date)
    ++ optional_field (codes "Content-Type") r.content_type
    ++ number_field (codes "Content-Length") r.content_length
    ++ tag_field r.tag
    ++ optional_field (codes "Location") r.location
    ++ optional_field (codes "Allow") r.allow
    ++ optional_field (codes "Connection") (connection r.closes)
    ++ line []
