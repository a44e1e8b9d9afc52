-- What a head asks of the connection (RFC 9110, sections 7.6.1, 9.3.2 and 10.1.1; RFC 9112, section 9.3).
use Rattle.std.specs.Prelude.{ℕ, ◌==◌, ◌&&◌, ◌||◌, not, nat_lt, Bool, true, false, bytes_eq, List, [], ◌∷◌, codes}
use Rattle.std.specs.List.{list_any}
use Rattle.std.specs.Str.{str_eq_ignore_ascii_case}
use Rattle.dep_octets.specs.Octets.{members}
use Rattle.dep_head.specs.Head.{HeadParts, values_of}
use Rattle.dep_body.specs.declared.frame.Framing.{Framing}
use Rattle.dep_body.specs.declared.frame.Framing.TheVariants.{Empty, Length, Chunked}

-- the reply to a HEAD has no body
abbrev pub is_head_only : HeadParts → Bool
is_head_only head = bytes_eq head.method (codes "HEAD")

-- the word that closes a connection, in any letter case
abbrev pub is_close : List ℕ → Bool
is_close member = str_eq_ignore_ascii_case member (codes "close")

-- it is a member of a comma list
abbrev pub names_close : List ℕ → Bool
names_close value = list_any is_close (members value)

-- it is a member of one of the Connection fields
abbrev pub asks_to_close : HeadParts → Bool
asks_to_close head = list_any names_close (values_of head.fields (codes "Connection"))

-- the connection is closed after the reply: HTTP/1.0 closes it, and so does a request that asks for it
unfoldable pub closes : HeadParts → Bool
closes head = head.minor == 0 || asks_to_close head

-- one Expect field of `100-continue`, in any letter case, in HTTP/1.1
abbrev pub expects_by : (minor : ℕ) → List (List ℕ) → Bool
expects_by minor [] = false
expects_by minor (value ∷ []) = minor == 1 && str_eq_ignore_ascii_case value (codes "100-continue")
expects_by minor (value ∷ other ∷ more) = false

-- there is a body to come
abbrev pub has_body : Framing → Bool
has_body Empty = false
has_body (Length n) = nat_lt 0 n
has_body Chunked = true

-- the client waits for `100 Continue` before it sends the body
unfoldable pub awaits_continue : HeadParts → Framing → Bool
awaits_continue head framing =
    expects_by head.minor (values_of head.fields (codes "Expect")) && has_body framing

-- and it wasn't sent yet
abbrev pub is_due : (continued : Bool) → HeadParts → Framing → Bool
is_due continued head framing = not continued && awaits_continue head framing
