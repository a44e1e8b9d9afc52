-- Lines that end with CR LF: the lines before chunks, and trailer lines (RFC 9112, section 7.1).
use Rattle.std.specs.Prelude.{◌≡◌, ℕ, ◌+◌, ◌==◌, ◌&&◌, ◌||◌, not, Bool, true, false, nat_lt, nat_le, List, [], ◌∷◌, ◌++◌, length, take, drop, Option, Some, None, if◌then◌else◌}
use Rattle.std.specs.List.{prefix_len, list_all}
use Rattle.std.specs.Char.{is_digit}
use Rattle.std.specs.Str.Parse.{digits_value}
use Rattle.dep_octets.specs.Octets.{is_token_octet}
use Rattle.dep_head.specs.Marks.{mark_end}

abbrev pub crlf : List ℕ
crlf = 13 ∷ 10 ∷ []

-- the length of the shortest front that ends with CR LF
abbrev pub line_end : List ℕ → Option ℕ
line_end = mark_end crlf

-- a line and its end
abbrev pub line_text : List ℕ → List ℕ
line_text line = line ++ crlf

-- CR LF stands first behind the line
abbrev pub IsLine : List ℕ → Type 0
IsLine line = line_end (line_text line) ≡ Some (length line + 2)

abbrev pub is_hex_octet : ℕ → Bool
is_hex_octet b = is_digit b 16

-- a tab, 0x20 to 0x7E, or 0x80 to 0xFF
abbrev pub is_extension_octet : ℕ → Bool
is_extension_octet b = b == 9 || (nat_le 32 b && not (b == 127))

-- a semicolon, a space or a tab
abbrev pub begins_extension : ℕ → Bool
begins_extension b = b == 59 || (b == 32 || b == 9)

-- what may stand behind the digits
abbrev pub is_extension : List ℕ → Bool
is_extension [] = true
is_extension (b ∷ text) = begins_extension b && list_all is_extension_octet text

-- the value of a chunk line: one or more hexadecimal digits, and then an extension or nothing
unfoldable pub line_size : List ℕ → Option ℕ
line_size line =
    let digits = prefix_len is_hex_octet line in
    if nat_lt 0 digits && is_extension (drop digits line)
    then Some (digits_value 16 (take digits line)) else None

-- any byte but NUL, CR and LF
abbrev pub is_trailer_octet : ℕ → Bool
is_trailer_octet b = not (b == 0 || (b == 13 || b == 10))

-- a colon and a value
abbrev pub is_trailer_value : List ℕ → Bool
is_trailer_value [] = false
is_trailer_value (b ∷ value) = b == 58 && list_all is_trailer_octet value

-- a token, a colon and a value
unfoldable pub is_trailer_line : List ℕ → Bool
is_trailer_line line =
    let name = prefix_len is_token_octet line in
    nat_lt 0 name && is_trailer_value (drop name line)
