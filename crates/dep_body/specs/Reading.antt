-- How the reader's state follows from the bytes of an unfinished line.
use Rattle.std.specs.Prelude.{◌≡◌, ℕ, ◌+◌, ◌*◌, ◌<◌, ◌==◌, Bool, true, false, List, [], length, Option, Some, None, option_and_then, if◌then◌else◌}
use Rattle.std.specs.List.{fold}
use Rattle.std.specs.Char.{digit_value}
use Rattle.dep_octets.specs.Octets.{capped, is_token_octet}
use Rattle.dep_body.specs.Lines.{is_hex_octet, begins_extension, is_extension_octet, is_trailer_octet, is_trailer_line}
use Rattle.dep_body.specs.declared.size.SizeReading.{SizeReading}
use Rattle.dep_body.specs.declared.size.SizeReading.TheVariants.{Start, Digits, Extension, Malformed}
use Rattle.dep_body.specs.declared.trailers.TrailerReading as T
use Rattle.dep_body.specs.declared.trailers.TrailerReading.TheVariants as V

-- one digit more, where the number stays within the greatest
abbrev pub with_digit : ℕ → Option ℕ → ℕ → Option ℕ
with_digit most value digit = option_and_then (λ n. capped most (n * 16 + digit)) value

-- the reading of a chunk line after one byte more
abbrev pub size_after : ℕ → SizeReading → ℕ → SizeReading
size_after most Start b =
    if is_hex_octet b then Digits (with_digit most (Some 0) (digit_value b)) else Malformed
size_after most (Digits value) b =
    if is_hex_octet b then Digits (with_digit most value (digit_value b))
    else (if begins_extension b then Extension value else Malformed)
size_after most (Extension value) b = if is_extension_octet b then Extension value else Malformed
size_after most Malformed b = Malformed

-- the reading of a chunk line
abbrev pub size_reading : ℕ → List ℕ → SizeReading
size_reading most line = fold (size_after most) Start line

-- the reading of a chunk line without a CR at its end, after one byte more that doesn't end it
abbrev pub next_size : ℕ → SizeReading → Bool → ℕ → SizeReading
next_size most reading after_cr b =
    let all = if after_cr then size_after most reading 13 else reading in
    if b == 13 then all else size_after most all b

-- the reading of a trailer line after one byte more
abbrev pub trailer_after : T.TrailerReading → ℕ → T.TrailerReading
trailer_after V.Empty b = if is_token_octet b then V.Name else V.Broken
trailer_after V.Name b = if is_token_octet b then V.Name else (if b == 58 then V.Value else V.Broken)
trailer_after V.Value b = if is_trailer_octet b then V.Value else V.Broken
trailer_after V.Broken b = V.Broken

-- the reading of a trailer line
abbrev pub trailer_reading : List ℕ → T.TrailerReading
trailer_reading line = fold trailer_after V.Empty line

-- the reading of a trailer line without a CR at its end, after one byte more that doesn't end it
abbrev pub next_trailer : T.TrailerReading → Bool → ℕ → T.TrailerReading
next_trailer reading after_cr b =
    let all = if after_cr then trailer_after reading 13 else reading in
    if b == 13 then all else trailer_after all b

-- what a reading says of the line's value
abbrev pub SaysSize : ℕ → SizeReading → Option ℕ → Type 0
SaysSize most Start size = size ≡ None
SaysSize most (Digits value) size = (n : ℕ) × (size ≡ Some n) × (value ≡ capped most n)
SaysSize most (Extension value) size = (n : ℕ) × (size ≡ Some n) × (value ≡ capped most n)
SaysSize most Malformed size = size ≡ None

-- what a reading says of a trailer line
abbrev pub ReportsTrailer : T.TrailerReading → List ℕ → Type 0
ReportsTrailer V.Empty line = (line ≡ []) × (is_trailer_line line ≡ false)
ReportsTrailer V.Name line = (0 < length line) × (is_trailer_line line ≡ false)
ReportsTrailer V.Value line = (0 < length line) × (is_trailer_line line ≡ true)
ReportsTrailer V.Broken line = (0 < length line) × (is_trailer_line line ≡ false)
