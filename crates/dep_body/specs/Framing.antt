-- How a request's body is framed (RFC 9112, section 6).
use Rattle.std.specs.Prelude.{ℕ, ◌==◌, ◌&&◌, List, [], ◌∷◌, codes, Result, Ok, Err, if◌then◌else◌}
use Rattle.std.specs.Str.{str_eq_ignore_ascii_case}
use Rattle.dep_octets.specs.Octets.{decimal_number}
use Rattle.dep_octets.specs.declared.numbers.Number.{Number}
use Rattle.dep_octets.specs.declared.numbers.Number.TheVariants.{NotDigits, Above, Value}
use Rattle.dep_head.specs.Head.{HeadParts, values_of}
use Rattle.dep_body.specs.declared.frame.Framing.{Framing}
use Rattle.dep_body.specs.declared.frame.Framing.TheVariants.{Empty, Length, Chunked}
use Rattle.dep_body.specs.declared.frame.FrameFault.{FrameFault}
use Rattle.dep_body.specs.declared.frame.FrameFault.TheVariants.{Bad, TooLarge}

-- one Content-Length: digits that say a length within the limit, or one above it
abbrev pub length_framing : Number → Result Framing FrameFault
length_framing NotDigits = Err Bad
length_framing Above = Err TooLarge
length_framing (Value n) = Ok (Length n)

-- by the values of the fields Content-Length and Transfer-Encoding, in their order
abbrev pub framing_by : ℕ → ℕ → List (List ℕ) → List (List ℕ) → Result Framing FrameFault
framing_by limit minor [] [] = Ok Empty
framing_by limit minor (value ∷ []) [] = length_framing (decimal_number value limit)
framing_by limit minor [] (coding ∷ []) =
    if minor == 1 && str_eq_ignore_ascii_case coding (codes "chunked") then Ok Chunked else Err Bad
framing_by limit minor _ _ = Err Bad

-- how the body behind a head is framed, where a body has at most limit bytes
abbrev pub framing : ℕ → HeadParts → Result Framing FrameFault
framing limit head =
    framing_by limit head.minor (values_of head.fields (codes "Content-Length"))
    (values_of head.fields (codes "Transfer-Encoding"))
