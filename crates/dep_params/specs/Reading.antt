-- What stands at the front of a text, and what follows it: values and parameters as they are read.
use Rattle.std.specs.Prelude.{◌≡◌, ℕ, ◌+◌, ◌==◌, ◌&&◌, ◌||◌, not, Bool, true, false, List, [], ◌∷◌, ◌++◌, take, drop, Option, Some, None, Result, MatchResult, option_map, if◌then◌else◌}
use Rattle.std.specs.List.{prefix_len, position}
use Rattle.std.specs.Str.{str_to_ascii_lowercase}
use Rattle.dep_octets.specs.Octets.{is_token_octet, trim_start}
use Rattle.dep_params.specs.Grammar.{AreParameters, NamedValue, is_control, is_bare_octet}
use Rattle.dep_params.specs.declared.disposition.ParamFault.{ParamFault}
use Rattle.dep_params.specs.declared.disposition.ParamFault.TheVariants.{Malformed, Repeated, NoName, Memory}

-- the fault says that nothing can be read, or that memory was refused
abbrev pub IsReadingFault : {X : Type 0} → ParamFault → Option X → Type 0
IsReadingFault Malformed read = read ≡ None
IsReadingFault Repeated read = ⊥
IsReadingFault NoName read = ⊥
IsReadingFault Memory read = Unit {0}

-- what is read, as the code has it, or a fault that says so
abbrev pub Gives : {X Y : Type 0} → (Y → X) → Result Y ParamFault → Option X → Type 0
Gives shown result read = MatchResult result (λ y. read ≡ Some (shown y)) (λ e. IsReadingFault e read)

-- the fault says that the text has no parameters, or that memory was refused
abbrev pub RefusesParameters : List ℕ → ParamFault → Type 0
RefusesParameters text Malformed = (ps : List NamedValue) → ¬ AreParameters text ps
RefusesParameters text Repeated = ⊥
RefusesParameters text NoName = ⊥
RefusesParameters text Memory = Unit {0}

-- the octet before the others that are read
abbrev pub with_octet : ℕ → Option (List ℕ × List ℕ) → Option (List ℕ × List ℕ)
with_octet b read = option_map (λ p. (b ∷ p.0, p.1)) read

-- octets before the others that are read
abbrev pub with_octets : List ℕ → Option (List ℕ × List ℕ) → Option (List ℕ × List ℕ)
with_octets front read = option_map (λ p. (front ++ p.0, p.1)) read

-- what represents itself between quotation marks
abbrev pub is_plain_octet : ℕ → Bool
is_plain_octet b = (not (is_control b) || b == 9) && not (b == 34) && not (b == 92)

-- the octets of a quoted string up to its last quotation mark, behind a backslash or not, and what
-- follows it
unfoldable pub quoted : Bool → List ℕ → Option (List ℕ × List ℕ)
quoted escaped [] = None
quoted true (b ∷ rest) = if is_control b then None else with_octet b (quoted false rest)
quoted false (b ∷ rest) =
    if b == 34 then Some ([], rest)
    else if b == 92 then quoted true rest
    else if is_plain_octet b then with_octet b (quoted false rest) else None

-- no octet, before the quotation mark, or one and those that follow
abbrev pub stepped : Option ℕ → List ℕ → Option (List ℕ × List ℕ)
stepped None rest = Some ([], rest)
stepped (Some b) rest = with_octet b (quoted false rest)

-- a run of octets that is not empty, and what follows it
abbrev pub bare : List ℕ → Option (List ℕ × List ℕ)
bare text =
    if prefix_len is_bare_octet text == 0 then None
    else Some (take (prefix_len is_bare_octet text) text, drop (prefix_len is_bare_octet text) text)

unfoldable pub value_read : List ℕ → Option (List ℕ × List ℕ)
value_read [] = None
value_read (b ∷ rest) = if b == 34 then quoted false rest else bare (b ∷ rest)

abbrev pub behind_name : List ℕ → Option (List ℕ × List ℕ)
behind_name [] = None
behind_name (b ∷ rest) = if b == 61 then value_read rest else None

abbrev pub named : List ℕ → Option (List ℕ × List ℕ) → Option (NamedValue × List ℕ)
named name read =
    option_map (λ p. (record { name = str_to_ascii_lowercase name; value = p.0 }, p.1)) read

-- how many of the first bytes are those of a token (RFC 9110, section 5.6.2)
abbrev pub token_len : List ℕ → ℕ
token_len text = prefix_len is_token_octet text

-- a parameter, and what follows it
unfoldable pub parameter_read : List ℕ → Option (NamedValue × List ℕ)
parameter_read text = named (take (token_len text) text) (behind_name (drop (token_len text) text))

-- what stands before the first apostrophe, and after it
abbrev pub cut_at_apostrophe : List ℕ → Option (List ℕ × List ℕ)
cut_at_apostrophe text =
    option_map (λ i. (take i text, drop (i + 1) text)) (position (λ b. b == 39) text)

-- what follows a semicolon at the front, and the blanks behind it, or nothing at the end
abbrev pub at_semicolon : List ℕ → Option (Option (List ℕ))
at_semicolon [] = Some None
at_semicolon (b ∷ rest) = if b == 59 then Some (Some (trim_start rest)) else None

-- the same behind blanks
unfoldable pub semicolon_read : List ℕ → Option (Option (List ℕ))
semicolon_read text = at_semicolon (trim_start text)
