-- What a text says, as functions: a disposition, and the file name that it gives.
use Rattle.std.specs.Prelude.{ℕ, zero, suc, ◌+◌, ◌==◌, ◌&&◌, ◌||◌, not, nat_lt, Bool, true, List, [], ◌∷◌, length, take, drop, slice_index, Option, Some, None, option_map, option_and_then, codes, bytes_eq, if◌then◌else◌}
use Rattle.std.specs.List.{list_all, range_with_len}
use Rattle.std.specs.Char.{is_ascii_hexdigit}
use Rattle.std.specs.Str.{str_to_ascii_lowercase, str_eq_ignore_ascii_case}
use Rattle.percent_encoding.specs.Percent.{percent_decode}
use Rattle.dep_types.specs.Names.{if_passes, is_good_name}
use Rattle.dep_params.specs.Grammar.{NamedValue, DispositionValue, parameter_value}
use Rattle.dep_params.specs.Reading.{cut_at_apostrophe, parameter_read, semicolon_read, token_len}

-- a parameter before those that follow it
abbrev pub with_parameter : (List ℕ → Option (List NamedValue)) → Option (NamedValue × List ℕ)
    → Option (List NamedValue)
with_parameter more read = option_and_then (λ p. option_map (λ ps. p.0 ∷ ps) (more p.1)) read

-- behind a semicolon: a parameter, or nothing, and then the others
abbrev pub behind_slot : (List ℕ → Option (List NamedValue)) → List ℕ → Option (List NamedValue)
behind_slot more text =
    if token_len text == 0 then more text else with_parameter more (parameter_read text)

abbrev pub at_slot : (List ℕ → Option (List NamedValue)) → Option (Option (List ℕ))
    → Option (List NamedValue)
at_slot more None = None
at_slot more (Some None) = Some []
at_slot more (Some (Some text)) = behind_slot more text

-- the parameters of a text of fewer than n octets
unfoldable pub parameters_read : ℕ → List ℕ → Option (List NamedValue)
parameters_read zero text = None
parameters_read (suc n) text = at_slot (parameters_read n) (semicolon_read text)

abbrev pub parameters_of : List ℕ → Option (List NamedValue)
parameters_of text = parameters_read (suc (length text)) text

abbrev pub with_form : List ℕ → List NamedValue → DispositionValue
with_form form parameters = record { form = str_to_ascii_lowercase form; parameters = parameters }

-- what a disposition says, if the text is one
unfoldable pub disposition_of : List ℕ → Option DispositionValue
disposition_of text =
    if token_len text == 0 then None
    else option_map (with_form (take (token_len text) text))
    (parameters_of (drop (token_len text) text))

-- no name stands twice
unfoldable pub is_each_once : List (List ℕ) → Bool
is_each_once [] = true
is_each_once (name ∷ names) =
    list_all (λ other. not (bytes_eq name other)) names && is_each_once names

-- the octet at the place is no `%`, or has two hexadecimal digits behind it
abbrev pub has_two_digits_after : List ℕ → ℕ → Bool
has_two_digits_after text i =
    nat_lt (i + 2) (length text) && is_ascii_hexdigit (slice_index text (i + 1))
    && is_ascii_hexdigit (slice_index text (i + 2))

abbrev pub is_whole_at : List ℕ → ℕ → Bool
is_whole_at text i = not (slice_index text i == 37) || has_two_digits_after text i

unfoldable pub has_whole_escapes : List ℕ → Bool
has_whole_escapes text = list_all (is_whole_at text) (range_with_len 0 (length text))

-- the name that `UTF-8'LANGUAGE'ESCAPED` gives
abbrev pub name_escaped : (charset escaped : List ℕ) → Option (List ℕ)
name_escaped charset escaped =
    if str_eq_ignore_ascii_case charset (codes "UTF-8") && has_whole_escapes escaped
    then Some (percent_decode escaped) else None

abbrev pub name_behind : (charset : List ℕ) → Option (List ℕ × List ℕ) → Option (List ℕ)
name_behind charset cut = option_and_then (λ second. name_escaped charset second.1) cut

abbrev pub extended_name : List ℕ → Option (List ℕ)
extended_name text =
    option_and_then (λ first. name_behind first.0 (cut_at_apostrophe first.1))
    (cut_at_apostrophe text)

-- an extended name goes before a plain one
abbrev pub reported_name : Option (List ℕ) → Option (List ℕ) → Option (List ℕ)
reported_name (Some text) plain = extended_name text
reported_name None plain = plain

-- the file name that a disposition gives, if it gives one
unfoldable pub file_name_of : DispositionValue → Option (List ℕ)
file_name_of reading =
    option_and_then (if_passes is_good_name)
    (reported_name (parameter_value (codes "filename*") reading) (parameter_value (codes "filename") reading))
