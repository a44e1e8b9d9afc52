-- The file name that a disposition gives (RFC 6266, section 4.3; RFC 8187, section 3.2).
use Rattle.std.specs.Prelude.{◌≡◌, ◌⊎◌, ℕ, ◌+◌, ◌<◌, ◌==◌, not, Bool, true, IsTrue, List, ◌∷◌, ◌++◌, length, slice_index, Option, Some, None, codes}
use Rattle.std.specs.List.{list_all}
use Rattle.std.specs.Char.{is_ascii_hexdigit}
use Rattle.std.specs.Str.{str_eq_ignore_ascii_case}
use Rattle.percent_encoding.specs.Percent.{percent_decode}
use Rattle.dep_types.specs.Names.{is_good_name}
use Rattle.dep_params.specs.Grammar.{DispositionValue, parameter_value}
use Rattle.dep_params.specs.declared.disposition.ParamFault.{ParamFault}
use Rattle.dep_params.specs.declared.disposition.ParamFault.TheVariants.{NoName, Memory}

-- two hexadecimal digits stand behind the place
abbrev pub HasTwoDigitsAfter : List ℕ → ℕ → Type 0
HasTwoDigitsAfter text i =
    (i + 2 < length text) × IsTrue (is_ascii_hexdigit (slice_index text (i + 1)))
    × IsTrue (is_ascii_hexdigit (slice_index text (i + 2)))

-- each `%` stands before two hexadecimal digits
abbrev pub HasWholeEscapes : List ℕ → Type 0
HasWholeEscapes text =
    (i : ℕ) → i < length text → slice_index text i ≡ 37 → HasTwoDigitsAfter text i

abbrev pub has_no_apostrophe : List ℕ → Bool
has_no_apostrophe text = list_all (λ b. not (b == 39)) text

-- the text gives the name, as `UTF-8'LANGUAGE'ESCAPED`
pub record IsExtended (text name : List ℕ) : Type 0 where
  pub charset : List ℕ
  pub language : List ℕ
  pub escaped : List ℕ
  pub written : text ≡ charset ++ 39 ∷ language ++ 39 ∷ escaped
  pub utf8 : str_eq_ignore_ascii_case charset (codes "UTF-8") ≡ true
  pub before_language : has_no_apostrophe charset ≡ true
  pub in_language : has_no_apostrophe language ≡ true
  pub whole : HasWholeEscapes escaped
  pub reported : name ≡ percent_decode escaped

-- an extended name goes before a plain one
abbrev pub IsPreferredName : Option (List ℕ) → Option (List ℕ) → List ℕ → Type 0
IsPreferredName (Some text) plain name = IsExtended text name
IsPreferredName None (Some plain) name = name ≡ plain
IsPreferredName None None name = ⊥

-- its parameters give this name, whether it may stand or not
abbrev pub IsReportedName : DispositionValue → List ℕ → Type 0
IsReportedName reading name =
    IsPreferredName (parameter_value (codes "filename*") reading) (parameter_value (codes "filename") reading) name

-- the disposition gives this file name
pub record IsFileName (reading : DispositionValue) (name : List ℕ) : Type 0 where
  pub reported : IsReportedName reading name
  pub good : is_good_name name ≡ true

-- why there is no name: none may stand, or memory was refused
abbrev pub IsNameFault : ParamFault → Type 0
IsNameFault e = (e ≡ NoName) ⊎ (e ≡ Memory)
