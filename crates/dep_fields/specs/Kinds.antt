-- What a content is for, by its Content-Disposition (RFC 6266; SWORD 3.0).
use Rattle.std.specs.Prelude.{◌≡◌, ℕ, ◌-◌, ◌^◌, nat_lt, Bool, true, false, List, Option, Some, None, option_and_then, codes, bytes_eq, if◌then◌else◌}
use Rattle.std.specs.List.{IsDistinct}
use Rattle.std.specs.Str.{str_eq_ignore_ascii_case}
use Rattle.dep_octets.specs.Octets.{decimal_number}
use Rattle.dep_octets.specs.declared.numbers.Number.{Number}
use Rattle.dep_octets.specs.declared.numbers.Number.TheVariants.{NotDigits, Above, Value}
use Rattle.dep_params.specs.Grammar.{IsDisposition, DispositionValue, names_of, parameter_value}
use Rattle.dep_params.specs.Names.{IsFileName}
use Rattle.dep_fixity.specs.Fixity.{digest_field, none_promised}
use Rattle.dep_fixity.specs.declared.field.DigestList.{DigestList}
use Rattle.dep_fields.specs.declared.field.Field.{Field}
use Rattle.dep_fields.specs.declared.field.Field.TheVariants as field
use Rattle.dep_fields.specs.declared.kind.Opening.{Opening}
use Rattle.dep_fields.specs.declared.kind.Kind.{Kind}
use Rattle.dep_fields.specs.declared.kind.Kind.TheVariants.{File, Metadata, References, Opening as Opens, Segment}

-- `true` or `false`, in any letter case
abbrev pub truth : List ℕ → Option Bool
truth text =
    if str_eq_ignore_ascii_case text (codes "true") then Some true
    else if str_eq_ignore_ascii_case text (codes "false") then Some false
    else None

-- a truth, which is false where nothing is said
abbrev pub flag_in : Option (List ℕ) → Option Bool
flag_in None = Some false
flag_in (Some text) = truth text

-- the greatest number of 64 bits
abbrev pub greatest : ℕ
greatest = 2 ^ 64 - 1

-- a number, cut at the greatest
abbrev pub cut : Number → Option ℕ
cut NotDigits = None
cut Above = Some greatest
cut (Value n) = Some n

-- the number that a parameter says in decimal digits
abbrev pub number : Option (List ℕ) → Option ℕ
number text = option_and_then (λ t. cut (decimal_number t greatest)) text

-- a number of at least 1
abbrev pub positive : Option (List ℕ) → Option ℕ
positive text = option_and_then (λ n. if nat_lt 0 n then Some n else None) (number text)

-- what a parameter promises, which is nothing where it isn't there
abbrev pub promised : Option (List ℕ) → Option DigestList
promised None = Some none_promised
promised (Some text) = digest_field text

-- an attachment with these flags
pub record IsAttachment (reading : DispositionValue) (metadata by_reference : Bool) : Type 0 where
  pub form : reading.form ≡ codes "attachment"
  pub metadata_is : flag_in (parameter_value (codes "metadata") reading) ≡ Some metadata
  pub by_reference_is : flag_in (parameter_value (codes "by-reference") reading) ≡ Some by_reference

-- what is to be opened, where all of it can be read
abbrev pub opening_by : Option ℕ → Option ℕ → Option ℕ → Option DigestList → Option Opening
opening_by (Some size) (Some count) (Some segment_size) (Some digest) =
    Some (record { size = size; count = count; segment_size = segment_size; digest = digest })
opening_by _ _ _ _ = None

-- what the parameters say is to be opened
abbrev pub opening_of : DispositionValue → Option Opening
opening_of reading =
    opening_by (positive (parameter_value (codes "size") reading))
    (positive (parameter_value (codes "segment_count") reading))
    (positive (parameter_value (codes "segment_size") reading))
    (promised (parameter_value (codes "digest") reading))

-- an opening, with what is to be opened
pub record IsOpening (reading : DispositionValue) (opening : Opening) : Type 0 where
  pub form : reading.form ≡ codes "segment-init"
  pub opening_is : opening_of reading ≡ Some opening

-- which segment it is
pub record IsSegment (reading : DispositionValue) (segment : ℕ) : Type 0 where
  pub form : reading.form ≡ codes "segment"
  pub segment_is : number (parameter_value (codes "segment_number") reading) ≡ Some segment

-- the disposition is of this kind
abbrev pub IsKindOf : DispositionValue → Kind → Type 0
IsKindOf reading (File name) = IsAttachment reading false false × IsFileName reading name
IsKindOf reading Metadata = IsAttachment reading true false
IsKindOf reading References = IsAttachment reading false true
IsKindOf reading (Opens opening) = IsOpening reading opening
IsKindOf reading (Segment n) = IsSegment reading n

-- the content is a document of references
abbrev pub is_by_reference : Field Kind → Bool
is_by_reference (field.Value References) = true
is_by_reference disposition = false

-- the text is a disposition of this kind, in which no name stands twice
pub record IsKind (text : List ℕ) (kind : Kind) : Type 0 where
  pub reading : DispositionValue
  pub read : IsDisposition text reading
  pub distinct : IsDistinct bytes_eq (names_of reading)
  pub kind_is : IsKindOf reading kind
