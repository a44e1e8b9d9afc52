-- What the fields of a head say, as a function.
use Rattle.std.specs.Prelude.{ℕ, Bool, true, false, List, Option, Some, None, option_map, option_and_then, codes, bytes_eq, if◌then◌else◌}
use Rattle.dep_head.specs.Head.{values_of}
use Rattle.dep_types.specs.Names.{if_passes, is_media}
use Rattle.dep_params.specs.Grammar.{DispositionValue, names_of, parameter_value}
use Rattle.dep_params.specs.Reported.{file_name_of, is_each_once, disposition_of}
use Rattle.dep_fixity.specs.Fixity.{digest_field}
use Rattle.dep_fields.specs.Fields.{as_it_stands, field_in, is_behalf}
use Rattle.dep_fields.specs.Kinds.{flag_in, number, opening_of, truth}
use Rattle.dep_fields.specs.Values.{joined_values, read_from}
use Rattle.dep_fields.specs.declared.fields.SwordFields.{SwordFields}
use Rattle.dep_fields.specs.declared.kind.Kind.{Kind}
use Rattle.dep_fields.specs.declared.kind.Kind.TheVariants.{File, Metadata, References, Opening as Opens, Segment}

-- an attachment, by its flags
abbrev pub attached : DispositionValue → (metadata by_reference : Option Bool) → Option Kind
attached reading (Some true) (Some false) = Some Metadata
attached reading (Some false) (Some true) = Some References
attached reading (Some false) (Some false) = option_map (λ name. File name) (file_name_of reading)
attached reading _ _ = None

-- a disposition of this form
abbrev pub kind_in : (form : List ℕ) → DispositionValue → Option Kind
kind_in form reading =
    if bytes_eq form (codes "attachment")
    then attached reading (flag_in (parameter_value (codes "metadata") reading))
    (flag_in (parameter_value (codes "by-reference") reading))
    else if bytes_eq form (codes "segment-init") then option_map (λ o. Opens o) (opening_of reading)
    else if bytes_eq form (codes "segment")
    then option_map (λ n. Segment n) (number (parameter_value (codes "segment_number") reading))
    else None

unfoldable pub kind_of : DispositionValue → Option Kind
kind_of reading = kind_in reading.form reading

abbrev pub kind_once : DispositionValue → Option Kind
kind_once reading = if is_each_once (names_of reading) then kind_of reading else None

-- the kind that a Content-Disposition text says
unfoldable pub kind_read : List ℕ → Option Kind
kind_read text = option_and_then kind_once (disposition_of text)

-- what the fields of a head say
abbrev pub fields_of : List (List ℕ × List ℕ) → SwordFields
fields_of fields = record {
  on_behalf_of = read_from (if_passes is_behalf) (field_in fields (codes "On-Behalf-Of"));
  disposition = read_from kind_read (field_in fields (codes "Content-Disposition"));
  in_progress = read_from truth (field_in fields (codes "In-Progress"));
  packaging = read_from as_it_stands (field_in fields (codes "Packaging"));
  metadata_format = read_from as_it_stands (field_in fields (codes "Metadata-Format"));
  content_type = read_from (if_passes is_media) (field_in fields (codes "Content-Type"));
  content_encoding = read_from as_it_stands (field_in fields (codes "Content-Encoding"));
  digest = read_from digest_field (joined_values (values_of fields (codes "Digest")));
}
