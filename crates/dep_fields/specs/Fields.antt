-- Each field of SWORD in a head: absent, bad, or its value.
use Rattle.std.specs.Prelude.{◌≡◌, ℕ, ◌&&◌, nat_lt, Bool, List, length, Option, Some, codes}
use Rattle.std.specs.Str.{is_utf8}
use Rattle.dep_head.specs.Head.{values_of}
use Rattle.dep_types.specs.Names.{if_passes, is_media}
use Rattle.dep_fixity.specs.Fixity.{digest_field}
use Rattle.dep_fields.specs.Kinds.{IsKind, truth}
use Rattle.dep_fields.specs.Values.{HasValue, IsReadFrom, joined_values, read_from, single}
use Rattle.dep_fields.specs.declared.field.Field.{Field}
use Rattle.dep_fields.specs.declared.field.Field.TheVariants.{Bad}
use Rattle.dep_fields.specs.declared.fields.SwordFields.{SwordFields}

-- a text that names someone
abbrev pub is_behalf : List ℕ → Bool
is_behalf text = nat_lt 0 (length text) && is_utf8 text

-- any text
abbrev pub as_it_stands : List ℕ → Option (List ℕ)
as_it_stands text = Some text

-- the text of the field of this name, which may stand once
abbrev pub field_in : List (List ℕ × List ℕ) → (name : List ℕ) → Field (List ℕ)
field_in fields name = single (values_of fields name)

-- what the fields of a head say
pub record AreFields (fields : List (List ℕ × List ℕ)) (reported : SwordFields) : Type 0 where
  pub on_behalf_of : reported.on_behalf_of
      ≡ read_from (if_passes is_behalf) (field_in fields (codes "On-Behalf-Of"))
  pub disposition :
      IsReadFrom IsKind (field_in fields (codes "Content-Disposition")) reported.disposition
  pub in_progress : reported.in_progress ≡ read_from truth (field_in fields (codes "In-Progress"))
  pub packaging : reported.packaging ≡ read_from as_it_stands (field_in fields (codes "Packaging"))
  pub metadata_format : reported.metadata_format
      ≡ read_from as_it_stands (field_in fields (codes "Metadata-Format"))
  pub content_type : reported.content_type
      ≡ read_from (if_passes is_media) (field_in fields (codes "Content-Type"))
  pub content_encoding : reported.content_encoding
      ≡ read_from as_it_stands (field_in fields (codes "Content-Encoding"))
  pub digest : reported.digest ≡ read_from digest_field (joined_values (values_of fields (codes "Digest")))

-- a text that is copied stands in the head: a value, a disposition, or digests in more than one field
pub data IsCopied (fields : List (List ℕ × List ℕ)) : Type 0 where
  behalf : HasValue (read_from (if_passes is_behalf) (field_in fields (codes "On-Behalf-Of")))
      → IsCopied fields
  disposition : HasValue (field_in fields (codes "Content-Disposition")) → IsCopied fields
  packaging : HasValue (field_in fields (codes "Packaging")) → IsCopied fields
  metadata_format : HasValue (field_in fields (codes "Metadata-Format")) → IsCopied fields
  content_type : HasValue (read_from (if_passes is_media) (field_in fields (codes "Content-Type")))
      → IsCopied fields
  content_encoding : HasValue (field_in fields (codes "Content-Encoding")) → IsCopied fields
  digests : field_in fields (codes "Digest") ≡ Bad → IsCopied fields
