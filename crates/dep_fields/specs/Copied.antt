-- The fields of SWORD in a head that are copied as they stand.
use Rattle.std.specs.Prelude.{◌≡◌, ℕ, List}
use Rattle.dep_fields.specs.Reported.{fields_of}
use Rattle.dep_fields.specs.declared.fields.Copies.{Copies}

-- what the fields say that are copied as they stand
pub record AreCopies (fields : List (List ℕ × List ℕ)) (copies : Copies) : Type 0 where
  pub packaging : copies.packaging ≡ (fields_of fields).packaging
  pub metadata_format : copies.metadata_format ≡ (fields_of fields).metadata_format
  pub content_encoding : copies.content_encoding ≡ (fields_of fields).content_encoding
  pub content_type : copies.content_type ≡ (fields_of fields).content_type
