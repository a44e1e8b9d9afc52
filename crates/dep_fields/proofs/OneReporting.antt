-- A disposition is of one kind, and the fields of a head tell one thing.
use Rattle.std.proofs.Common.{◌≡◌, ◌∙◌, ℕ, List, sym, ap, refl}
use Rattle.dep_fields.specs.Fields.{AreFields}
use Rattle.dep_fields.specs.Kinds.{IsKind}
use Rattle.dep_fields.specs.Values.{IsRead, IsReadFrom}
use Rattle.dep_fields.specs.declared.field.Field.{Field}
use Rattle.dep_fields.specs.declared.field.Field.TheVariants.{Absent, Bad, Value}
use Rattle.dep_fields.specs.declared.fields.SwordFields.{SwordFields}
use Rattle.dep_fields.specs.declared.kind.Kind.{Kind}
use Rattle.dep_fields.proofs.ReportedFields.{text-complete}

pub one_kind : (text : List ℕ) (a b : Kind) → IsKind text a → IsKind text b → a ≡ b
one_kind text a b is has = cc (text-complete text a is, text-complete text b has)

-- a value and bad exclude each other, and there is one value
one_read : (text : List ℕ) (a b : Field Kind) → IsRead (IsKind text) a → IsRead (IsKind text) b → a ≡ b
one_read text Absent b h k = absurd h
one_read text Bad Absent h k = absurd k
one_read text Bad Bad h k = refl
one_read text Bad (Value b) h k = absurd (h b k)
one_read text (Value a) Absent h k = absurd k
one_read text (Value a) Bad h k = absurd (k a h)
one_read text (Value a) (Value b) h k = ap Value (one_kind text a b h k)

one_disposition : (field : Field (List ℕ)) (a b : Field Kind) → IsReadFrom IsKind field a → IsReadFrom IsKind field b → a ≡ b
one_disposition Absent a b h k = h ∙ sym k
one_disposition Bad a b h k = h ∙ sym k
one_disposition (Value text) a b h k = one_read text a b h k

pub one_reporting : (fields : List (List ℕ × List ℕ)) (a b : SwordFields) → AreFields fields a → AreFields fields b → a ≡ b
one_reporting fields a b is has = λ i. record {
  on_behalf_of = (is.on_behalf_of ∙ sym has.on_behalf_of) i;
  disposition = one_disposition _ a.disposition b.disposition is.disposition has.disposition i;
  in_progress = (is.in_progress ∙ sym has.in_progress) i;
  packaging = (is.packaging ∙ sym has.packaging) i;
  metadata_format = (is.metadata_format ∙ sym has.metadata_format) i;
  content_type = (is.content_type ∙ sym has.content_type) i;
  content_encoding = (is.content_encoding ∙ sym has.content_encoding) i;
  digest = (is.digest ∙ sym has.digest) i;
}
