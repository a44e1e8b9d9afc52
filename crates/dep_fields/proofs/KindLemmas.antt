-- The kind of a text, by what its disposition says.
use Rattle.std.proofs.Common.{ℕ, List, bytes_eq, subst}
use Rattle.std.specs.List.{IsDistinct}
use Rattle.dep_params.specs.Grammar.{IsDisposition, DispositionValue, names_of}
use Rattle.dep_params.proofs.ReportedReadings.{same_reading}
use Rattle.dep_fields.specs.Kinds.{IsKind, IsKindOf}
use Rattle.dep_fields.specs.Values.{IsRead}
use Rattle.dep_fields.specs.declared.field.Field.{Field}
use Rattle.dep_fields.specs.declared.field.Field.TheVariants.{Absent, Bad, Value}
use Rattle.dep_fields.specs.declared.kind.Kind.{Kind}

pub kind_read : (text : List ℕ) (reading : DispositionValue) (reported : Field Kind) → IsDisposition text reading → IsDistinct bytes_eq (names_of reading)
    → IsRead (IsKindOf reading) reported → IsRead (IsKind text) reported
kind_read text reading Absent is distinct h = h
kind_read text reading Bad is distinct h = λ kind has.
    h kind (subst (λ (r : DispositionValue). IsKindOf r kind) (same_reading text has.reading reading has.read is) has.kind_is)
kind_read text reading (Value kind) is distinct h = record { reading = reading; read = is; distinct = distinct; kind_is = h }

pub malformed : (text : List ℕ) → ((reading : DispositionValue) → ¬ IsDisposition text reading) → (kind : Kind) → ¬ IsKind text kind
malformed text none kind is = none is.reading is.read

pub repeated : (text : List ℕ) → ((reading : DispositionValue) × IsDisposition text reading × ¬ IsDistinct bytes_eq (names_of reading)) → (kind : Kind) → ¬ IsKind text kind
repeated text twice kind is =
    twice.2 (subst (λ (r : DispositionValue). IsDistinct bytes_eq (names_of r)) (same_reading text is.reading twice.0 is.read twice.1) is.distinct)
