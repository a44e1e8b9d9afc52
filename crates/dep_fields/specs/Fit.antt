-- Which of what a head says may be kept.
use Rattle.std.specs.Prelude.{◌≡◌, ◌≤◌, length, IsTrue, IfSome}
use Rattle.dep_types.specs.Names.{is_good_name, is_media}
use Rattle.dep_fields.specs.declared.field.Field.{Field}
use Rattle.dep_fields.specs.declared.field.Field.TheVariants.{Absent, Bad, Value}
use Rattle.dep_fields.specs.declared.fields.SwordFields.{SwordFields}
use Rattle.dep_fields.specs.declared.kind.Kind.{Kind}
use Rattle.dep_fields.specs.declared.kind.Kind.TheVariants.{File, Opening as Opens}
use Rattle.dep_fields.specs.declared.kind.Opening.{Opening}

abbrev pub IsFitOpening : Opening → Type 0
IsFitOpening o = (1 ≤ o.count)
    × IfSome o.digest.sha256 (λ digest. length digest ≡ 32)
    × IfSome o.digest.sha512 (λ digest. length digest ≡ 64)

-- a file has a good name, and an opening a segment and whole digests
abbrev pub IsFitKind : Kind → Type 0
IsFitKind (File name) = IsTrue (is_good_name name)
IsFitKind (Opens o) = IsFitOpening o
IsFitKind _ = Unit {0}

abbrev pub IfValue : {X : Type 0} → Field X → (X → Type 0) → Type 0
IfValue (Value x) P = P x
IfValue Absent P = Unit {0}
IfValue Bad P = Unit {0}

-- what the head says of a content may be kept
pub record AreFit (reported : SwordFields) : Type 0 where
  pub kind : IfValue reported.disposition IsFitKind
  pub media : IfValue reported.content_type (λ text. IsTrue (is_media text))
