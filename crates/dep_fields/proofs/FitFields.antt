-- What a head tells may be kept.
use Rattle.std.proofs.Common.{◌≡◌, ◌≤◌, nat_lt, ℕ, List, Bool, true, false, Option, Some, None, option_and_then, IsTrue, refl, ap, subst, arith, inl, inr, codes, if◌then◌else◌}
use Rattle.std.proofs.lemmas.Bool.Decides.{nat_tests}
use Rattle.dep_types.specs.Names.{if_passes, is_media}
use Rattle.dep_params.specs.Grammar.{parameter_value}
use Rattle.dep_params.proofs.Runs.{chosen}
use Rattle.dep_fixity.specs.Fixity.{none_promised}
use Rattle.dep_fixity.specs.declared.field.DigestList.{DigestList}
use Rattle.dep_fixity.proofs.Lengths.{IsLong, field-long}
use Rattle.dep_fields.specs.Fit.{AreFit, IfValue, IsFitKind}
use Rattle.dep_fields.specs.Kinds.{IsKind, number, opening_by, promised}
use Rattle.dep_fields.specs.Reported.{fields_of, kind_read}
use Rattle.dep_head.specs.Head.{values_of}
use Rattle.dep_fields.specs.Values.{or_bad, read_from, single}
use Rattle.dep_fields.specs.declared.field.Field.{Field}
use Rattle.dep_fields.specs.declared.field.Field.TheVariants.{Absent, Bad, Value}
use Rattle.dep_fields.specs.declared.kind.Kind.{Kind}
use Rattle.dep_fields.specs.declared.kind.Kind.TheVariants.{File, Metadata, References, Opening as Opens, Segment}
use Rattle.dep_fields.specs.declared.kind.Opening.{Opening}
use Rattle.dep_fields.proofs.ReportedFields.{text-sound}

-- ---- openings

least : (n : ℕ) → nat_lt 0 n ≡ true → 1 ≤ n
least n h = grind (arith, nat_tests)

positive_by : (n : ℕ) (o : Option ℕ) → option_and_then (λ m. if nat_lt 0 m then Some m else None) o ≡ Some n → 1 ≤ n
positive_by n None h = cc h
positive_by n (Some m) h = elim (chosen (nat_lt 0 m) _ _ (Some n) h) [
  | inl some ↦ let same : m ≡ n = cc (some.1) in subst (λ (k : ℕ). 1 ≤ k) same (least m some.0)
  | inr none ↦ cc (none.1)
]

promised_long : (text : Option (List ℕ)) (list : DigestList) → promised text ≡ Some list → IsLong list
promised_long None list h =
    let same : none_promised ≡ list = cc h in
    subst IsLong same (tt, tt)
promised_long (Some text) list h = field-long text list h

opened : (size count segment_size : Option ℕ) (digest : Option DigestList) (o : Opening) → opening_by size count segment_size digest ≡ Some o
    → (count ≡ Some o.count) × (digest ≡ Some o.digest)
opened (Some size) (Some count) (Some segment_size) (Some digest) o h =
    let same : record { size = size; count = count; segment_size = segment_size; digest = digest } ≡ o = cc h in
    (ap (λ (x : Opening). Some x.count) same, ap (λ (x : Opening). Some x.digest) same)
opened None count segment_size digest o h = cc h
opened (Some size) None segment_size digest o h = cc h
opened (Some size) (Some count) None digest o h = cc h
opened (Some size) (Some count) (Some segment_size) None o h = cc h

-- ---- a head

fit_kind : (text : List ℕ) (kind : Kind) → IsKind text kind → IsFitKind kind
fit_kind text (File name) is = is.kind_is.1.good
fit_kind text Metadata is = tt
fit_kind text References is = tt
fit_kind text (Opens o) is =
    let found = opened _ _ _ _ o is.kind_is.opening_is in
    let long = promised_long (parameter_value (codes "digest") is.reading) o.digest found.1 in
    (positive_by o.count (number (parameter_value (codes "segment_count") is.reading)) found.0, long.0, long.1)
fit_kind text (Segment n) is = tt

read_kind : (text : List ℕ) (o : Option Kind) → kind_read text ≡ o → IfValue (or_bad o) IsFitKind
read_kind text None h = tt
read_kind text (Some kind) h = fit_kind text kind (text-sound text kind h)

fit_disposition : (field : Field (List ℕ)) → IfValue (read_from kind_read field) IsFitKind
fit_disposition Absent = tt
fit_disposition Bad = tt
fit_disposition (Value text) = read_kind text (kind_read text) refl

media_passes : (text : List ℕ) (b : Bool) → is_media text ≡ b → IfValue (or_bad (if b then Some text else None)) (λ t. IsTrue (is_media t))
media_passes text true h = h
media_passes text false h = tt

fit_media : (field : Field (List ℕ)) → IfValue (read_from (if_passes is_media) field) (λ text. IsTrue (is_media text))
fit_media Absent = tt
fit_media Bad = tt
fit_media (Value text) = media_passes text (is_media text) refl

pub fields_are_fit : (fields : List (List ℕ × List ℕ)) → AreFit (fields_of fields)
fields_are_fit fields = record { kind = fit_disposition (single (values_of fields (codes "Content-Disposition"))); media = fit_media (single (values_of fields (codes "Content-Type"))) }
