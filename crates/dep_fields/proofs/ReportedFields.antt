-- What the fields of a head tell as a function is what they tell.
use Rattle.std.proofs.Common.{◌≡◌, ◌∙◌, ℕ, List, Bool, true, false, codes, bytes_eq, Option, Some, None, option_map, option_and_then, refl, ap, subst, inl, inr}
use Rattle.std.proofs.lemmas.Slice.Eq.{bytes_eq-Decides}
use Rattle.dep_params.specs.Grammar.{DispositionValue, names_of, parameter_value}
use Rattle.dep_params.specs.Reported.{file_name_of, is_each_once, disposition_of}
use Rattle.dep_params.proofs.Runs.{chosen}
use Rattle.dep_params.proofs.ReportedReadings.{reading-sound, reading-complete, once-sound, once-complete}
use Rattle.dep_params.proofs.ReportedNames.{file_name-sound, file_name-complete}
use Rattle.dep_fields.specs.Fields.{AreFields}
use Rattle.dep_fields.specs.Kinds.{IsAttachment, IsKind, IsKindOf, flag_in, number, opening_of}
use Rattle.dep_fields.specs.Reported.{attached, fields_of, kind_in, kind_of, kind_once, kind_read}
use Rattle.dep_fields.specs.Values.{IsRead, IsReadFrom, or_bad, read_from}
use Rattle.dep_fields.specs.declared.field.Field.{Field}
use Rattle.dep_fields.specs.declared.field.Field.TheVariants.{Absent, Bad, Value}
use Rattle.dep_fields.specs.declared.kind.Kind.{Kind}
use Rattle.dep_fields.specs.declared.kind.Kind.TheVariants.{File, Metadata, References, Opening as Opens, Segment}
use Rattle.dep_fields.specs.declared.kind.Opening.{Opening}

-- ---- a disposition

file-sound : (reading : DispositionValue) (kind : Kind) (o : Option (List ℕ)) → IsAttachment reading false false → file_name_of reading ≡ o
    → option_map (λ name. File name) o ≡ Some kind → IsKindOf reading kind
file-sound reading kind None is named h = cc h
file-sound reading kind (Some name) is named h =
    let same : File name ≡ kind = cc h in
    subst (IsKindOf reading) same (is, file_name-sound reading name named)

attached-sound : (reading : DispositionValue) (kind : Kind) (metadata by_reference : Option Bool) → reading.form ≡ codes "attachment"
    → flag_in (parameter_value (codes "metadata") reading) ≡ metadata → flag_in (parameter_value (codes "by-reference") reading) ≡ by_reference
    → attached reading metadata by_reference ≡ Some kind → IsKindOf reading kind
attached-sound reading kind (Some true) (Some false) form e f h =
    let same : Metadata ≡ kind = cc h in
    subst (IsKindOf reading) same (record { form = form; metadata_is = e; by_reference_is = f })
attached-sound reading kind (Some false) (Some true) form e f h =
    let same : References ≡ kind = cc h in
    subst (IsKindOf reading) same (record { form = form; metadata_is = e; by_reference_is = f })
attached-sound reading kind (Some false) (Some false) form e f h =
    file-sound reading kind (file_name_of reading) (record { form = form; metadata_is = e; by_reference_is = f }) refl h
attached-sound reading kind (Some true) (Some true) form e f h = cc h
attached-sound reading kind (Some true) None form e f h = cc h
attached-sound reading kind (Some false) None form e f h = cc h
attached-sound reading kind None by_reference form e f h = cc h

opening-sound : (reading : DispositionValue) (kind : Kind) (o : Option Opening) → reading.form ≡ codes "segment-init" → opening_of reading ≡ o
    → option_map (λ x. Opens x) o ≡ Some kind → IsKindOf reading kind
opening-sound reading kind None form is h = cc h
opening-sound reading kind (Some x) form is h =
    let same : Opens x ≡ kind = cc h in
    subst (IsKindOf reading) same (record { form = form; opening_is = is })

segment-sound : (reading : DispositionValue) (kind : Kind) (o : Option ℕ) → reading.form ≡ codes "segment" → number (parameter_value (codes "segment_number") reading) ≡ o
    → option_map (λ n. Segment n) o ≡ Some kind → IsKindOf reading kind
segment-sound reading kind None form is h = cc h
segment-sound reading kind (Some n) form is h =
    let same : Segment n ≡ kind = cc h in
    subst (IsKindOf reading) same (record { form = form; segment_is = is })

kind-sound : (reading : DispositionValue) (kind : Kind) → kind_of reading ≡ Some kind → IsKindOf reading kind
unfolding kind_of
kind-sound reading kind h = elim (chosen (bytes_eq reading.form (codes "attachment")) _ _ (Some kind) h) [
  | inl is ↦ attached-sound reading kind _ _ ((bytes_eq-Decides reading.form (codes "attachment")).0 is.0) refl refl is.1
  | inr first ↦ elim (chosen (bytes_eq reading.form (codes "segment-init")) _ _ (Some kind) first.1) [
    | inl is ↦ opening-sound reading kind (opening_of reading) ((bytes_eq-Decides reading.form (codes "segment-init")).0 is.0) refl is.1
    | inr more ↦ elim (chosen (bytes_eq reading.form (codes "segment")) _ _ (Some kind) more.1) [
      | inl is ↦ segment-sound reading kind (number (parameter_value (codes "segment_number") reading)) ((bytes_eq-Decides reading.form (codes "segment")).0 is.0) refl is.1
      | inr none ↦ cc (none.1)
    ]
  ]
]

flags : (reading : DispositionValue) (metadata by_reference : Bool) → IsAttachment reading metadata by_reference → kind_of reading ≡ attached reading (Some metadata) (Some by_reference)
unfolding kind_of
flags reading metadata by_reference is =
    ap (λ f. kind_in f reading) is.form
    ∙ ap (λ o. attached reading o (flag_in (parameter_value (codes "by-reference") reading))) is.metadata_is
    ∙ ap (λ o. attached reading (Some metadata) o) is.by_reference_is

kind-complete : (reading : DispositionValue) (kind : Kind) → IsKindOf reading kind → kind_of reading ≡ Some kind
unfolding kind_of
kind-complete reading (File name) is = flags reading false false is.0 ∙ ap (option_map (λ n. File n)) (file_name-complete reading name is.1)
kind-complete reading Metadata is = flags reading true false is
kind-complete reading References is = flags reading false true is
kind-complete reading (Opens o) is = ap (λ f. kind_in f reading) is.form ∙ ap (option_map (λ x. Opens x)) is.opening_is
kind-complete reading (Segment n) is = ap (λ f. kind_in f reading) is.form ∙ ap (option_map (λ x. Segment x)) is.segment_is

-- ---- a text

once-kind : (text : List ℕ) (kind : Kind) (o : Option DispositionValue) → disposition_of text ≡ o → option_and_then kind_once o ≡ Some kind → IsKind text kind
once-kind text kind None read h = cc h
once-kind text kind (Some reading) read h = elim (chosen (is_each_once (names_of reading)) _ _ (Some kind) h) [
  | inl once ↦ record { reading = reading; read = reading-sound text reading read; distinct = once-sound (names_of reading) once.0; kind_is = kind-sound reading kind once.1 }
  | inr twice ↦ cc (twice.1)
]

pub text-sound : (text : List ℕ) (kind : Kind) → kind_read text ≡ Some kind → IsKind text kind
unfolding kind_read
text-sound text kind h = once-kind text kind (disposition_of text) refl h

pub text-complete : (text : List ℕ) (kind : Kind) → IsKind text kind → kind_read text ≡ Some kind
unfolding kind_read
text-complete text kind is =
    ap (option_and_then kind_once) (reading-complete text is.reading is.read)
    ∙ rw (once-complete (names_of is.reading) is.distinct) (kind-complete is.reading kind is.kind_is)

-- ---- a head

reported : (text : List ℕ) (o : Option Kind) → kind_read text ≡ o → IsRead (IsKind text) (or_bad o)
reported text None h = λ kind is. let some = text-complete text kind is in cc (h, some)
reported text (Some kind) h = text-sound text kind h

reported_field : (field : Field (List ℕ)) → IsReadFrom IsKind field (read_from kind_read field)
reported_field Absent = refl
reported_field Bad = refl
reported_field (Value text) = reported text (kind_read text) refl

pub fields_are_reported : (fields : List (List ℕ × List ℕ)) → AreFields fields (fields_of fields)
fields_are_reported fields = record {
  on_behalf_of = refl;
  disposition = reported_field _;
  in_progress = refl;
  packaging = refl;
  metadata_format = refl;
  content_type = refl;
  content_encoding = refl;
  digest = refl;
}
