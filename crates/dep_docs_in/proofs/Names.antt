-- The file name that a disposition gives, as a function of its text.
use Rattle.std.proofs.Common.{◌≡◌, ℕ, List, Bool, true, false, Option, Some, None, refl, ap, inl, inr, ◌∙◌, bytes_eq, codes}
use Rattle.std.specs.List.{IsDistinct}
use Rattle.dep_types.specs.Maps.{◌>>=◌, provided}
use Rattle.dep_params.specs.Grammar.{IsDisposition, DispositionValue, HasDistinctNames, names_of}
use Rattle.dep_params.specs.Names.{IsFileName, IsNameFault}
use Rattle.dep_params.specs.Reported.{file_name_of, disposition_of}
use Rattle.dep_params.proofs.ReportedReadings.{reading-sound, reading-complete, once-sound, once-complete}
use Rattle.dep_params.proofs.ReportedNames.{file_name-sound, file_name-complete}
use Rattle.dep_params.specs.declared.disposition.ParamFault.{ParamFault}
use Rattle.dep_params.specs.declared.disposition.ParamFault.TheVariants.{Malformed, Repeated, NoName, Memory}
use Rattle.dep_docs_in.specs.Documents.{attachment_name, form_name}
use Rattle.dep_docs_in.specs.Faults.{IsUnreadable, fault_of_disposition}

nothing : {X : Type 0} (b : Bool) (o : Option X) → o ≡ None → provided b o ≡ None
nothing true o e = e
nothing false o e = refl

-- nothing is there that is in no relation
none_of : {X : Type 0} (P : X → Type 0) (o : Option X) → ((x : X) → o ≡ Some x → P x) → ((x : X) → ¬ P x) → o ≡ None
none_of P None sound none = refl
none_of P (Some x) sound none = absurd (none x (sound x refl))

pub form_name-is : (r : DispositionValue) (name : List ℕ) → bytes_eq r.form (codes "attachment") ≡ true → IsFileName r name → form_name r ≡ Some name
form_name-is r name form is = ap (λ b. provided b (file_name_of r)) form ∙ file_name-complete r name is

no_form_name : (r : DispositionValue) → ((name : List ℕ) → ¬ IsFileName r name) → form_name r ≡ None
no_form_name r none = nothing _ _ (none_of (IsFileName r) (file_name_of r) (file_name-sound r) none)

pub unnamed : (r : DispositionValue) (e : ParamFault) → (e ≡ NoName → (name : List ℕ) → ¬ IsFileName r name) → IsNameFault e
    → IsUnreadable (fault_of_disposition e) (form_name r)
unnamed r e none (inl is) = rw is (no_form_name r (none is))
unnamed r e none (inr is) = rw is tt

pub name-is : (o : Option (List ℕ)) (text : List ℕ) (r : DispositionValue) → o ≡ Some text → IsDisposition text r → IsDistinct bytes_eq (names_of r)
    → (o >>= disposition_of >>= attachment_name) ≡ form_name r
name-is o text r e is distinct =
    ap (λ o. o >>= disposition_of >>= attachment_name) e
    ∙ ap (λ o. o >>= attachment_name) (reading-complete text r is)
    ∙ ap (λ b. provided b (form_name r)) (once-complete (names_of r) distinct)

no_name : (o : Option (List ℕ)) (text : List ℕ) → o ≡ Some text → ((r : DispositionValue) → ¬ IsDisposition text r) → (o >>= disposition_of >>= attachment_name) ≡ None
no_name o text e none =
    ap (λ o. o >>= disposition_of >>= attachment_name) e
    ∙ ap (λ o. o >>= attachment_name) (none_of (IsDisposition text) (disposition_of text) (reading-sound text) none)

false_of : (b : Bool) → (b ≡ true → ⊥) → b ≡ false
false_of true f = absurd (f refl)
false_of false f = refl

name_of_none : (o : Option (List ℕ)) (text : List ℕ) (r : DispositionValue) → o ≡ Some text → IsDisposition text r → ¬ IsDistinct bytes_eq (names_of r)
    → (o >>= disposition_of >>= attachment_name) ≡ None
name_of_none o text r e is twice =
    ap (λ o. o >>= disposition_of >>= attachment_name) e
    ∙ ap (λ o. o >>= attachment_name) (reading-complete text r is)
    ∙ ap (λ b. provided b (form_name r)) (false_of _ (λ once. twice (once-sound (names_of r) once)))

pub unread : (o : Option (List ℕ)) (text : List ℕ) (e : ParamFault) → o ≡ Some text → (e ≡ Malformed → (r : DispositionValue) → ¬ IsDisposition text r)
    → (e ≡ Repeated → (r : DispositionValue) × IsDisposition text r × ¬ HasDistinctNames r) → ¬ (e ≡ NoName)
    → IsUnreadable (fault_of_disposition e) (o >>= disposition_of >>= attachment_name)
unread o text Malformed is malformed repeated never = no_name o text is (malformed refl)
unread o text Repeated is malformed repeated never = let twice = repeated refl in name_of_none o text twice.0 is twice.1 twice.2
unread o text NoName is malformed repeated never = absurd (never refl)
unread o text Memory is malformed repeated never = tt
