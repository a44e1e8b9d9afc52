-- What a member adds to the promises of those before it.
use Rattle.std.proofs.Common.{◌≡◌, ◌∙◌, refl, ap, List, [], ◌∷◌, ◌++◌, true, false, ℕ, Bool, Option, Some, None, inl, inr, bytes_eq, is_some, cond}
use Rattle.std.proofs.lemmas.Bool.{cases_Bool}
use Rattle.std.proofs.lemmas.List.{map-append}
use Rattle.std.proofs.lemmas.List.Elements.{filter_map-append}
use Rattle.std.proofs.lemmas.List.Folds.{list_all-append}
use Rattle.std.proofs.lemmas.Slice.Eq.{bytes_eq-Decides}
use Rattle.std.specs.List.{list_all, filter_map}
use Rattle.std.specs.Str.{str_eq_ignore_ascii_case}
use Rattle.dep_fixity.specs.Fixity.{is_just, one_digest, joined_digest, digest_under, octets_of, value_under, name_and_value, spelled_under}

-- the digest that is there, where all the rest spell it
when_all : (digest : List ℕ) (all : Bool) (before : Option (List ℕ))
    → cond all (Some (Some digest)) None ≡ Some before → (all ≡ true) × (before ≡ Some digest)
when_all digest true before h = (refl, cc h)
when_all digest false before h = cc h

joined_first : (before : Option (List ℕ)) (digest : List ℕ) → Some None ≡ Some before → joined_digest before (Some digest) ≡ Some digest
joined_first None digest h = refl
joined_first (Some other) digest h = cc h

-- a digest that is joined to another is the same
joined_same : (other : List ℕ) (value : Option (List ℕ)) (kept : List ℕ) → joined_digest (Some other) value ≡ Some kept → (is_just other value ≡ true) × (kept ≡ other)
joined_same other None kept h = cc h
joined_same other (Some digest) kept h = elim (cases_Bool (bytes_eq other digest)) [
  | inl same ↦
      let is = rw same at h in
      let equal : other ≡ digest = (bytes_eq-Decides other digest).0 same in
      (same, cc (is, equal))
  | inr not_same ↦ let is = rw not_same at h in cc is
]

joined_other : (other : List ℕ) (value : Option (List ℕ)) → joined_digest (Some other) value ≡ None → is_just other value ≡ false
joined_other other None h = refl
joined_other other (Some digest) h = elim (cases_Bool (bytes_eq other digest)) [
  | inl same ↦ let is = rw same at h in cc is
  | inr not_same ↦ not_same
]

pub one_digest-more : (values : List (Option (List ℕ))) (before value : Option (List ℕ)) (kept : List ℕ)
    → one_digest values ≡ Some before → joined_digest before value ≡ Some kept → one_digest (values ++ value ∷ []) ≡ Some (Some kept)
one_digest-more [] before None kept h j = cc j
one_digest-more [] before (Some digest) kept h j =
    let first = joined_first before digest h in
    let same : digest ≡ kept = cc (first, j) in
    ap (λ d. Some (Some d)) same
one_digest-more (None ∷ more) before value kept h j = cc h
one_digest-more (Some digest ∷ more) before value kept h j =
    let all = when_all digest (list_all (is_just digest) more) before h in
    let step = joined_same digest value kept (rw all.1 at j) in
    let every : list_all (is_just digest) (more ++ value ∷ []) ≡ true =
    rw (list_all-append (is_just digest) more (value ∷ []), all.0, step.0) refl in
    rw (every, step.1) refl

pub one_digest-bad : (values more : List (Option (List ℕ))) (before value : Option (List ℕ))
    → one_digest values ≡ Some before → joined_digest before value ≡ None → one_digest (values ++ value ∷ more) ≡ None
one_digest-bad [] more before None h j = refl
one_digest-bad [] more before (Some digest) h j = let first = joined_first before digest h in cc (first, j)
one_digest-bad (None ∷ values) more before value h j = refl
one_digest-bad (Some digest ∷ values) more before value h j =
    let all = when_all digest (list_all (is_just digest) values) before h in
    let other = joined_other digest value (rw all.1 at j) in
    let not_every : list_all (is_just digest) (values ++ value ∷ more) ≡ false =
    rw (list_all-append (is_just digest) values (value ∷ more), all.0, other) refl in
    rw not_every refl

pub value_under-same : (name member : List ℕ) (cut : List ℕ × List ℕ) → name_and_value member ≡ Some cut
    → str_eq_ignore_ascii_case cut.0 name ≡ true → value_under name member ≡ Some cut.1
value_under-same name member cut h same = rw (h, same) refl

pub value_under-other : (name member : List ℕ) (cut : List ℕ × List ℕ) → name_and_value member ≡ Some cut
    → str_eq_ignore_ascii_case cut.0 name ≡ false → value_under name member ≡ None
value_under-other name member cut h other = rw (h, other) refl

pub spelled_under-next : (n : ℕ) (name : List ℕ) (done : List (List ℕ)) (member : List ℕ) (rest : List (List ℕ)) (value : List ℕ)
    → value_under name member ≡ Some value
    → spelled_under n name (done ++ member ∷ rest) ≡ spelled_under n name done ++ octets_of n value ∷ spelled_under n name rest
spelled_under-next n name done member rest value h =
    rw (filter_map-append (value_under name) done (member ∷ rest), h, map-append (octets_of n) (filter_map (value_under name) done) (value ∷ filter_map (value_under name) rest)) refl

pub spelled_under-other : (n : ℕ) (name : List ℕ) (done : List (List ℕ)) (member : List ℕ) (rest : List (List ℕ))
    → value_under name member ≡ None → spelled_under n name (done ++ member ∷ rest) ≡ spelled_under n name done ++ spelled_under n name rest
spelled_under-other n name done member rest h =
    rw (filter_map-append (value_under name) done (member ∷ rest), h, map-append (octets_of n) (filter_map (value_under name) done) (filter_map (value_under name) rest)) refl

pub digest_under-bad : (n : ℕ) (name : List ℕ) (done : List (List ℕ)) (member : List ℕ) (rest : List (List ℕ)) (before : Option (List ℕ)) (value : List ℕ)
    → one_digest (spelled_under n name done) ≡ Some before → value_under name member ≡ Some value
    → joined_digest before (octets_of n value) ≡ None → digest_under n name (done ++ member ∷ rest) ≡ None
digest_under-bad n name done member rest before value h is j =
    let bad : one_digest (spelled_under n name (done ++ member ∷ rest)) ≡ None =
    ap one_digest (spelled_under-next n name done member rest value is)
    ∙ one_digest-bad (spelled_under n name done) (spelled_under n name rest) before (octets_of n value) h j in
    elim (cases_Bool (list_all (λ m. is_some (name_and_value m)) (done ++ member ∷ rest))) [
      | inl all ↦ rw (all, bad) refl
      | inr not_all ↦ rw not_all refl
    ]

pub named-more : (done : List (List ℕ)) (member : List ℕ) (cut : List ℕ × List ℕ) → list_all (λ m. is_some (name_and_value m)) done ≡ true
    → name_and_value member ≡ Some cut → list_all (λ m. is_some (name_and_value m)) (done ++ member ∷ []) ≡ true
named-more done member cut all h =
    rw (list_all-append (λ m. is_some (name_and_value m)) done (member ∷ []), all, h) refl
