-- Extended values, and the one name that they tell.
use Rattle.std.proofs.Common.{◌≡◌, ◌∙◌, ◌+◌, ◌<◌, ◌==◌, ℕ, Bool, List, ◌∷◌, ◌++◌, true, false, not, nat_lt, suc, length, take, drop, get_or, codes, Option, Some, None, refl, sym, ap, subst, inl, inr, arith, add-one, append_assoc, length-append, lt-ltb, drop-cons}
use Rattle.std.proofs.Math.Seq.{drop-append-add, take-append_seam}
use Rattle.std.proofs.lemmas.Bool.{cases_Bool}
use Rattle.std.proofs.lemmas.Bool.Decides.{nat_tests}
use Rattle.std.proofs.lemmas.List.{take-append-drop}
use Rattle.std.proofs.lemmas.List.Sums.{prefix_len_stops}
use Rattle.std.specs.List.{prefix_len}
use Rattle.std.specs.Str.{str_eq_ignore_ascii_case}
use Rattle.percent_encoding.specs.Percent.{percent_decode}
use Rattle.dep_params.specs.Names.{HasWholeEscapes, IsExtended, has_no_apostrophe}
use Rattle.dep_params.specs.Reading.{cut_at_apostrophe}
use Rattle.dep_params.proofs.Runs.{prefix_len-stopped, run-passes}

abbrev other : ℕ → Bool
other b = not (b == 39)

abbrev run : List ℕ → ℕ
run text = prefix_len other text

not_other : (b : ℕ) → other b ≡ false → b ≡ 39
not_other b h = grind (arith, nat_tests)

pub cut-complete : (a b : List ℕ) → has_no_apostrophe a ≡ true → cut_at_apostrophe (a ++ 39 ∷ b) ≡ Some (a, b)
cut-complete a b h =
    let size : run (a ++ 39 ∷ b) ≡ length a = prefix_len-stopped other a (39 ∷ b) h refl in
    let within : nat_lt (length a) (length (a ++ 39 ∷ b)) ≡ true = lt-ltb _ _ (simp length-append (omega arith)) in
    rw (size, within, take-append_seam a (39 ∷ b), drop-append-add a (39 ∷ b) 1) refl

pub cut-sound : (text a b : List ℕ) → cut_at_apostrophe text ≡ Some (a, b) → (text ≡ a ++ 39 ∷ b) × (has_no_apostrophe a ≡ true)
cut-sound text a b h = elim (cases_Bool (nat_lt (run text) (length text))) [
  | inl within ↦
      let found = rw within at h in
      let pair : ◌≡◌ {A = List ℕ × List ℕ} (take (run text) text, drop (run text + 1) text) (a, b) = cc found in
      let small : run text < length text = grind (arith, nat_tests, within) in
      let here : get_or text (run text) 0 ≡ 39 = not_other (get_or text (run text) 0) (prefix_len_stops other text 0 small) in
      let behind : drop (run text) text ≡ 39 ∷ drop (run text + 1) text =
      drop-cons text (run text) 0 small ∙ ap (λ (n : ℕ). n ∷ drop (suc (run text)) text) here ∙ ap (λ (n : ℕ). 39 ∷ drop n text) (sym (add-one (run text))) in (
        sym (take-append-drop (run text) text) ∙ ap (λ (d : List ℕ). take (run text) text ++ d) behind
            ∙ ap (λ (p : List ℕ × List ℕ). p.0 ++ 39 ∷ p.1) pair,
        ap (λ (p : List ℕ × List ℕ). has_no_apostrophe p.0) (sym pair) ∙ run-passes other text,
      )
  | inr outside ↦ let none = rw outside at h in cc none
]

-- the two cuts of an extended value
pub record IsCut (text name : List ℕ) : Type 0 where
  pub charset : List ℕ
  pub rest : List ℕ
  pub language : List ℕ
  pub escaped : List ℕ
  pub first : cut_at_apostrophe text ≡ Some (charset, rest)
  pub second : cut_at_apostrophe rest ≡ Some (language, escaped)
  pub utf8 : str_eq_ignore_ascii_case charset (codes "UTF-8") ≡ true
  pub whole : HasWholeEscapes escaped
  pub reported : name ≡ percent_decode escaped

pub cuts : (text name : List ℕ) → IsExtended text name → IsCut text name
cuts text name is =
    let rest = is.language ++ 39 ∷ is.escaped in
    record {
      charset = is.charset;
      rest = rest;
      language = is.language;
      escaped = is.escaped;
      first = ap cut_at_apostrophe (is.written ∙ append_assoc is.charset (39 ∷ is.language) (39 ∷ is.escaped)) ∙ cut-complete is.charset rest is.before_language;
      second = cut-complete is.language is.escaped is.in_language;
      utf8 = is.utf8;
      whole = is.whole;
      reported = is.reported;
    }

pub extended : (text name : List ℕ) → IsCut text name → IsExtended text name
extended text name is =
    let one = cut-sound text is.charset is.rest is.first in
    let two = cut-sound is.rest is.language is.escaped is.second in
    record {
      charset = is.charset;
      language = is.language;
      escaped = is.escaped;
      written = one.0 ∙ ap (λ (t : List ℕ). is.charset ++ 39 ∷ t) two.0 ∙ sym (append_assoc is.charset (39 ∷ is.language) (39 ∷ is.escaped));
      utf8 = is.utf8;
      before_language = one.1;
      in_language = two.1;
      whole = is.whole;
      reported = is.reported;
    }

same_pair : (a b : List ℕ × List ℕ) (o : Option (List ℕ × List ℕ)) → o ≡ Some a → o ≡ Some b → a ≡ b
same_pair a b o h k = cc (h, k)

-- the cuts are those that were found
pub cut_is : (text name : List ℕ) (first second : List ℕ × List ℕ) (is : IsCut text name) → cut_at_apostrophe text ≡ Some first → cut_at_apostrophe first.1 ≡ Some second
    → (first.0 ≡ is.charset) × (second.1 ≡ is.escaped)
cut_is text name first second is h k =
    let one = same_pair first (is.charset, is.rest) (cut_at_apostrophe text) h is.first in
    let rest : cut_at_apostrophe is.rest ≡ Some second = ap (λ (p : List ℕ × List ℕ). cut_at_apostrophe p.1) (sym one) ∙ k in
    let two = same_pair second (is.language, is.escaped) (cut_at_apostrophe is.rest) rest is.second in
    (ap (λ p. p.0) one, ap (λ p. p.1) two)

-- an extended value has a second apostrophe
pub no_first : (text name : List ℕ) → IsExtended text name → cut_at_apostrophe text ≡ None → ⊥
no_first text name is none =
    let cut = cuts text name is in
    cc (cut.first, none)

pub no_second : (text name : List ℕ) (first : List ℕ × List ℕ) → IsExtended text name → cut_at_apostrophe text ≡ Some first → cut_at_apostrophe first.1 ≡ None → ⊥
no_second text name first is h none =
    let cut = cuts text name is in
    let one = same_pair first (cut.charset, cut.rest) (cut_at_apostrophe text) h cut.first in
    let two : cut_at_apostrophe first.1 ≡ Some (cut.language, cut.escaped) = ap (λ (p : List ℕ × List ℕ). cut_at_apostrophe p.1) one ∙ cut.second in
    cc (two, none)

-- what was found is as an extended value has it
pub as_extended : (text name : List ℕ) (first second : List ℕ × List ℕ) → IsExtended text name → cut_at_apostrophe text ≡ Some first → cut_at_apostrophe first.1 ≡ Some second
    → (str_eq_ignore_ascii_case first.0 (codes "UTF-8") ≡ true) × HasWholeEscapes second.1
as_extended text name first second is h k =
    let cut = cuts text name is in
    let same = cut_is text name first second cut h k in
    (ap (λ (t : List ℕ). str_eq_ignore_ascii_case t (codes "UTF-8")) same.0 ∙ cut.utf8, subst HasWholeEscapes (sym same.1) cut.whole)
