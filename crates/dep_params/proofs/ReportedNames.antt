-- The file name that a disposition tells as a function is the one that it gives.
use Rattle.std.proofs.Common.{◌≡◌, ◌∙◌, ◌<◌, ◌≤◌, ◌+◌, ◌==◌, ◌&&◌, ◌||◌, ℕ, zero, suc, Bool, true, false, not, nat_lt, List, length, slice_index, codes, Option, Some, None, option_and_then, refl, sym, ap, subst, arith, inl, inr, lt-ltb}
use Rattle.std.proofs.lemmas.Bool.{cases_Bool}
use Rattle.std.proofs.lemmas.Bool.Decides.{nat_tests}
use Rattle.std.specs.Char.{is_ascii_hexdigit}
use Rattle.std.specs.List.{list_all, range_with_len}
use Rattle.std.specs.Str.{str_eq_ignore_ascii_case}
use Rattle.percent_encoding.specs.Percent.{percent_decode}
use Rattle.dep_params.specs.Grammar.{DispositionValue, parameter_value}
use Rattle.dep_params.specs.Names.{HasTwoDigitsAfter, HasWholeEscapes, IsExtended, IsPreferredName, IsReportedName, IsFileName}
use Rattle.dep_types.specs.Names.{if_passes, is_good_name}
use Rattle.dep_params.specs.Reading.{cut_at_apostrophe}
use Rattle.dep_params.specs.Reported.{has_two_digits_after, is_whole_at, has_whole_escapes, name_escaped, name_behind, extended_name, reported_name, file_name_of}
use Rattle.dep_params.proofs.Runs.{and_both, chosen}
use Rattle.dep_params.proofs.Extended.{cuts, extended}

-- ---- a test at each place

all-sound : (p : ℕ → Bool) (a n i : ℕ) → list_all p (range_with_len a n) ≡ true → a ≤ i → i < a + n → p i ≡ true
all-sound p a zero i h low high = absurd (omega arith)
all-sound p a (suc n) i h low high =
    let both = and_both (p a) (list_all p (range_with_len (a + 1) n)) h in
    elim (cases_Bool (i == a)) [
      | inl here ↦ let same : i ≡ a = grind (arith, nat_tests) in rw same both.0
      | inr other ↦ all-sound p (a + 1) n i both.1 (grind (arith, nat_tests)) (omega arith)
    ]

all-complete : (p : ℕ → Bool) (a n : ℕ) → ((i : ℕ) → a ≤ i → i < a + n → p i ≡ true) → list_all p (range_with_len a n) ≡ true
all-complete p a zero f = refl
all-complete p a (suc n) f =
    rw (f a (omega arith) (omega arith), all-complete p (a + 1) n (λ i low high. f i (omega (arith, low)) (omega (arith, high)))) refl

digits-sound : (text : List ℕ) (i : ℕ) → has_two_digits_after text i ≡ true → HasTwoDigitsAfter text i
digits-sound text i h =
    let both = and_both (nat_lt (i + 2) (length text) && is_ascii_hexdigit (slice_index text (i + 1))) (is_ascii_hexdigit (slice_index text (i + 2))) h in
    let front = and_both (nat_lt (i + 2) (length text)) (is_ascii_hexdigit (slice_index text (i + 1))) both.0 in
    let within = front.0 in
    (grind (arith, nat_tests, within), front.1, both.1)

digits-complete : (text : List ℕ) (i : ℕ) → HasTwoDigitsAfter text i → has_two_digits_after text i ≡ true
digits-complete text i h = rw (lt-ltb _ _ h.0, h.1, h.2) refl

whole_here : (sign digits : Bool) → (not sign || digits) ≡ true → sign ≡ true → digits ≡ true
whole_here true digits h e = h
whole_here false digits h e = cc e

whole_or : (sign digits : Bool) → (sign ≡ true → digits ≡ true) → (not sign || digits) ≡ true
whole_or true digits f = f refl
whole_or false digits f = refl

same : (a b : ℕ) → (a == b) ≡ true → a ≡ b
same a b h = grind (arith, nat_tests)

escapes-sound : (text : List ℕ) → has_whole_escapes text ≡ true → HasWholeEscapes text
unfolding has_whole_escapes
escapes-sound text h i small sign =
    digits-sound text i (whole_here (slice_index text i == 37) (has_two_digits_after text i)
    (all-sound (is_whole_at text) 0 (length text) i h (omega arith) (omega (arith, small))) (rw sign refl))

escapes-complete : (text : List ℕ) → HasWholeEscapes text → has_whole_escapes text ≡ true
unfolding has_whole_escapes
escapes-complete text f =
    all-complete (is_whole_at text) 0 (length text) (λ i low high.
    whole_or (slice_index text i == 37) (has_two_digits_after text i) (λ sign. digits-complete text i (f i (omega (arith, high)) (same _ 37 sign))))

-- ---- extended names

extended-complete : (text name : List ℕ) → IsExtended text name → extended_name text ≡ Some name
extended-complete text name is =
    let cut = cuts text name is in
    rw (cut.first, cut.second, cut.utf8, escapes-complete cut.escaped cut.whole) (ap Some (sym cut.reported))

escaped-sound : (text name rest : List ℕ) (charset language escaped : List ℕ) → cut_at_apostrophe text ≡ Some (charset, rest) → cut_at_apostrophe rest ≡ Some (language, escaped)
    → name_escaped charset escaped ≡ Some name → IsExtended text name
escaped-sound text name rest charset language escaped first second h =
    elim (chosen (str_eq_ignore_ascii_case charset (codes "UTF-8") && has_whole_escapes escaped) _ _ (Some name) h) [
      | inl good ↦
          let both = and_both (str_eq_ignore_ascii_case charset (codes "UTF-8")) (has_whole_escapes escaped) good.0 in
          let reported : percent_decode escaped ≡ name = cc (good.1) in
          extended text name (record {
            charset = charset;
            rest = rest;
            language = language;
            escaped = escaped;
            first = first;
            second = second;
            utf8 = both.0;
            whole = escapes-sound escaped both.1;
            reported = sym reported;
          })
      | inr bad ↦ cc (bad.1)
    ]

behind-sound : (text name charset rest : List ℕ) (o : Option (List ℕ × List ℕ)) → cut_at_apostrophe text ≡ Some (charset, rest) → cut_at_apostrophe rest ≡ o
    → name_behind charset o ≡ Some name → IsExtended text name
behind-sound text name charset rest None first second h = cc h
behind-sound text name charset rest (Some x) first second h = escaped-sound text name rest charset x.0 x.1 first second h

cut-sound : (text name : List ℕ) (o : Option (List ℕ × List ℕ)) → cut_at_apostrophe text ≡ o
    → option_and_then (λ first. name_behind first.0 (cut_at_apostrophe first.1)) o ≡ Some name → IsExtended text name
cut-sound text name None first h = cc h
cut-sound text name (Some x) first h = behind-sound text name x.0 x.1 (cut_at_apostrophe x.1) first refl h

-- ---- file names

reported-sound : (star plain : Option (List ℕ)) (name : List ℕ) → reported_name star plain ≡ Some name → IsPreferredName star plain name
reported-sound (Some text) plain name h = cut-sound text name (cut_at_apostrophe text) refl h
reported-sound None (Some plain) name h = cc h
reported-sound None None name h = cc h

reported-complete : (star plain : Option (List ℕ)) (name : List ℕ) → IsPreferredName star plain name → reported_name star plain ≡ Some name
reported-complete (Some text) plain name is = extended-complete text name is
reported-complete None (Some plain) name is = ap Some (sym is)
reported-complete None None name is = absurd is

-- so the parameters give one name at most
pub same_name : (reading : DispositionValue) (a b : List ℕ) → IsReportedName reading a → IsReportedName reading b → a ≡ b
same_name reading a b is has =
    let star = parameter_value (codes "filename*") reading in
    let plain = parameter_value (codes "filename") reading in
    cc (reported-complete star plain a is, reported-complete star plain b has)

good-sound : (star plain : Option (List ℕ)) (name : List ℕ) (o : Option (List ℕ)) → reported_name star plain ≡ o → option_and_then (if_passes is_good_name) o ≡ Some name
    → IsPreferredName star plain name × (is_good_name name ≡ true)
good-sound star plain name None reported h = cc h
good-sound star plain name (Some other) reported h = elim (chosen (is_good_name other) _ _ (Some name) h) [
  | inl good ↦
      let is : other ≡ name = cc (good.1) in
      (subst (IsPreferredName star plain) is (reported-sound star plain other reported), subst (λ (n : List ℕ). is_good_name n ≡ true) is good.0)
  | inr bad ↦ cc (bad.1)
]

pub file_name-sound : (reading : DispositionValue) (name : List ℕ) → file_name_of reading ≡ Some name → IsFileName reading name
unfolding file_name_of
file_name-sound reading name h =
    let both = good-sound (parameter_value (codes "filename*") reading) (parameter_value (codes "filename") reading) name _ refl h in
    record { reported = both.0; good = both.1 }

pub file_name-complete : (reading : DispositionValue) (name : List ℕ) → IsFileName reading name → file_name_of reading ≡ Some name
unfolding file_name_of
file_name-complete reading name is =
    ap (option_and_then (if_passes is_good_name)) (reported-complete (parameter_value (codes "filename*") reading) (parameter_value (codes "filename") reading) name is.reported)
    ∙ rw is.good refl
