-- What stands at the front of parameters, and what follows it.
use Rattle.std.proofs.Common.{◌≡◌, ◌<◌, ◌≤◌, Result, Ok, Err, ◌==◌, ◌∙◌, ◌⊎◌, nat_lt, eq-eqb, ℕ, Bool, true, false, List, [], ◌∷◌, ◌++◌, length, take, drop, Some, None, refl, sym, ap, subst, arith, inl, inr, append_assoc, append-nil, length-append}
use Rattle.std.proofs.lemmas.Bool.{cases_Bool}
use Rattle.std.proofs.lemmas.List.{take-append-drop}
use Rattle.std.proofs.lemmas.List.Folds.{length-prefix_len}
use Rattle.std.specs.List.{list_all, flat_map, filter_map, prefix_len, AllByRecursion}
use Rattle.std.specs.Result.{IsErrAnd, IfErr}
use Rattle.std.specs.Str.{str_to_ascii_lowercase}
use Rattle.dep_octets.specs.Octets.{is_token, is_token_octet, is_blank, trim_start}
use Rattle.dep_params.specs.Grammar.{NamedValue, value_text, value_octets, is_bare_octet, ParameterSlot, Empty, Holds, IsSlot, slot_text, slot_parameter, are_blanks, AreParameters}
use Rattle.dep_params.specs.Reading.{IsReadingFault, RefusesParameters, at_semicolon, semicolon_read, token_len, parameter_read, named, behind_name}
use Rattle.dep_params.specs.declared.disposition.ParamFault.{ParamFault}
use Rattle.dep_params.specs.declared.disposition.ParamFault.TheVariants.{Malformed, Repeated, NoName, Memory}
use Rattle.dep_params.proofs.Runs.{and_both, same_number, chosen, drop-run, run-passes}
use Rattle.dep_params.proofs.Values.{IsParameter, parameter_read-sound, parameter_read-complete}

semicolon-found : (t r : List ℕ) → at_semicolon t ≡ Some (Some r) → (x : List ℕ) × (t ≡ 59 ∷ x) × (r ≡ trim_start x)
semicolon-found [] r h = cc h
semicolon-found (b ∷ x) r h = elim (chosen (b == 59) _ _ (Some (Some r)) h) [
  | inl semicolon ↦
      let same : r ≡ trim_start x = cc (semicolon.1) in
      (x, ap (λ n. n ∷ x) (same_number b 59 semicolon.0), same)
  | inr other ↦ cc (other.1)
]

semicolon-none : (t : List ℕ) → at_semicolon t ≡ Some None → t ≡ []
semicolon-none [] h = refl
semicolon-none (b ∷ x) h = elim (chosen (b == 59) _ _ (Some None) h) [
  | inl semicolon ↦ cc (semicolon.1)
  | inr other ↦ cc (other.1)
]

blank_cases : (b : ℕ) → is_blank b ≡ true → (b ≡ 32) ⊎ (b ≡ 9)
blank_cases b h = elim (cases_Bool (b == 32)) [
  | inl space ↦ inl (same_number b 32 space)
  | inr other ↦ inr (same_number b 9 (rw other at h))
]

blank_not_bare : (b : ℕ) → is_blank b ≡ true → is_bare_octet b ≡ false
blank_not_bare b h = elim (blank_cases b h) [ inl space ↦ rw space refl | inr tab ↦ rw tab refl ]

blank_not_token : (b : ℕ) → is_blank b ≡ true → is_token_octet b ≡ false
blank_not_token b h = elim (blank_cases b h) [ inl space ↦ rw space refl | inr tab ↦ rw tab refl ]

token_not_blank : (b : ℕ) → is_token_octet b ≡ true → is_blank b ≡ false
token_not_blank b h = elim (cases_Bool (is_blank b)) [
  | inl blank ↦ let other = blank_not_token b blank in cc (h, other)
  | inr other ↦ other
]

-- a text that begins with an octet of a token begins with no blank
token_first : (name rest : List ℕ) → is_token name ≡ true → prefix_len is_blank (name ++ rest) ≡ 0
token_first [] rest h = cc h
token_first (b ∷ name) rest h =
    let all = (and_both (nat_lt 0 (length (b ∷ name))) (list_all is_token_octet (b ∷ name)) h).1 in
    let first = (and_both (is_token_octet b) (list_all is_token_octet name) all).0 in
    rw (token_not_blank b first) refl

trim_all : (text : List ℕ) → are_blanks text ≡ true → trim_start text ≡ []
trim_all text h = let e = drop-run is_blank text [] h in rw append-nil at e

trim_blanks : (blanks rest : List ℕ) → are_blanks blanks ≡ true → trim_start (blanks ++ rest) ≡ trim_start rest
trim_blanks blanks rest h = drop-run is_blank blanks rest h

trim_token : (name rest : List ℕ) → is_token name ≡ true → trim_start (name ++ rest) ≡ name ++ rest
trim_token name rest h = rw (token_first name rest h) refl

-- the text is its blanks and what follows them
blanks_first : (text : List ℕ) → text ≡ take (prefix_len is_blank text) text ++ trim_start text
blanks_first text = sym (take-append-drop (prefix_len is_blank text) text)

-- no token and no bare value begins with blanks, with a semicolon or at the end
pub record IsStop (text : List ℕ) : Type 0 where
  pub token : prefix_len is_token_octet text ≡ 0
  pub bare : prefix_len is_bare_octet text ≡ 0

stops : (blanks rest : List ℕ) → are_blanks blanks ≡ true → IsStop rest → IsStop (blanks ++ rest)
stops [] rest h stop = stop
stops (b ∷ blanks) rest h stop =
    let first = (and_both (is_blank b) (are_blanks blanks) h).0 in
    record { token = rw (blank_not_token b first) refl; bare = rw (blank_not_bare b first) refl }

stop-end : IsStop []
stop-end = record { token = refl; bare = refl }

stop-semicolon : (rest : List ℕ) → IsStop (59 ∷ rest)
stop-semicolon rest = record { token = refl; bare = refl }

empty_text : (before after more last : List ℕ) → ((before ++ 59 ∷ after) ++ more) ++ last ≡ before ++ (59 ∷ (after ++ (more ++ last)))
empty_text before after more last = simp append_assoc

holds_text : (before after name value more last : List ℕ)
    → ((((before ++ 59 ∷ after) ++ name) ++ 61 ∷ value) ++ more) ++ last ≡ before ++ (59 ∷ (after ++ (name ++ (61 ∷ (value ++ (more ++ last))))))
holds_text before after name value more last =
    let start = before ++ 59 ∷ after in
    let end = more ++ last in
    append_assoc ((start ++ name) ++ 61 ∷ value) more last
    ∙ append_assoc (start ++ name) (61 ∷ value) end
    ∙ append_assoc start name (61 ∷ (value ++ end))
    ∙ append_assoc before (59 ∷ after) (name ++ (61 ∷ (value ++ end)))

-- parameters without the blanks in front of them
pub record IsPrefix (text : List ℕ) (ps : List NamedValue) : Type 0 where
  pub stop : IsStop text
  pub none : token_len (trim_start text) ≡ 0
  pub trimmed : AreParameters (trim_start text) ps

front_of : (text : List ℕ) (ps : List NamedValue) (slots : List ParameterSlot) (last : List ℕ) → AllByRecursion IsSlot slots → are_blanks last ≡ true
    → text ≡ flat_map slot_text slots ++ last → ps ≡ filter_map slot_parameter slots → IsPrefix text ps
front_of text ps [] last formed blank written reported =
    let trimmed : trim_start text ≡ [] = ap trim_start written ∙ trim_all last blank in
    let stop = stops last [] blank stop-end in
    record {
      stop = subst IsStop (ap (λ t. t) (append-nil last) ∙ sym written) stop;
      none = ap token_len trimmed;
      trimmed = record { slots = []; last = []; well_formed = tt; blank = refl; written = trimmed; reported = reported };
    }
front_of text ps (Empty before after ∷ more) last formed blank written reported =
    let tail = flat_map slot_text more ++ last in
    let is = written ∙ empty_text before after (flat_map slot_text more) last in
    let trimmed : trim_start text ≡ 59 ∷ (after ++ tail) = ap trim_start is ∙ trim_blanks before (59 ∷ (after ++ tail)) formed.0.0 in
    record {
      stop = subst IsStop (sym is) (stops before (59 ∷ (after ++ tail)) formed.0.0 (stop-semicolon (after ++ tail)));
      none = ap token_len trimmed;
      trimmed = record {
        slots = Empty [] after ∷ more;
        last = last;
        well_formed = ((refl, formed.0.1), formed.1);
        blank = blank;
        written = trimmed ∙ sym (empty_text [] after (flat_map slot_text more) last);
        reported = reported;
      };
    }
front_of text ps (Holds before after name value ∷ more) last formed blank written reported =
    let tail = flat_map slot_text more ++ last in
    let behind = after ++ (name ++ (61 ∷ (value_text value ++ tail))) in
    let is = written ∙ holds_text before after name (value_text value) (flat_map slot_text more) last in
    let trimmed : trim_start text ≡ 59 ∷ behind = ap trim_start is ∙ trim_blanks before (59 ∷ behind) formed.0.0 in
    record {
      stop = subst IsStop (sym is) (stops before (59 ∷ behind) formed.0.0 (stop-semicolon behind));
      none = ap token_len trimmed;
      trimmed = record {
        slots = Holds [] after name value ∷ more;
        last = last;
        well_formed = ((refl, formed.0.1, formed.0.2, formed.0.3), formed.1);
        blank = blank;
        written = trimmed ∙ sym (holds_text [] after name (value_text value) (flat_map slot_text more) last);
        reported = reported;
      };
    }

pub front : (text : List ℕ) (ps : List NamedValue) → AreParameters text ps → IsPrefix text ps
front text ps h = front_of text ps h.slots h.last h.well_formed h.blank h.written h.reported

-- the end, a semicolon with nothing behind it, or one with a parameter
pub data First (text : List ℕ) (ps : List NamedValue) : Type 0 where
  Ends : semicolon_read text ≡ Some None → ps ≡ [] → First text ps
  Passes : (r : List ℕ) → semicolon_read text ≡ Some (Some r) → token_len r ≡ 0 → AreParameters r ps → First text ps
  Takes : (r rest : List ℕ) (p : NamedValue) (more : List NamedValue) → semicolon_read text ≡ Some (Some r) → (token_len r ≡ 0 → ⊥)
      → parameter_read r ≡ Some (p, rest) → ps ≡ p ∷ more → AreParameters rest more → First text ps

pub name_length : (name rest : List ℕ) → is_token name ≡ true → token_len (name ++ rest) ≡ 0 → ⊥
name_length [] rest h none = cc h
name_length (b ∷ name) rest h none =
    let all = (and_both (nat_lt 0 (length (b ∷ name))) (list_all is_token_octet (b ∷ name)) h).1 in
    let first = (and_both (is_token_octet b) (list_all is_token_octet name) all).0 in
    let size = rw first at none in
    omega (arith, size)

first_of : (text : List ℕ) (ps : List NamedValue) (slots : List ParameterSlot) (last : List ℕ) → AllByRecursion IsSlot slots → are_blanks last ≡ true
    → text ≡ flat_map slot_text slots ++ last → ps ≡ filter_map slot_parameter slots → First text ps
unfolding semicolon_read
first_of text ps [] last formed blank written reported =
    let trimmed : trim_start text ≡ [] = ap trim_start written ∙ trim_all last blank in
    Ends (ap at_semicolon trimmed) reported
first_of text ps (Empty before after ∷ more) last formed blank written reported =
    let tail = flat_map slot_text more ++ last in
    let is = written ∙ empty_text before after (flat_map slot_text more) last in
    let trimmed : trim_start text ≡ 59 ∷ (after ++ tail) = ap trim_start is ∙ trim_blanks before (59 ∷ (after ++ tail)) formed.0.0 in
    let rest : AreParameters tail ps = record { slots = more; last = last; well_formed = formed.1; blank = blank; written = refl; reported = reported } in
    let fronted = front tail ps rest in
    Passes (trim_start tail) (ap at_semicolon trimmed ∙ ap (λ r. Some (Some r)) (trim_blanks after tail formed.0.1)) fronted.none fronted.trimmed
first_of text ps (Holds before after name value ∷ more) last formed blank written reported =
    let tail = flat_map slot_text more ++ last in
    let inner = name ++ (61 ∷ (value_text value ++ tail)) in
    let is = written ∙ holds_text before after name (value_text value) (flat_map slot_text more) last in
    let trimmed : trim_start text ≡ 59 ∷ (after ++ inner) = ap trim_start is ∙ trim_blanks before (59 ∷ (after ++ inner)) formed.0.0 in
    let others = filter_map slot_parameter more in
    let rest : AreParameters tail others = record { slots = more; last = last; well_formed = formed.1; blank = blank; written = refl; reported = refl } in
    let fronted = front tail others rest in
    let behind : trim_start (after ++ inner) ≡ inner = trim_blanks after inner formed.0.1 ∙ trim_token name (61 ∷ (value_text value ++ tail)) formed.0.2 in
    Takes inner tail _ others (ap at_semicolon trimmed ∙ ap (λ r. Some (Some r)) behind) (name_length name _ formed.0.2)
    (parameter_read-complete name value tail formed.0.2 formed.0.3 fronted.stop.bare) reported rest

pub first : (text : List ℕ) (ps : List NamedValue) → AreParameters text ps → First text ps
first text ps h = first_of text ps h.slots h.last h.well_formed h.blank h.written h.reported

pub parameters-end : (text : List ℕ) → semicolon_read text ≡ Some None → AreParameters text []
unfolding semicolon_read
parameters-end text h =
    let none : trim_start text ≡ [] = semicolon-none (trim_start text) h in
    let same : take (prefix_len is_blank text) text ≡ text = sym (append-nil _) ∙ ap (λ t. take (prefix_len is_blank text) text ++ t) (sym none) ∙ sym (blanks_first text) in
    record {
      slots = [];
      last = text;
      well_formed = tt;
      blank = subst (λ (t : List ℕ). are_blanks t ≡ true) same (run-passes is_blank text);
      written = refl;
      reported = refl;
    }

-- the text is blanks, a semicolon, blanks and the rest
semicolon-text : (text r : List ℕ) → semicolon_read text ≡ Some (Some r)
    → (before : List ℕ) × (after : List ℕ) × (are_blanks before ≡ true) × (are_blanks after ≡ true) × (text ≡ before ++ (59 ∷ (after ++ r)))
unfolding semicolon_read
semicolon-text text r h =
    let found = semicolon-found (trim_start text) r h in
    let before = take (prefix_len is_blank text) text in
    let after = take (prefix_len is_blank found.0) found.0 in (
      before,
      after,
      run-passes is_blank text,
      run-passes is_blank found.0,
      blanks_first text ∙ ap (λ t. before ++ t) (found.1 ∙ ap (λ t. 59 ∷ t) (blanks_first found.0 ∙ ap (λ t. after ++ t) (sym found.2))),
    )

pub semicolon-shorter : (text r : List ℕ) → semicolon_read text ≡ Some (Some r) → length r < length text
semicolon-shorter text r h =
    let found = semicolon-text text r h in
    let size = ap length found.4 in
    let whole = simp length-append at size in
    omega (arith, whole)

pub parameters-empty : (text r : List ℕ) (ps : List NamedValue) → semicolon_read text ≡ Some (Some r) → AreParameters r ps → AreParameters text ps
parameters-empty text r ps h rest =
    let found = semicolon-text text r h in
    record {
      slots = Empty found.0 found.1 ∷ rest.slots;
      last = rest.last;
      well_formed = ((found.2, found.3), rest.well_formed);
      blank = rest.blank;
      written = found.4 ∙ ap (λ t. found.0 ++ (59 ∷ (found.1 ++ t))) rest.written ∙ sym (empty_text found.0 found.1 (flat_map slot_text rest.slots) rest.last);
      reported = rest.reported;
    }

pub parameters-holds : (text r rest : List ℕ) (p : NamedValue) (ps : List NamedValue) → semicolon_read text ≡ Some (Some r) → IsParameter r p rest
    → AreParameters rest ps → AreParameters text (p ∷ ps)
parameters-holds text r rest p ps h is more =
    let found = semicolon-text text r h in
    let q : NamedValue = record { name = str_to_ascii_lowercase is.name; value = value_octets is.value } in
    record {
      slots = Holds found.0 found.1 is.name is.value ∷ more.slots;
      last = more.last;
      well_formed = ((found.2, found.3, is.token, is.good), more.well_formed);
      blank = more.blank;
      written = found.4 ∙ ap (λ t. found.0 ++ (59 ∷ (found.1 ++ t))) (is.written ∙ ap (λ t. is.name ++ (61 ∷ (value_text is.value ++ t))) more.written)
          ∙ sym (holds_text found.0 found.1 is.name (value_text is.value) (flat_map slot_text more.slots) more.last);
      reported = ap (λ q. q ∷ ps) is.reported ∙ ap (λ qs. q ∷ qs) more.reported;
    }

same_rest : (text a b : List ℕ) → semicolon_read text ≡ Some (Some a) → semicolon_read text ≡ Some (Some b) → a ≡ b
same_rest text a b h k = cc (h, k)

-- the parameters that are left behind a place
pub empty-left : (text r : List ℕ) (ps : List NamedValue) → semicolon_read text ≡ Some (Some r) → token_len r ≡ 0 → AreParameters text ps
    → (more : List NamedValue) × AreParameters r more
empty-left text r ps h none is = elim (first text ps is) [
  | Ends e _ ↦ cc (e, h)
  | Passes a e _ rest ↦ (ps, subst (λ (t : List ℕ). AreParameters t ps) (same_rest text a r e h) rest)
  | Takes a rest p more e some read _ left ↦ absurd (some (ap token_len (same_rest text a r e h) ∙ none))
]

pub holds-left : (text r rest : List ℕ) (p : NamedValue) (ps : List NamedValue) → semicolon_read text ≡ Some (Some r) → (token_len r ≡ 0 → ⊥)
    → parameter_read r ≡ Some (p, rest) → AreParameters text ps → (more : List NamedValue) × AreParameters rest more
holds-left text r rest p ps h some read is = elim (first text ps is) [
  | Ends e _ ↦ cc (e, h)
  | Passes a e none _ ↦ absurd (some (ap token_len (sym (same_rest text a r e h)) ∙ none))
  | Takes a tail q more e _ found _ left ↦
      let again : parameter_read r ≡ Some (q, tail) = ap parameter_read (sym (same_rest text a r e h)) ∙ found in
      let pair : ◌≡◌ {A = NamedValue × List ℕ} (q, tail) (p, rest) = cc (again, read) in
      let same : tail ≡ rest = ap (λ z. z.1) pair in
      (more, subst (λ (t : List ℕ). AreParameters t more) same left)
]

pub no-semicolon : (text : List ℕ) (ps : List NamedValue) → semicolon_read text ≡ None → AreParameters text ps → ⊥
no-semicolon text ps h is = elim (first text ps is) [
  | Ends e _ ↦ cc (e, h)
  | Passes a e none _ ↦ cc (e, h)
  | Takes a tail q more e _ found _ left ↦ cc (e, h)
]

pub no-parameter : (text r : List ℕ) (ps : List NamedValue) → semicolon_read text ≡ Some (Some r) → (token_len r ≡ 0 → ⊥)
    → parameter_read r ≡ None → AreParameters text ps → ⊥
no-parameter text r ps h some read is = elim (first text ps is) [
  | Ends e _ ↦ cc (e, h)
  | Passes a e none _ ↦ some (ap token_len (sym (same_rest text a r e h)) ∙ none)
  | Takes a tail q more e _ found _ left ↦
      let again : parameter_read r ≡ Some (q, tail) = ap parameter_read (sym (same_rest text a r e h)) ∙ found in
      cc (again, read)
]

pub parameter-shorter : (text rest : List ℕ) (p : NamedValue) → (token_len text ≡ 0 → ⊥) → parameter_read text ≡ Some (p, rest) → length rest ≤ length text
parameter-shorter text rest p some h =
    let is = parameter_read-sound text (p, rest) some h in
    let size = ap length is.written in
    let whole = simp length-append at size in
    omega (arith, whole)

-- what one place means for the parameters before it and behind it
pub refuses-semicolon : (text rest : List ℕ) (e : ParamFault) → ((ps : List NamedValue) → AreParameters text ps → (more : List NamedValue) × AreParameters rest more)
    → IsReadingFault e (semicolon_read rest) → RefusesParameters text e
refuses-semicolon text rest Malformed left h = λ ps is. let more = left ps is in no-semicolon rest more.0 h more.1
refuses-semicolon text rest Repeated left h = h
refuses-semicolon text rest NoName left h = h
refuses-semicolon text rest Memory left h = h

pub refuses-parameter : (text rest r : List ℕ) (e : ParamFault) → ((ps : List NamedValue) → AreParameters text ps → (more : List NamedValue) × AreParameters rest more)
    → semicolon_read rest ≡ Some (Some r) → (token_len r ≡ 0 → ⊥) → IsReadingFault e (parameter_read r) → RefusesParameters text e
refuses-parameter text rest r Malformed left found some h = λ ps is. let more = left ps is in no-parameter rest r more.0 found some h more.1
refuses-parameter text rest r Repeated left found some h = h
refuses-parameter text rest r NoName left found some h = h
refuses-parameter text rest r Memory left found some h = h

-- whether the first token of a text is empty
pub is_named : (text first : List ℕ) (empty : Bool) → first ≡ take (token_len text) text → empty ≡ (length first == 0) → empty ≡ false → token_len text ≡ 0 → ⊥
is_named text first empty is test not_empty none =
    let size : length first ≡ 0 = ap length is ∙ length-prefix_len is_token_octet text ∙ none in
    let holds : empty ≡ true = test ∙ eq-eqb _ _ size in
    cc (holds, not_empty)

pub is_unnamed : (text first : List ℕ) (empty : Bool) → first ≡ take (token_len text) text → empty ≡ (length first == 0) → empty ≡ true → token_len text ≡ 0
is_unnamed text first empty is test holds =
    let size : length first ≡ 0 = same_number (length first) 0 (sym test ∙ holds) in
    sym (length-prefix_len is_token_octet text) ∙ sym (ap length is) ∙ size

-- a parameter is read behind the token that is its name
pub parameter-behind : (text name behind : List ℕ) → name ≡ take (token_len text) text → behind ≡ drop (token_len text) text
    → named name (behind_name behind) ≡ parameter_read text
unfolding parameter_read
parameter-behind text name behind is rest =
    ap (λ (n : List ℕ). named n (behind_name behind)) is ∙ ap (λ (d : List ℕ). named (take (token_len text) text) (behind_name d)) rest

pub refused_by : {A : Type 0} (result : Result A ParamFault) (text : List ℕ) (e : ParamFault) → IsErrAnd result (λ f. f ≡ e) → RefusesParameters text e → IfErr result (RefusesParameters text)
refused_by (Ok a) text e h is = tt
refused_by (Err f) text e h is = subst (RefusesParameters text) (sym h) is
