-- The disposition that a text tells as a function is the one that its grammar has.
use Rattle.std.proofs.Common.{◌≡◌, ◌∙◌, ◌<◌, ◌==◌, ℕ, zero, suc, true, false, not, List, [], ◌∷◌, length, take, drop, bytes_eq, Option, Some, None, option_map, refl, sym, ap, subst, arith, inl, inr, ne_eqb}
use Rattle.std.specs.List.{IsDistinct, AllByRecursion, list_all}
use Rattle.dep_params.specs.Grammar.{AreParameters, IsDisposition, NamedValue, DispositionValue}
use Rattle.dep_params.specs.Reading.{parameter_read, semicolon_read, token_len}
use Rattle.dep_params.specs.Reported.{at_slot, with_parameter, parameters_read, parameters_of, with_form, disposition_of, is_each_once}
use Rattle.dep_params.proofs.Runs.{and_both, not_is, chosen}
use Rattle.dep_params.proofs.Values.{parameter_read-sound}
use Rattle.dep_params.proofs.Slots.{First, Ends, Passes, Takes, first, parameters-end, parameters-empty, parameters-holds, semicolon-shorter, parameter-shorter}
use Rattle.dep_params.proofs.Dispositions.{split, joined}

named : (n : ℕ) → (n == 0) ≡ false → n ≡ 0 → ⊥
named n other none = let same : (n == 0) ≡ true = rw none refl in cc (same, other)

-- ---- parameters that are read are there

module _ (more : List ℕ → Option (List NamedValue)) (later : (text : List ℕ) (ps : List NamedValue) → more text ≡ Some ps → AreParameters text ps) where
  tail-sound : (text r rest : List ℕ) (p : NamedValue) (ps : List NamedValue) (o : Option (List NamedValue)) → semicolon_read text ≡ Some (Some r) → (token_len r ≡ 0 → ⊥)
      → parameter_read r ≡ Some (p, rest) → more rest ≡ o → option_map (λ qs. p ∷ qs) o ≡ Some ps → AreParameters text ps
  tail-sound text r rest p ps None found some read is h = cc h
  tail-sound text r rest p ps (Some qs) found some read is h =
      let same : p ∷ qs ≡ ps = cc h in
      subst (AreParameters text) same (parameters-holds text r rest p qs found (parameter_read-sound r (p, rest) some read) (later rest qs is))

  held-sound : (text r : List ℕ) (ps : List NamedValue) (o : Option (NamedValue × List ℕ)) → semicolon_read text ≡ Some (Some r) → (token_len r ≡ 0 → ⊥)
      → parameter_read r ≡ o → with_parameter more o ≡ Some ps → AreParameters text ps
  held-sound text r ps None found some read h = cc h
  held-sound text r ps (Some x) found some read h = tail-sound text r x.1 x.0 ps (more x.1) found some read refl h

  place-sound : (text : List ℕ) (ps : List NamedValue) (o : Option (Option (List ℕ))) → semicolon_read text ≡ o → at_slot more o ≡ Some ps → AreParameters text ps
  place-sound text ps None found h = cc h
  place-sound text ps (Some None) found h =
      let same : [] ≡ ps = cc h in
      subst (AreParameters text) same (parameters-end text found)
  place-sound text ps (Some (Some r)) found h = elim (chosen (token_len r == 0) _ _ (Some ps) h) [
    | inl none ↦ parameters-empty text r ps found (later r ps none.1)
    | inr some ↦ held-sound text r ps (parameter_read r) found (named (token_len r) some.0) refl some.1
  ]

pub parameters-sound : (n : ℕ) (text : List ℕ) (ps : List NamedValue) → parameters_read n text ≡ Some ps → AreParameters text ps
unfolding parameters_read
parameters-sound zero text ps h = cc h
parameters-sound (suc n) text ps h = place-sound (parameters_read n) (parameters-sound n) text ps (semicolon_read text) refl h

-- ---- and those that are there are read

place-complete : (n : ℕ) (text : List ℕ) (ps : List NamedValue)
    → ((rest : List ℕ) (more : List NamedValue) → length rest < length text → AreParameters rest more → parameters_read n rest ≡ Some more)
    → First text ps → at_slot (parameters_read n) (semicolon_read text) ≡ Some ps
place-complete n text ps later (Ends e none) = ap (at_slot (parameters_read n)) e ∙ ap Some (sym none)
place-complete n text ps later (Passes r e none rest) =
    ap (at_slot (parameters_read n)) e ∙ rw none (later r ps (semicolon-shorter text r e) rest)
place-complete n text ps later (Takes r rest p more e some read reported left) =
    let first = semicolon-shorter text r e in
    let second = parameter-shorter r rest p some read in
    ap (at_slot (parameters_read n)) e
    ∙ rw (ne_eqb (token_len r) 0 some, read, later rest more (omega (arith, first, second)) left) (ap Some (sym reported))

pub parameters-complete : (n : ℕ) (text : List ℕ) (ps : List NamedValue) → length text < n → AreParameters text ps → parameters_read n text ≡ Some ps
unfolding parameters_read
parameters-complete zero text ps small is = absurd (omega arith)
parameters-complete (suc n) text ps small is =
    place-complete n text ps (λ rest more shorter has. parameters-complete n rest more (omega (arith, small, shorter)) has) (first text ps is)

-- ---- dispositions

form-sound : (text : List ℕ) (reading : DispositionValue) (o : Option (List NamedValue)) → (token_len text ≡ 0 → ⊥) → parameters_of (drop (token_len text) text) ≡ o
    → option_map (with_form (take (token_len text) text)) o ≡ Some reading → IsDisposition text reading
form-sound text reading None some is h = cc h
form-sound text reading (Some ps) some is h =
    let same : with_form (take (token_len text) text) ps ≡ reading = cc h in
    subst (IsDisposition text) same (joined text (with_form (take (token_len text) text) ps)
    (record { named = some; form = refl; parameters = parameters-sound _ _ ps is }))

pub reading-sound : (text : List ℕ) (reading : DispositionValue) → disposition_of text ≡ Some reading → IsDisposition text reading
unfolding disposition_of
reading-sound text reading h = elim (chosen (token_len text == 0) _ _ (Some reading) h) [
  | inl none ↦ cc (none.1)
  | inr some ↦ form-sound text reading (parameters_of (drop (token_len text) text)) (named (token_len text) some.0) refl some.1
]

short : (n : ℕ) → n < suc n
short n = omega arith

pub reading-complete : (text : List ℕ) (reading : DispositionValue) → IsDisposition text reading → disposition_of text ≡ Some reading
unfolding disposition_of
reading-complete text reading is =
    let whole = split text reading is in
    let rest = drop (token_len text) text in
    let read = parameters-complete (suc (length rest)) rest reading.parameters (short (length rest)) whole.parameters in
    rw (ne_eqb (token_len text) 0 whole.named, read)
    (ap (λ (f : List ℕ). Some (let r : DispositionValue = record { form = f; parameters = reading.parameters } in r)) (sym whole.form))

-- so two readings of a text are the same
pub same_reading : (text : List ℕ) (a b : DispositionValue) → IsDisposition text a → IsDisposition text b → a ≡ b
same_reading text a b is has = cc (reading-complete text a is, reading-complete text b has)

-- ---- names that stand once

apart-sound : (name : List ℕ) (names : List (List ℕ)) → list_all (λ other. not (bytes_eq name other)) names ≡ true → AllByRecursion (λ other. bytes_eq name other ≡ false) names
apart-sound name [] h = tt
apart-sound name (other ∷ names) h =
    let both = and_both (not (bytes_eq name other)) (list_all (λ other. not (bytes_eq name other)) names) h in
    (not_is (bytes_eq name other) both.0, apart-sound name names both.1)

apart-complete : (name : List ℕ) (names : List (List ℕ)) → AllByRecursion (λ other. bytes_eq name other ≡ false) names → list_all (λ other. not (bytes_eq name other)) names ≡ true
apart-complete name [] h = refl
apart-complete name (other ∷ names) h = rw (h.0, apart-complete name names h.1) refl

pub once-sound : (names : List (List ℕ)) → is_each_once names ≡ true → IsDistinct bytes_eq names
unfolding is_each_once IsDistinct
once-sound [] h = tt
once-sound (name ∷ names) h =
    let both = and_both (list_all (λ other. not (bytes_eq name other)) names) (is_each_once names) h in
    (apart-sound name names both.0, once-sound names both.1)

pub once-complete : (names : List (List ℕ)) → IsDistinct bytes_eq names → is_each_once names ≡ true
unfolding is_each_once IsDistinct
once-complete [] h = refl
once-complete (name ∷ names) h = rw (apart-complete name names h.0, once-complete names h.1) refl
