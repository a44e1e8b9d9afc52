-- The type of a disposition, and its parameters behind it.
use Rattle.std.proofs.Common.{◌≡◌, ◌∙◌, ℕ, List, [], ◌∷◌, true, nat_lt, length, take, drop, map, refl, sym, ap, subst, ne_eqb}
use Rattle.std.proofs.Math.Seq.{drop-append_seam, take-append_seam}
use Rattle.std.proofs.lemmas.List.{take-append-drop}
use Rattle.std.proofs.lemmas.List.Folds.{length-prefix_len}
use Rattle.std.specs.List.{list_all}
use Rattle.std.specs.Str.{str_to_ascii_lowercase}
use Rattle.dep_octets.specs.Octets.{is_token_octet}
use Rattle.dep_params.specs.Grammar.{AreParameters, IsDisposition, NamedValue, DispositionValue}
use Rattle.dep_params.specs.Reading.{token_len}
use Rattle.dep_params.specs.Stored.{views}
use Rattle.dep_params.specs.declared.disposition.Parameter.{Parameter}
use Rattle.dep_params.proofs.Runs.{and_both, prefix_len-stopped, run-passes}
use Rattle.dep_params.proofs.Values.{is_some}
use Rattle.dep_params.proofs.Slots.{front, name_length}

pub names-views : (ps : List Parameter) → map (λ (p : NamedValue). p.name) (views ps) ≡ map (λ p. p.name.items) ps
names-views [] = refl
names-views (p ∷ ps) = ap (λ (l : List (List ℕ)). p.name.items ∷ l) (names-views ps)

-- what a disposition says of the first token of its text and of what follows it
pub record IsSplit (text : List ℕ) (reading : DispositionValue) : Type 0 where
  pub named : token_len text ≡ 0 → ⊥
  pub form : reading.form ≡ str_to_ascii_lowercase (take (token_len text) text)
  pub parameters : AreParameters (drop (token_len text) text) reading.parameters

pub split : (text : List ℕ) (reading : DispositionValue) → IsDisposition text reading → IsSplit text reading
split text reading is =
    let both = and_both (nat_lt 0 (length is.form)) (list_all is_token_octet is.form) is.token in
    let stops = (front is.rest reading.parameters is.parameters).stop.token in
    let size : token_len text ≡ length is.form = ap token_len is.written ∙ prefix_len-stopped is_token_octet is.form is.rest both.1 stops in
    let first : take (token_len text) text ≡ is.form = ap (λ (n : ℕ). take n text) size ∙ ap (λ (t : List ℕ). take (length is.form) t) is.written ∙ take-append_seam is.form is.rest in
    let rest : drop (token_len text) text ≡ is.rest = ap (λ (n : ℕ). drop n text) size ∙ ap (λ (t : List ℕ). drop (length is.form) t) is.written ∙ drop-append_seam is.form is.rest in
    record {
      named = λ none. name_length is.form is.rest is.token (ap token_len (sym is.written) ∙ none);
      form = is.reported ∙ ap str_to_ascii_lowercase (sym first);
      parameters = subst (λ (t : List ℕ). AreParameters t reading.parameters) (sym rest) is.parameters;
    }

pub joined : (text : List ℕ) (reading : DispositionValue) → IsSplit text reading → IsDisposition text reading
joined text reading is =
    let some : nat_lt 0 (length (take (token_len text) text)) ≡ true = rw length-prefix_len (is_some (token_len text) (ne_eqb (token_len text) 0 is.named)) in
    record {
      form = take (token_len text) text;
      rest = drop (token_len text) text;
      token = rw (some, run-passes is_token_octet text) refl;
      written = sym (take-append-drop (token_len text) text);
      reported = is.form;
      parameters = is.parameters;
    }
