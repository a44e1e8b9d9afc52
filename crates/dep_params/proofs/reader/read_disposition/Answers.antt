use Rattle.std.proofs.Common.{◌≡◌, ◌∙◌, ℕ, List, take, drop, map, bytes_eq, refl, sym, ap, subst}
use Rattle.std.specs.List.{IsDistinct}
use Rattle.std.specs.Str.{str_to_ascii_lowercase}
use Rattle.dep_params.specs.Grammar.{AreParameters, NamedValue, DispositionValue}
use Rattle.dep_params.specs.Failing.{ReportsRepeats}
use Rattle.dep_params.specs.Reading.{RefusesParameters, token_len}
use Rattle.dep_params.specs.Stored.{names_in, views}
use Rattle.dep_params.specs.declared.disposition.ParamFault.TheVariants.{Malformed, Repeated}
use Rattle.dep_params.specs.declared.disposition.Parameter.{Parameter}
use Rattle.dep_params.proofs.NameFaults.{err_is}
use Rattle.dep_params.proofs.Slots.{is_named, is_unnamed}
use Rattle.dep_params.proofs.Dispositions.{split, joined, names-views}
use Rattle.dep_params.proofs.reader.read_disposition.Goals as goal

-- the names as they are kept are those of the reading
distinct_names : (ps kept : List Parameter) → kept ≡ ps → IsDistinct bytes_eq (map (λ p. p.name.items) kept) → IsDistinct bytes_eq (map (λ (p : NamedValue). p.name) (views ps))
distinct_names ps kept same h = subst (λ (l : List (List ℕ)). IsDistinct bytes_eq l) (ap (λ (l : List Parameter). map (λ p. p.name.items) l) same ∙ sym (names-views ps)) h

distinct_kept : (ps kept : List Parameter) → kept ≡ ps → IsDistinct bytes_eq (map (λ (p : NamedValue). p.name) (views ps)) → IsDistinct bytes_eq (map (λ p. p.name.items) kept)
distinct_kept ps kept same h = subst (λ (l : List (List ℕ)). IsDistinct bytes_eq l) (names-views ps ∙ ap (λ (l : List Parameter). map (λ p. p.name.items) l) (sym same)) h

pub returns-then-is_empty-clause-malformed : goal.returns-then-is_empty-clause-malformed
returns-then-is_empty-clause-malformed c = λ h reading is.
    (split c.args.text.now reading is).named (is_unnamed c.args.text.now _ _ c.split_token.ensures.token c.is_empty.ensures c.if-is_empty.true)

pub returns-in_err-parameters-clause-malformed : goal.returns-in_err-parameters-clause-malformed
returns-in_err-parameters-clause-malformed c = λ h reading is.
    let same = err_is _ c.in_err-parameters.field-0.0 Malformed c.from_residual.ensures.1 h in
    let refuses : RefusesParameters c.split_token.result.1.now Malformed = subst (RefusesParameters c.split_token.result.1.now) same c.in_err-parameters.ensures.refused in
    refuses reading.parameters (subst (λ (t : List ℕ). AreParameters t reading.parameters) (sym c.split_token.ensures.rest) (split c.args.text.now reading is).parameters)

pub returns-in_err-refuse_repeats-clause-repeated : goal.returns-in_err-refuse_repeats-clause-repeated
returns-in_err-refuse_repeats-clause-repeated c = λ h.
    let text = c.args.text.now in
    let ps = c.in_ok-parameters.parameters.items in
    let reading : DispositionValue = record { form = str_to_ascii_lowercase (take (token_len text) text); parameters = views ps } in
    let named = is_named text _ _ c.split_token.ensures.token c.is_empty.ensures c.if-is_empty.false in
    let parameters : AreParameters (drop (token_len text) text) (views ps) = subst (λ (t : List ℕ). AreParameters t (views ps)) c.split_token.ensures.rest c.in_ok-parameters.ensures.read in
    let same = err_is _ c.in_err-refuse_repeats.field-0.0 Repeated c.from_residual-in_err-refuse_repeats.ensures.1 h in
    let bad = subst (ReportsRepeats (names_in c.deref.result.now)) same c.in_err-refuse_repeats.ensures in (
      reading,
      joined text reading (record { named = named; form = refl; parameters = parameters }),
      λ distinct. bad (distinct_kept ps c.deref.result.now c.deref.ensures.value distinct),
    )

pub returns-clause-read : goal.returns-clause-read
returns-clause-read c =
    let text = c.args.text.now in
    let ps = c.in_ok-parameters.parameters.items in
    let named = is_named text _ _ c.split_token.ensures.token c.is_empty.ensures c.if-is_empty.false in
    let rest : AreParameters (drop (token_len text) text) (views ps) = subst (λ (t : List ℕ). AreParameters t (views ps)) c.split_token.ensures.rest c.in_ok-parameters.ensures.read in
    let parameters : AreParameters (drop (token_len text) text) c.of.result.parameters = subst (λ (l : List NamedValue). AreParameters (drop (token_len text) text) l) (sym c.of.ensures.parameters) rest in
    let form : c.of.result.form ≡ str_to_ascii_lowercase (take (token_len text) text) = c.of.ensures.form ∙ c.in_ok-form.ensures.ok ∙ ap str_to_ascii_lowercase c.split_token.ensures.token in
    let distinct = distinct_names ps c.deref.result.now c.deref.ensures.value c.in_ok-refuse_repeats.ensures in (
      joined text c.of.result (record { named = named; form = form; parameters = parameters }),
      subst (λ (l : List NamedValue). IsDistinct bytes_eq (map (λ (p : NamedValue). p.name) l)) (sym c.of.ensures.parameters) distinct,
    )
