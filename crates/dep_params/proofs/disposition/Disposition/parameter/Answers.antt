use Rattle.std.proofs.Common.{◌≡◌, ◌∙◌, ◌+◌, Option, Some, drop, option_map, sym, ap}
use Rattle.std.specs.Str.{str_eq_ignore_ascii_case}
use Rattle.dep_params.specs.Grammar.{NamedValue, DispositionValue}
use Rattle.dep_params.specs.Stored.{view, views}
use Rattle.dep_params.proofs.Lookups.{drop-views, find-here, find-later}
use Rattle.dep_params.proofs.disposition.Disposition.parameter.Goals as goal

pub returns-then-has_name : goal.returns-then-has_name
returns-then-has_name c =
    let ps = c.deref-parameter-items.result.now in
    let qs = c.args.self.now.parameters in
    let i = c.loop-parameter.parameter-index in
    let p = c.parameter-item.result in
    let name = c.args.name.now in
    let kept : qs ≡ views ps = sym (ap (λ (r : DispositionValue). r.parameters) c.self.view_is) ∙ ap views (sym c.deref-parameter-items.ensures.value) in
    let here = drop-views ps qs i p kept c.loop-parameter-test.true c.parameter-item.is in
    let found = c.loop-parameter.invariant ∙ find-here (λ q. str_eq_ignore_ascii_case q.name name) (drop i qs) (drop (i + 1) qs) (view p) here (sym c.has_name.ensures ∙ c.if-has_name.true) in
    ap Some c.deref.ensures.value ∙ sym (ap (λ (o : Option NamedValue). option_map (λ q. q.value) o) found)

pub loop-parameter-preserved : goal.loop-parameter-preserved
loop-parameter-preserved c =
    let ps = c.deref-parameter-items.result.now in
    let qs = c.args.self.now.parameters in
    let i = c.loop-parameter.parameter-index in
    let p = c.parameter-item.result in
    let name = c.args.name.now in
    let kept : qs ≡ views ps = sym (ap (λ (r : DispositionValue). r.parameters) c.self.view_is) ∙ ap views (sym c.deref-parameter-items.ensures.value) in
    let here = drop-views ps qs i p kept c.loop-parameter-test.true c.parameter-item.is in
    c.loop-parameter.invariant ∙ find-later (λ q. str_eq_ignore_ascii_case q.name name) (drop i qs) (drop (i + 1) qs) (view p) here (sym c.has_name.ensures ∙ c.if-has_name.false)
