use Rattle.std.proofs.Common.{◌≡◌, ◌∷◌, ◌∙◌, List, [], length, map, sym, ap, arith, rules, subst, refl}
use Rattle.std.specs.Char.{to_ascii_lowercase}
use Rattle.httparse.specs.Spans.{header_bytes}
use Rattle.httparse.specs.declared.spans.HeaderSpan.{HeaderSpan}
use Rattle.dep_head.specs.Head.{values_of}
use Rattle.dep_head.specs.Spans.{AreWithin, fields_at}
use Rattle.dep_head.proofs.FieldLemmas.{values_of-nil, values_of-named, values_of-other, AreWithin-rest}
use Rattle.dep_head.proofs.fields.ValuesIterator.next.Goals as goal

nil_of : (xs : List HeaderSpan) → length xs ≡ 0 → xs ≡ []
nil_of [] e = refl
nil_of (x ∷ xs) e = absurd (omega arith)

pub invariant_of-self : goal.invariant_of-self
invariant_of-self c =
    let spans = c.in-Some.ensures.cases.0 in
    AreWithin-rest c.loop-first.self-inside.text.now c.in-Some.first.now c.in-Some.rest.now (subst (AreWithin c.loop-first.self-inside.text.now) spans c.loop-first.invariant.fit)

pub returns-then-eq_ignore_ascii_case-clause-steps : goal.returns-then-eq_ignore_ascii_case-clause-steps
returns-then-eq_ignore_ascii_case-clause-steps c =
    let text = c.loop-first.self-inside.text.now in
    let name = c.loop-first.self-inside.name.now in
    let spans = c.in-Some.ensures.cases.0 in
    let same : map to_ascii_lowercase (header_bytes text c.in-Some.first.now).0 ≡ map to_ascii_lowercase name =
    ap (map to_ascii_lowercase) (sym c.of-name.ensures) ∙ c.eq_ignore_ascii_case.ensures.test.0 c.if-eq_ignore_ascii_case.true ∙ ap (map to_ascii_lowercase) c.as_bytes.ensures.value in
    sym c.self.view_is ∙ c.loop-first.invariant.same ∙ ap (λ s. values_of (fields_at text s) name) spans
    ∙ values_of-named (header_bytes text c.in-Some.first.now) (fields_at text c.in-Some.rest.now) name same
    ∙ ap (λ v. v ∷ values_of (fields_at text c.in-Some.rest.now) name) (sym c.of.ensures)

pub returns-then-eq_ignore_ascii_case-clause-goes : goal.returns-then-eq_ignore_ascii_case-clause-goes
returns-then-eq_ignore_ascii_case-clause-goes c =
    let steps = returns-then-eq_ignore_ascii_case-clause-steps c in
    search (rules, steps)

pub loop-first-preserved : goal.loop-first-preserved
loop-first-preserved c =
    let text = c.loop-first.self-inside.text.now in
    let name = c.loop-first.self-inside.name.now in
    let spans = c.in-Some.ensures.cases.0 in
    let other : map to_ascii_lowercase (header_bytes text c.in-Some.first.now).0 ≡ map to_ascii_lowercase name → ⊥ =
    λ e. let found = c.eq_ignore_ascii_case.ensures.test.1 (ap (map to_ascii_lowercase) c.of-name.ensures ∙ e ∙ ap (map to_ascii_lowercase) (sym c.as_bytes.ensures.value)) in cc in
    record {
      fit = AreWithin-rest text c.in-Some.first.now c.in-Some.rest.now (subst (AreWithin text) spans c.loop-first.invariant.fit);
      same = c.loop-first.invariant.same ∙ ap (λ s. values_of (fields_at text s) name) spans
          ∙ values_of-other (header_bytes text c.in-Some.first.now) (fields_at text c.in-Some.rest.now) name other;
    }

pub returns-clause-steps : goal.returns-clause-steps
returns-clause-steps c =
    let none : c.loop-first.self-inside.fields.now ≡ [] = nil_of _ c.in_default.ensures.cases in
    let empty : values_of (fields_at c.loop-first.self-inside.text.now c.loop-first.self-inside.fields.now) c.loop-first.self-inside.name.now ≡ [] =
    ap (λ s. values_of (fields_at c.loop-first.self-inside.text.now s) c.loop-first.self-inside.name.now) none ∙ values_of-nil _ in
    (sym c.self.view_is ∙ c.loop-first.invariant.same ∙ empty, empty)
