use Rattle.std.proofs.Common.{◌++◌, ◌∷◌, [], ap, subst, sym, ◌∙◌, Some}
use Rattle.dep_body.specs.Standing.{IsBehindData, IsInLine}
use Rattle.dep_body.proofs.SizeSteps.{end_begins, end_joins, end_fails, both_true, is_ten, is_thirteen, both_are}
use Rattle.dep_body.proofs.stage.chunk_end_after.Goals as goal

pub returns-in_default : goal.returns-in_default
returns-in_default c = λ limit text content h.
    end_begins limit content text c.args.byte (subst (λ b. IsBehindData limit content b text) c.in_default.is h)

pub returns-then-not-ends_line : goal.returns-then-not-ends_line
returns-then-not-ends_line c = λ limit text content h.
    end_fails limit content text c.in-Some.first c.args.byte (subst (λ b. IsBehindData limit content b text) c.in-Some.is h)
    (both_are _ _ (sym c.ends_line.ensures ∙ c.if-not-ends_line.true))

pub returns : goal.returns
returns c = λ limit text content h.
    let both = both_true _ _ (sym c.ends_line.ensures ∙ c.if-not-ends_line.false) in
    let first = c.in-Some.is ∙ ap (λ b. Some b) (is_thirteen c.in-Some.first both.0) in
    subst (λ b. IsInLine limit content c.new.result (text ++ b ∷ [])) (sym (is_ten c.args.byte both.1))
    (end_joins limit content text c.new.result (subst (λ b. IsBehindData limit content b text) first h) c.new.ensures.length c.new.ensures.after_cr c.new.ensures.reading)
