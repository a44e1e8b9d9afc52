use Rattle.std.proofs.Common.{◌++◌, ◌∷◌, [], refl, sym, ◌∙◌, subst, arith}
use Rattle.dep_body.specs.Standing.{StandsAt}
use Rattle.dep_body.proofs.SizeSteps.{both_true, is_ten}
use Rattle.dep_body.proofs.SectionSteps.{section_long, section_goes}
use Rattle.dep_body.proofs.stage.section_after.Goals as goal

pub returns-then-ends_line : goal.returns-then-ends_line
returns-then-ends_line c = λ limit text content h.
    let both = both_true _ _ (sym c.ends_line.ensures ∙ c.if-ends_line.true) in
    subst (λ b. StandsAt limit content c.stage_of_line.result (text ++ b ∷ [])) (sym (is_ten c.args.byte both.1))
    (c.stage_of_line.ensures limit text content both.0 h)

pub returns-then-length-eq-SECTION_LIMIT : goal.returns-then-length-eq-SECTION_LIMIT
returns-then-length-eq-SECTION_LIMIT c = λ limit text content h.
    section_long limit content text c.args.state c.args.byte h (sym c.ends_line.ensures ∙ c.if-ends_line.false) c.if-length-eq-SECTION_LIMIT.true

pub returns : goal.returns
returns c = λ limit text content h.
    section_goes limit content text c.args.state _ c.args.byte h (sym c.ends_line.ensures ∙ c.if-ends_line.false) (omega (arith, c.args.state.short))
    refl refl refl c.reading_with.ensures
