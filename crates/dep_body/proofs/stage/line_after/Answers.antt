use Rattle.std.proofs.Common.{◌++◌, ◌∷◌, [], refl, sym, ◌∙◌, subst, arith}
use Rattle.dep_body.specs.Standing.{StandsAt}
use Rattle.dep_body.proofs.SizeSteps.{both_true, is_ten, line_ended, line_long, line_goes}
use Rattle.dep_body.proofs.stage.line_after.Goals as goal

pub returns-then-ends_line : goal.returns-then-ends_line
returns-then-ends_line c = λ text content taken h.
    let both = both_true _ _ (sym c.ends_line.ensures ∙ c.if-ends_line.true) in
    subst (λ b. StandsAt c.args.limit content c.stage_of.result (text ++ b ∷ [])) (sym (is_ten c.args.byte both.1))
    (c.stage_of.ensures _ content taken (line_ended c.args.limit content text c.args.line h both.0))

pub returns-then-length-eq-LINE_LIMIT : goal.returns-then-length-eq-LINE_LIMIT
returns-then-length-eq-LINE_LIMIT c = λ text content taken h.
    line_long c.args.limit content text c.args.line c.args.byte h (sym c.ends_line.ensures ∙ c.if-ends_line.false) c.if-length-eq-LINE_LIMIT.true

pub returns : goal.returns
returns c = λ text content taken h.
    line_goes c.args.limit content text c.args.line _ c.args.byte h (sym c.ends_line.ensures ∙ c.if-ends_line.false) (omega (arith, c.args.line.short))
    refl refl c.reading_with.ensures
